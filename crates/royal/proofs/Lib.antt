-- Laws of the royal flush.
pub mod Laws
pub mod Once
