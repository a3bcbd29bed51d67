-- Laws about what the page keeps.
pub mod Laws
