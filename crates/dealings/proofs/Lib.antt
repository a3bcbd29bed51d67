-- Laws about a hand as its section needs it.
pub mod Laws
