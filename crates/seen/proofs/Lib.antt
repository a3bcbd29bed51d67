-- Laws for what is seen.
pub mod Laws
pub mod Feeds
pub mod Least
