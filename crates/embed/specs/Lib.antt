-- What makers link: the calls as the log arrives.
pub mod Lent
pub mod Maker
