-- What makers link: what is proved of the calls.
pub mod Codes
pub mod Calls
pub mod Maker
