-- Laws of lines that come in parts.
pub mod Keeps
pub mod Cut
pub mod Gathers
pub mod Bad
pub mod Whole
