-- A hand as its section of the page needs it.
pub mod Dealings
