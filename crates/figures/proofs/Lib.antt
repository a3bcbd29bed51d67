-- Laws of writers one behind the other, of the tables, and of a number as it is shown.
pub mod Puts
pub mod Tables
pub mod Told
