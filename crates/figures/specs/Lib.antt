-- What one row of the picture is, and what stands in it.
pub mod Placing
pub mod Words
pub mod Grouped
pub mod Lamp
pub mod ScreenRow
