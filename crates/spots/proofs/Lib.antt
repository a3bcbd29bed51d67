-- The bands of the picture.
pub mod Drawing
