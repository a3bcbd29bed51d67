-- What the easel has drawn of a part.
pub mod Drawing
