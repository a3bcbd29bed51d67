-- Laws of a log that gets today's sheet.
pub mod Steps
pub mod Parts
pub mod Old
