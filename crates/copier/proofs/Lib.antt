-- Laws of a log that is copied fair as it comes.

pub mod Onward
pub mod Steps
pub mod Feeds
pub mod On
pub mod Parts
