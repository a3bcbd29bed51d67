-- What a screen beside the table knows.
pub mod Seats
pub mod Told
pub mod Seen
