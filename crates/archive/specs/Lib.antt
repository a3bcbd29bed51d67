-- The stored log and its index, as they stand for a list of taken entries.
pub mod Archive
