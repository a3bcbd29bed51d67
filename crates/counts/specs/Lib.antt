-- Document 01, "Hand order", read by counting.

pub mod HandOrder
pub mod Kept
