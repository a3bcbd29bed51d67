pub mod Sums
pub mod Front
pub mod Within
pub mod Judging
pub mod Accepts
