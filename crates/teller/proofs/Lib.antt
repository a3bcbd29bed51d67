pub mod Soundness
pub mod Saying
