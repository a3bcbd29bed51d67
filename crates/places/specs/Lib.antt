-- No section of the paper: what the theorems compute with.

pub mod Weigh
