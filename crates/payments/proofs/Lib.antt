pub mod SmallRows
pub mod Same
pub mod Deciding
pub mod Keeps
pub mod Cutting
