-- What the mission's sentences say.

pub mod Allowed
pub mod Does
pub mod Settled
pub mod Winners
pub mod Examples
pub mod Blocks
pub mod Demands
pub mod Box
