-- General laws, each said once, over any element type, function or length.
pub mod Tests
pub mod Places
pub mod Rules
pub mod Some
pub mod Rows
pub mod Five
pub mod Compare
pub mod Often
pub mod Bits
pub mod Sums
pub mod Conjunction
pub mod Parts
pub mod Above
pub mod Members
pub mod Standing
pub mod Choosing
