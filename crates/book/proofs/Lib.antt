-- Laws for the program's proofs.
pub mod Fronts
