-- Request No. 13, "Paying in real chips": the proposer.
pub mod Proposer
