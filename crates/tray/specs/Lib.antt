-- Request No. 13, "Paying in real chips": the tray and a proposal.
pub mod Counting
pub mod Proposal
