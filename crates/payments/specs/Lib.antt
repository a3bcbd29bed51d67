-- Request No. 13, "Paying in real chips": what `pay` writes.
pub mod Payments
pub mod Answering
