-- Request No. 13, "Paying in real chips": what a line of `pay` says, and what is kept between two lines.
pub mod Lines
pub mod Keeping
