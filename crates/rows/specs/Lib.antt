-- Request No. 13, "Paying in real chips": the tray as a lent slice of row structs.
pub mod Rows
pub mod Columns
