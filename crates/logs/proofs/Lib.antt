-- Laws of what is written: the sheet's lines and an entry's, read back and written back.

pub mod SheetText
pub mod EntryText
pub mod KindRows
pub mod Puts
pub mod Copies
pub mod Fair
