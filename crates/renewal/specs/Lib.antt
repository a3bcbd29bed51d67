-- A log from before the later requests, with today's sheet.
pub mod OldSheets
pub mod Renewing
pub mod Parts
