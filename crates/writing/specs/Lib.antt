-- What document 01's text form says of writing: bytes at the front of a lent sheet, and a sheet that is too short.
pub mod AnswerSheet
pub mod Codes
pub mod Nine
