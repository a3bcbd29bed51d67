-- A sheet and an entry as they are written, and a log copied fair.
pub mod LogText
pub mod FairCopy
