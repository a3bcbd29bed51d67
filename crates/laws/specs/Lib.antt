-- Words that every section of the paper uses: tests, lists.
pub mod Tests
pub mod Lists
pub mod Often
pub mod Some
pub mod Bits
pub mod Listing
