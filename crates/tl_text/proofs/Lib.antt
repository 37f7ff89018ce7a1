pub mod Cuts
pub mod Numerals
pub mod Spelling
pub mod AsciiNames
pub mod Writes
mod Joins
pub mod Digits
