pub mod Bursts
pub mod Entries
pub mod Flow
pub mod Laws
