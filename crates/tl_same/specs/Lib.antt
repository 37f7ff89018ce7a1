pub mod Exact
pub mod SameItems
pub mod Faithful
