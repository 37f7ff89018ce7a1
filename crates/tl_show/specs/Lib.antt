pub mod Lines
pub mod Shown
