pub mod Held
pub mod Places
pub mod Shown
pub mod Boxes
