pub mod History
pub mod Rule
pub mod Passes
pub mod Telling
pub mod Working
pub mod Desks
