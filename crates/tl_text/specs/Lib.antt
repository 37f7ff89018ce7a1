pub mod Words
pub mod Numbers
pub mod Names
pub mod Naming
pub mod Written
pub mod Readings
pub mod Spelled
