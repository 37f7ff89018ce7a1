pub mod Boxes
pub mod Output
pub mod Sessions
pub mod Stops
pub mod Coming
