pub mod Picks
pub mod Waivers
pub mod Printed
pub mod Merging
pub mod JsonReports
pub mod Parts
pub mod JsonParts
