pub mod Regions
pub mod Faults
pub mod Topology
pub mod Reading
pub mod Text
pub mod Declarations
pub mod FirstFault
pub mod Laws
