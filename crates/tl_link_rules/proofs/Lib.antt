pub mod BurstLaws
pub mod SameBurstLaws
pub mod Lanes
pub mod Picks
mod Clean
pub mod FlowLaws
pub mod SameLaws
pub mod OpenLaws
pub mod LinkLaws
pub mod StandLaws
