pub mod Inserting
pub mod Declaring
pub mod Lines
pub mod LineLaws
pub mod RuleLaws
pub mod TopologyLaws
pub mod TextLaws
pub mod RegionLaws
