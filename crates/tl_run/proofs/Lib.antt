pub mod OutputLaws
pub mod RunLaws
pub mod FrontLaws
pub mod ComingLaws
pub mod MakingLaws
pub mod SessionLaws
pub mod LineLaws
