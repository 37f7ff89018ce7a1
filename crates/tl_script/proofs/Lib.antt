pub mod WordTexts
pub mod LineTexts
pub mod CommandTexts
pub mod ScriptLaws
pub mod FaultLaws
pub mod ReadCommands
pub mod Visits
pub mod AcceptedLaws
