pub mod Lines
pub mod Kept
pub mod PartLaws
pub mod MergeLaws
pub mod JsonLines
pub mod JsonLaws
