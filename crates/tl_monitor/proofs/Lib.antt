pub mod CheckLaws
pub mod KeptLemmas
mod FinishLemmas
mod NumberLemmas
mod PlaceLemmas
pub mod WatchLemmas
pub mod DepartureLemmas
pub mod OutLemmas
