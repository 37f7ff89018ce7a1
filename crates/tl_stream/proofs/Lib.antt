pub mod FrontLemmas
pub mod PartLemmas
pub mod FeedLemmas
pub mod BeatLemmas
pub mod CourseLemmas
pub mod StreamLemmas
pub mod LawLemmas
pub mod AcceptLemmas
pub mod EndLemmas
mod EndCounts
pub mod EndingLemmas
pub mod ShareLemmas
