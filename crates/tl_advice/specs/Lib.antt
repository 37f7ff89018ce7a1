pub mod Tallies
pub mod LinkCounts
pub mod Summaries
