mod ApartLemmas
mod TaskLemmas
pub mod CurrentLemmas
pub mod CoverLemmas
pub mod EntryLemmas
pub mod OpenLemmas
pub mod FoundLemmas
pub mod CheckLemmas
pub mod WindowLemmas
pub mod TouchLemmas
pub mod TouchedLemmas
pub mod EditLemmas
pub mod LiveLemmas
pub mod RecheckLemmas
pub mod TicketLemmas
mod MonitorLemmas
mod PassLemmas
mod RowLemmas
mod TouchedWatchLemmas
pub mod AfterLemmas
mod KeyLemmas
mod OwnerLemmas
mod WatchTaskLemmas
mod OutsideLemmas
