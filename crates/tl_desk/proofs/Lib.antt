mod MonitorJobLemmas
mod BoxLemmas
mod FirstLemmas
mod AttachedLemmas
mod TicketLemmas
mod EndLemmas
mod ReportLemmas
mod WatchLemmas
mod TallyLemmas
mod JobLemmas
pub mod HereLemmas
mod PlayLemmas
mod OldestLemmas
pub mod SettledLemmas
mod RecallLemmas
mod FinishLemmas
pub mod AlikeBoxes
pub mod AlikeBoards
pub mod AlikeSteps
pub mod BlankLemmas
mod PlayAlikePieces
mod PlayAlikeBoards
mod PlayAlikeJobs
mod PlayAlikeSteps
mod PlayAlikePlays
