pub mod MemberLaws
pub mod ReadingLaws
pub mod BoundLaws
pub mod SureLaws
pub mod CountLaws
pub mod CountedLaws
pub mod OpenedLaws
pub mod KnownLaws
pub mod StandLaws
pub mod Results
pub mod KnownPastLaws
pub mod StandingLaws
pub mod LinkReadingLaws
pub mod PlaceLaws
pub mod ManagerReadingLaws
pub mod PrintedLaws
pub mod HeadRowLaws
pub mod StateLaws
pub mod WalkLaws
pub mod LeadInLaws
pub mod MidwayReportLaws
pub mod UnjudgedLaws
pub mod AskedLaws
pub mod UnjudgedStandLaws
pub mod CountsLaws
pub mod PlainMessages
pub mod ApartLaws
mod ApartCounts
mod JudgedLaws
mod SeenLaws
mod NamedLaws
mod NamedRows
mod NoLeadIns
pub mod LeadInsByLink
