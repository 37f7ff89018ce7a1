pub mod TallyLaws
pub mod CountLaws
pub mod SummaryLaws
