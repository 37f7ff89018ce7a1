pub mod Texts
pub mod KeptLaws
pub mod SurveyLaws
pub mod Noted
