pub mod InputLaws
pub mod LogLaws
