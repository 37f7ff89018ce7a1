pub mod BesideLaws
pub mod JoinLaws
pub mod LinkPassLaws
pub mod LinkPassOwn
pub mod ManagerPassLaws
pub mod SoloLaws
pub mod StandingLaws
