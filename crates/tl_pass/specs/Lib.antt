pub mod Beside
pub mod LinkPass
pub mod ManagerPass
pub mod Parts
pub mod Reports
pub mod Solo
