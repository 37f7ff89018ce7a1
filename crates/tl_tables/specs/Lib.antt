pub mod Messages
pub mod Kinds
pub mod Params
pub mod Rules
pub mod Order
