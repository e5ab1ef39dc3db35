-- The laws of `running`.
pub mod Running
pub mod Carrying
pub mod Calls
pub mod Promises
