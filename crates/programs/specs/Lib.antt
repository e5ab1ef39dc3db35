-- What the programs write, what the run program keeps and does while its input arrives, and the call on many frame lines.
pub mod Output
pub mod Sheet
pub mod Explain
pub mod Batch
pub mod Stage
pub mod Course
