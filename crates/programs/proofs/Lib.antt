-- The laws of `programs`.
pub mod Answers
pub mod Pieces
pub mod Untouched
pub mod FrameLines
pub mod EndedLines
pub mod Parts
pub mod Laws
pub mod Sheets
pub mod Explanations
pub mod Batches
pub mod Words
pub mod Stages
pub mod Chunks
pub mod Examples
