-- Laws in the shape of the code.
pub mod Answering
pub mod Taking
