pub mod Hex
pub mod Counts
pub mod Text
