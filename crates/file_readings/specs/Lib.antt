pub mod Readings
pub mod Reads
