pub mod Facts
pub mod FactJson
pub mod HeaderLines
pub mod Json
