pub mod Commands
pub mod TripletPatterns
pub mod Inputs
pub mod Writes
pub mod Fills
pub mod Failures
pub mod Reports
pub mod Outcomes
