pub mod TripletLists
pub mod TripletRuns
pub mod DenseLemmas
pub mod BlockLemmas
pub mod Meanings
pub mod CooParts
