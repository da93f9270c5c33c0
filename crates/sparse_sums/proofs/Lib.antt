pub mod GainedLanes
pub mod Merging
mod UnionLanes
pub mod Adding
pub mod BuiltSums
pub mod SumLanes
pub mod TargetLookups
pub mod UpdatedLanes
mod InOrder
pub mod Updating
mod Sampling
