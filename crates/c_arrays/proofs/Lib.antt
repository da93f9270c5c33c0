pub mod Answering
pub mod ValidStatuses
pub mod Holding
pub mod Joining
mod Listing
pub mod Meanings
mod Filling
mod ScaledSums
