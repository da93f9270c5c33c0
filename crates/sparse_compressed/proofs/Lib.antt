mod EntryOffsets
mod TripletSums
pub mod Arrays
pub mod TripletBounds
pub mod ArraysDeterminePlain
pub mod ChangedPlain
pub mod AddedLanes
pub mod LaneValues
pub mod BuiltMatrices
pub mod Updates
pub mod RowOrder
pub mod ColOrder
pub mod FoundEntries
mod IdentityArrays
mod Repeats
pub mod LaneSearch
mod MutIteratorLanes
mod NextLane
mod LaneSortingLemmas
mod UnsortedLanes
mod FirstUnsortedFault
mod SoundLanes
mod ReportedFaults
mod SortedForm
pub mod Kept
mod KeptLanes
pub mod KeptPlain
pub mod MatrixTransposes
