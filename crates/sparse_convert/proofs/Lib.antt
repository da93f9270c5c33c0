mod BorrowedLists
mod PlacedTriplets
mod SortedTriplets
mod Folds
mod ByKey
mod PlacedByKey
mod CountedLanes
mod IndexSums
mod Merging
mod Offsets
mod Triplets
mod MergedLanes
mod InOrder
mod SortedByMinor
mod StoredTriplets
pub mod MatrixLists
mod ConversionsKeepPlain
pub mod DenseLanes
mod AppendedLanes
mod NonzeroParts
mod DenseWriting
mod DenseValues
