mod Pigeonhole
pub mod Orders
pub mod Reindexing
pub mod PermutedPlain
pub mod PermutedProducts
pub mod PermutedTriplets
mod RenumberedLists
mod PermutedEntries
mod PermutedColumns
mod DenseRows
