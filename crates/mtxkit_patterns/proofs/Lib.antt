mod ColumnProducts
mod CountedEntries
mod CountedIndices
mod LowerFactors
mod ReadOrders
mod TreeDepths
