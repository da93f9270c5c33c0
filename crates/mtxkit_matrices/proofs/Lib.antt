-- facts
mod LaneCounts
mod LongestLanes
mod EntriesLeft
-- pictures
mod CellCounts
-- systems, and the values of matrices
mod ColumnOrders
mod FirstDifferences
mod SingularPivots
mod SymmetricSystems
mod ZeroValues
-- decimals: numbers
mod DecimalValues
mod Magnitudes
mod ScaledValues
mod TrimmedDigits
-- decimals: lines and texts
pub mod CopiedLines
mod DocumentLines
mod GrownLists
mod HeaderLines
pub mod KeptLines
mod LeastScales
mod Rewriting
pub mod ScaleRefusals
mod WrittenLines
