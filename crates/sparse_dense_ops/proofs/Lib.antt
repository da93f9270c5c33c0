mod Terms
pub mod SparseVectors
mod Operands
mod DotSteps
mod ColumnUpdates
mod ColumnBlocks
mod DenseValues
mod PlainUpdates
pub mod RingSteps
mod Substitutions
mod BelowDiagonal
pub mod ColumnSteps
mod Refills
pub mod SolvedColumns
mod Elimination
pub mod PlainSolutions
mod Uniqueness
mod UniqueSolutions
