mod FillLaws
mod LeastFill
mod FillPathTheorem
mod DistinctLists
mod FactorLaws
mod Alternatives
mod Runs
mod JoinedRuns
pub mod Pairs
mod AddedRows
mod TransposedCounts
mod Marks
mod Tails
mod MergedTails
mod Children
mod Merged
mod LinkedToParent
mod AppendedColumns
mod CountedMerges
pub mod RingFacts
pub mod Columns
mod ClosedSets
mod ColumnUpdates
pub mod NextColumn
pub mod PlainProducts
mod Cursors
mod LaneCuts
pub mod FilledSets
mod FillPatterns
mod SolvedFactors
mod ScaledRows
mod TransposedRows
mod RowEntries
mod UpperTriangles
mod FactorsOfFill
mod Results
mod UniqueFactors
mod GatheredColumns
mod EntryValues
mod ColumnSteps
mod AddedFour
mod SharedRows
mod NestedTails
mod FourEntries
mod MovedCursors
mod NestedFlags
mod SymmetricMatrices
mod OrderedSystems
mod PermutedFactors
mod LeadingBlocks
