mod Buffering
pub mod EntryLoop
mod FileFaults
mod IntegerEntries
mod LineRuns
pub mod OneMeaning
mod Parts
mod PlaceLaws
mod RoundTrip
mod WrittenFields
mod WrittenLines
mod Transposed
