-- the lines of a text
pub mod CountedLines
pub mod LineEnds
pub mod LineLists
-- data lines
mod ArrayPlaces
mod EntryFaults
mod LineTriplets
mod LineWords
-- the search
mod DocumentSizes
mod FaultNumbers
mod FirstFault
mod PassedLines
mod SearchedLines
mod SizedLines
mod SkippedLines
