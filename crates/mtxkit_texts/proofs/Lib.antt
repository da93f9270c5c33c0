mod ExactSums
mod Heads
mod HighSums
mod ListedEntries
pub mod Revalued
mod SumRoom
mod TextFaults
pub mod UnsupportedTexts
mod WideLists
mod EntryLines
mod DocumentHeaders
mod OneWords
mod OnesLines
mod OnesContents
mod OnesTexts
