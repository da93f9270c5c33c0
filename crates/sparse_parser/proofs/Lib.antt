pub mod ByteClasses
pub mod Digits
mod TextOffsets
mod Runs
mod EntryLaws
mod FirstWord
mod IntegerWords
mod IntegerLaws
pub mod LeadingBytes
pub mod ContentLaws
pub mod FirstLines
pub mod LineLaws
pub mod LineShapes
pub mod NumberLaws
pub mod WordLaws
pub mod WrittenWords
