pub mod KeyCounts
mod StableOrders
pub mod CountLemmas
pub mod Cursors
pub mod PatternLanes
mod LaneOffsets
pub mod OffsetsInLanes
mod EntryOrder
pub mod LaneOrder
pub mod SameEntries
mod NextEntry
mod PackedWords
pub mod FirstFaults
mod ListedTransposes
mod PatternTransposes
mod PlacedValues
pub mod LaneLists
pub mod PushedLanes
pub mod BuiltLanes
mod MirroredEntries
