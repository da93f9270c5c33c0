-- the lines of a text
pub mod Lines
pub mod InnerLines
-- faults
pub mod ValueTypes
pub mod LineFaults
pub mod FirstFaults
pub mod InnerFirstFaults
