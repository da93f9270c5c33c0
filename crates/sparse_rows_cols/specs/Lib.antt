pub mod RowWriting
pub mod ColWriting
pub mod InnerRowWriting
pub mod InnerColWriting
