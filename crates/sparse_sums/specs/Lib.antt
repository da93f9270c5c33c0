pub mod PatternSums
pub mod InnerMerging
pub mod InnerSigns
pub mod InnerExtensions
pub mod InnerAdding
pub mod InnerTargets
