pub mod Value
pub mod PostfixWords
pub mod OneTree
pub mod Run
pub mod InnerRun
pub mod InnerTransposed
pub mod InnerSources
