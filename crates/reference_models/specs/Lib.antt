pub mod Pairs
pub mod Texts
pub mod DenseFactors
pub mod InnerClosure
pub mod InnerOffsets
pub mod InnerTexts
pub mod InnerOperation
pub mod InnerEquations
