pub mod Bit
pub mod BitTexts
pub mod Residue7
pub mod Small
