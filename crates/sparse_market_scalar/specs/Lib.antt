pub mod IntegerTexts
pub mod ScalarTypes
