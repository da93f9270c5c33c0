pub mod CsrWriting
pub mod CscWriting
pub mod InnerCsrWriting
pub mod InnerCscWriting
pub mod CsrData
pub mod CscData
