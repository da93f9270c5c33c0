pub mod SparseVectors
pub mod InnerKernels
pub mod DenseOperands
pub mod InnerBlocks
pub mod InnerUpdates
pub mod Solutions
pub mod Quotients
pub mod InnerColumns
