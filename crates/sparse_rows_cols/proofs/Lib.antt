pub mod MutBorrowImports
