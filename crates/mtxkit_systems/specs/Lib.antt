pub mod Systems
pub mod SystemErrors
