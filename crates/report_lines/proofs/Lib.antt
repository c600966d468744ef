pub mod Examples
pub mod Reports
pub mod Room
pub mod ReportRoom
