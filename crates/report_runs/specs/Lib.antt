pub mod Amounts
pub mod Contents
pub mod Holds
pub mod ReportFiles
pub mod Reporting
