pub mod Reports
pub mod RoundsReports
pub mod Comparing
