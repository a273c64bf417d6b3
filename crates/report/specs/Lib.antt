pub mod BookFiles
pub mod OpeningReports
pub mod Reports
pub mod RunReports
pub mod StateReports
pub mod Rooms
pub mod Views
