-- The bench program's lines, and the whole report.
pub mod Lines
pub mod Report
