pub mod RunReporting
