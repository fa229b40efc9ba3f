pub mod RoundsReporting
