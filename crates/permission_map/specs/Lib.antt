pub mod Faults
pub mod Runs
pub mod Views
pub mod Search
pub mod Overwrite
pub mod Points
