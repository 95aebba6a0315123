pub mod Pages
pub mod Views
pub mod Comments
pub mod Boards
pub mod Monitors
pub mod ReadBack
pub mod Faults
pub mod Platforms
