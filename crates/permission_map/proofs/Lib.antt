pub mod Rising
pub mod Determined
pub mod Searched
pub mod Seams
pub mod Parted
pub mod Overwritten
pub mod Answered
pub mod Counted
pub mod PointLists
pub mod PointRuns
pub mod PointSets
mod Opened
pub mod Turns
pub mod Changed
pub mod Planned
