pub mod Asked
pub mod Comments
pub mod Comparisons
pub mod Explained
pub mod Outcomes
pub mod Reasons
