pub mod Costs
pub mod Spelling
pub mod Tags
pub mod Faults
