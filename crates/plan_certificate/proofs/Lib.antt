pub mod Spelled
pub mod Sums
pub mod Sent
pub mod ChainSpelled
