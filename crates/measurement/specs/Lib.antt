pub mod Measured
pub mod Progress
pub mod Requests
pub mod Digests
