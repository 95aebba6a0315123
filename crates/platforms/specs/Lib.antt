pub mod CheckLists
pub mod Ranges
pub mod Platform
pub mod BootFaults
