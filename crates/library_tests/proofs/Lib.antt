mod Entered
mod InTurn
mod Known
pub mod Booted
pub mod BootNeeds
pub mod Accepted
