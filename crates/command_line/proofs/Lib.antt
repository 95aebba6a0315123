pub mod Begins
mod Building
mod Entered
pub mod Firsts
mod Given
mod Monitors
pub mod Passed
mod Program
pub mod Refused
mod Seconds
