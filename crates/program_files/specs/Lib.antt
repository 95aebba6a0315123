pub mod Beside
pub mod Inputs
pub mod Reading
pub mod Troubles
