pub mod Behind
pub mod Listed
pub mod Covered
pub mod Joined
pub mod Leaves
pub mod Nested
pub mod Pieces
mod Rowed
mod Three
mod Four
