pub mod InTurn
pub mod Held
pub mod Told
pub mod Pairs
pub mod Said
pub mod Judged
pub mod Certified
