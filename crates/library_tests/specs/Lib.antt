pub mod Duties
pub mod Fences
pub mod Harts
pub mod Life
pub mod Served
pub mod Starts
pub mod BootList
pub mod WorkedTrees
