mod FirstZero
mod TreeParts
pub mod OneTree
mod Reserved
pub mod Placed
mod Shapes
mod InBytes
mod OneByOne
mod Live
pub mod OneNode
mod Either
mod Uneven
mod NoRanges
mod Places
mod OneList
mod ExtentParts
