pub mod Numbers
pub mod CostBytes
pub mod Headers
pub mod InNodes
pub mod Trees
