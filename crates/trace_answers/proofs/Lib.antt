mod Behind
mod ExplainedRuns
pub mod FirstDifference
pub mod Judged
mod ListsMet
