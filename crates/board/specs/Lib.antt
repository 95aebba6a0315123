pub mod Answers
pub mod Board
pub mod Headline
pub mod Held
pub mod Model
pub mod Stays
pub mod Timed
