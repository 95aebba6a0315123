pub mod Events
pub mod Faults
pub mod EventWords
pub mod Plain
pub mod Answers
pub mod Texts
