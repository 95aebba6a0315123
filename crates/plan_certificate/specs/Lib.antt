pub mod Spelling
pub mod Written
pub mod Pieces
pub mod ChainBytes
