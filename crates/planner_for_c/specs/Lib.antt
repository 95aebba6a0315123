pub mod Settings
pub mod Codes
pub mod Registers
pub mod Plans
pub mod Accesses
pub mod Judgements
pub mod Checks
