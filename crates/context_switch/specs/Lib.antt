pub use Rattle.sbi_decode.specs.Runners
pub mod Contexts
pub mod Harts
pub mod Switch
