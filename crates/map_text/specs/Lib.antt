pub mod MapFile
pub mod PrintedFields
pub mod Texts
pub mod ListedEntries
pub mod Placed
pub mod Plans
