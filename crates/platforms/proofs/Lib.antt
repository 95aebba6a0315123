pub mod ShortNames
pub mod Apart
pub mod Among
pub mod Mapped
