pub mod Bare
pub mod Remeasured
pub mod Served
mod Answering
mod Looped
mod ServedFrom
mod Own
mod Lengths
mod Appended
mod Filling
mod Past
mod Read
mod Traps
pub mod LoadedBytes
pub mod Said
mod RegistersCame
mod WorldsStay
pub mod ListsKept
mod ListsPut
mod FramesTold
mod TrapsKept
pub mod Firmware
