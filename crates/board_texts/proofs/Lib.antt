mod Laid
mod Same
mod Parts
mod Files
mod Refusals
mod PageNumbers
mod PagesMet
