pub mod Splitting
pub mod Numerals
pub mod LinesRead
pub mod InputLines
pub mod WordsOfText
pub mod Looped
pub mod LoopStops
pub mod Mapped
mod FirstByte
mod FirstLine
pub mod PlainText
pub mod Letters
mod Counters
mod HexDigits
mod WordDigits
mod WordLines
mod Hexadecimals
mod Digits
mod DecimalPairs
pub mod PlacedWords
pub mod RawLines
pub mod Writings
pub mod Buffered
