mod PlainLines
mod Keywords
mod Calls
mod EventWords
mod ForJudge
mod PlainEvents
mod PlainFronts
pub mod Judged
mod OneDigit
mod FaultTexts
mod ReplyTexts
