mod Followed
mod Growing
mod PlainSettings
mod Printed
mod EntryLines
