pub mod ChainEntries
