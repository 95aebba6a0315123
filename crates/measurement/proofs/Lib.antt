pub mod BlankPages
