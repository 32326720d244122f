pub mod Numbers
pub mod Ports
pub mod Subcommands
pub mod Calls
pub mod Networks
pub mod Parsing
