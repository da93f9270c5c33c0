mod GivenCommands
mod Paths
mod SameRows
