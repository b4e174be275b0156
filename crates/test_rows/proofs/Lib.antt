mod Unnamed
mod NamesKept
mod Worlds
mod Named
mod TwoArguments
