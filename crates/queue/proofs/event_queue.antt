mod EventOfEntry
mod Draining
mod Resolving
