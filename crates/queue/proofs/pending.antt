mod NewEntry
mod EntryLoops
pub mod EntryOfToken
