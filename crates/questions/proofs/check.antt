pub mod Tests
mod Keys
mod Records
mod Entries
mod Order
mod Whole
