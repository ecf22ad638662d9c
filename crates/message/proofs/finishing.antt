mod WaitingEntry
mod FinishEffect
mod LastCharacter
