mod FocusAnswers
mod FocusQueued
mod MessageOpened
mod CharacterOpened
mod AnsweredWhole
mod RoomPassed
