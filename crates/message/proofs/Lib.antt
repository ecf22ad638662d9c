mod Effects
mod Asked
mod CallAnswers
