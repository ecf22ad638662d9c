-- What an open has passed before it does anything.
-- Assumes nothing.
use Rattle.std.specs.Prelude.{◌≡◌, true}
use Rattle.session.specs.declared.Message.{Message}
use Rattle.session.specs.Session.{Session}
use Rattle.session.specs.Builder.{Keyboard}
use Rattle.session.specs.Calls.{Sort}
use Rattle.session.specs.Questions.{question5, question7, question8, question9}

-- the questions that see to room and to the held press
pub record Passes (s : Session) (b : Keyboard) (m : Message) (k : Sort) : Type 0 where
  pub held : question5 s k ≡ true
  pub entries : question7 s b k ≡ true
  pub tokens : question8 s b k ≡ true
  pub units : question9 s m k ≡ true
