use mathlib.Core.Path.{◌≡◌, refl}
use denote.Enum.Declared.{tag_of}
use Rattle.session.specs.Area.{state_number}
use Rattle.session.specs.contracts.ElementState.{the_type}
use Rattle.session.specs.declared.ElementState.{ElementState}
use Rattle.session.specs.declared.ElementState.TheVariants.{Pressed, Released}
use Rattle.record.proofs.write.Marks.{marks_written}
use Rattle.record.proofs.write.put_marks.Goals as goal

state_tag : (s : ElementState) → tag_of the_type s ≡ state_number s
unfolding state_number
state_tag Pressed = refl
state_tag Released = refl

pub returns : goal.returns
returns c =
    let a = c.args in
    marks_written a.l a.st a.repeat a.synthetic a.at a.s.now c.from.ensures
    c.put_u8.ensures (state_tag a.st) c.put_u8-2.ensures c.put_flag.ensures
    c.put_flag-2.ensures refl refl refl
