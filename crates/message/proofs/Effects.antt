-- What the definitions of a call say, case by case: the proofs about code cite these and leave the definitions shut. They stand here and not
-- beside the definitions, where a wrong definition is to be refused by what is said of runs.
-- Assumes nothing.
use Rattle.std.specs.Prelude.{Option, Some, None}
use mathlib.Core.Path.{◌≡◌, refl}
use Prim.Native.Nat.{ℕ}
use Rattle.area.specs.Pick.{pick}
use Rattle.lookup.specs.declared.keyboard.KeyLParam.{KeyLParam}
use Rattle.session.specs.Given.{Inputs, brought, finished}
use Rattle.session.specs.declared.Message.{Message}
use Rattle.session.specs.Event.{Info, Held}
use Rattle.segmentation.specs.Table.{Table}
use Rattle.session.specs.Builder.{Keyboard, keyboard_of, break_table_of, from_message, held_of, press_event, char_event, release_event, fake}
use Rattle.session.specs.Session.{Wait, press, release, character, Session}
use Rattle.session.specs.Calls.{sort_of, nothing_done, message_effect, seen, holds, more_coming, finish_event, finish_held, find_wait, is_first, resolved, finish_effect, effect_of}

-- ---- a call

pub effect-brought : (s : Session) (i : Inputs) (m : Message) → effect_of s (brought i m) ≡ message_effect s (keyboard_of i) m (sort_of m)
unfolding effect_of
effect-brought s i m = refl

pub effect-finished :
    (s : Session) (i : Inputs) (t : ℕ) (p : Option Message) →
    effect_of s (finished i t p) ≡ finish_effect s (keyboard_of i) (break_table_of i) t (seen p) (find_wait t s.entries)
unfolding effect_of
effect-finished s i t p = refl

-- ---- a finish

pub finish-found :
    (s : Session) (b : Keyboard) (r : Table) (t : ℕ) (p : Option Message) (w : Wait) →
    finish_effect s b r t p (Some w) ≡ resolved (is_first t s.entries) s t (finish_event b r s.held w p) (finish_held b s.held w p)
unfolding finish_effect
finish-found s b r t p w = refl

pub finish_lost : (s : Session) (b : Keyboard) (r : Table) (t : ℕ) (p : Option Message) → finish_effect s b r t p None ≡ nothing_done s
unfolding finish_effect
finish_lost s b r t p = refl

pub event-press :
    (b : Keyboard) (r : Table) (h : Option Held) (vkey : ℕ) (l : KeyLParam) (p : Option Message) →
    finish_event b r h (press vkey l) p ≡ pick (holds p) None (pick (fake b (from_message b vkey l) p) None (Some (press_event (held_of b vkey l))))
unfolding finish_event
event-press b r h vkey l p = refl

pub event-release : (b : Keyboard) (r : Table) (h : Option Held) (n : Info) (p : Option Message) → finish_event b r h (release n) p ≡ pick (fake b n p) None (Some (release_event n))
unfolding finish_event
event-release b r h n p = refl

pub event_none : (b : Keyboard) (r : Table) (p : Option Message) → finish_event b r None character p ≡ None
unfolding finish_event
event_none b r p = refl

pub event-char : (b : Keyboard) (r : Table) (h : Held) (p : Option Message) → finish_event b r (Some h) character p ≡ pick (more_coming p) None (Some (char_event b r h))
unfolding finish_event
event-char b r h p = refl

pub held-press : (b : Keyboard) (h : Option Held) (vkey : ℕ) (l : KeyLParam) (p : Option Message) → finish_held b h (press vkey l) p ≡ pick (holds p) (Some (held_of b vkey l)) None
unfolding finish_held
held-press b h vkey l p = refl

pub held-release : (b : Keyboard) (h : Option Held) (n : Info) (p : Option Message) → finish_held b h (release n) p ≡ h
unfolding finish_held
held-release b h n p = refl

pub held_none : (b : Keyboard) (p : Option Message) → finish_held b None character p ≡ None
unfolding finish_held
held_none b p = refl

pub held-char : (b : Keyboard) (h : Held) (p : Option Message) → finish_held b (Some h) character p ≡ pick (more_coming p) (Some h) None
unfolding finish_held
held-char b h p = refl
