-- What comes of an open message, by what was peeked, and what its finish leaves.
-- Assumes nothing.
use Rattle.std.specs.Prelude.{Option, Some, None}
use mathlib.Core.Path.{◌≡◌, refl, sym, ap, ◌∙◌}
use mathlib.Core.Bool.{Bool, true, false, not, ◌&&◌}
use mathlib.Core.List.{List, []}
use Prim.Native.Nat.{ℕ}
use Rattle.segmentation.specs.Table.{Table}
use Rattle.keys.specs.Text.{bare_of}
use Rattle.keys.proofs.Full.{bare_full}
use Rattle.lookup.specs.Layout.{part_of}
use Rattle.lookup.specs.declared.keyboard.KeyLParam.{KeyLParam}
use Rattle.session.specs.Event.{Event, Info, Held}
use Rattle.session.specs.declared.Message.{Message}
use Rattle.session.specs.Session.{Wait, press, release, character, Session, units_within}
use Rattle.session.specs.Area.{encode, decode, encode_answer}
use Rattle.session.specs.Builder.{Keyboard, from_message, mark_of, held_of, press_event, release_event, char_event, fake}
use Rattle.session.specs.InBlock.{info_in}
use Rattle.session.specs.declared.PartialKeyEventInfo.{PartialKeyEventInfo}
use Rattle.session.specs.Calls.{Effect, holds, more_coming, finish_event, finish_held, find_wait, is_first, resolved}
use Rattle.session.specs.Questions.{is_held}
use Rattle.message.proofs.Effects.{finish-found, event-press, event-release, event_none, event-char, held-press, held-release, held_none, held-char}
use Rattle.event.specs.Written.{keyboard_at}
use Rattle.queue.specs.Changed.{Does, holding, resolved_by}
use Rattle.queue.specs.Place.{StandsAt}
use Rattle.queue.proofs.Areas.{AreaOf}
use Rattle.message.specs.Resolves.{finished_by}

-- a character completes the held press: one is held, and it is the last
pub held_and_last : (o : Option Held) (m : Bool) → (is_held o && not m) ≡ true → (is_held o ≡ true) × (m ≡ false)
held_and_last (Some g) false e = (refl, refl)
held_and_last (Some g) true e = let z : false ≡ true = e in (refl, sym z)
held_and_last None m e = let z : false ≡ true = e in (z, (cc))

-- a press as it is read from the layout, with no units yet
abbrev pub press_of : List ℕ → PartialKeyEventInfo → ℕ → Bool → Held
press_of block n vkey mark = record { info = info_in block n; vkey = vkey; mark = mark; units = [] }

-- the logical key alone, as the code has it
pub key_of : (block : List ℕ) (n : PartialKeyEventInfo) → bare_of (info_in block n).logical_key ≡ n.logical_key.key
unfolding info_in
key_of block n = bare_full n.logical_key.key (part_of block n.logical_key)

pub made_held :
    (block state : List ℕ) (vkey : ℕ) (l : KeyLParam) (n : PartialKeyEventInfo) {mark : Bool} → info_in block n ≡ from_message (keyboard_at state block) vkey l →
    mark ≡ mark_of (keyboard_at state block) (info_in block n) → press_of block n vkey mark ≡ held_of (keyboard_at state block) vkey l
unfolding held_of
made_held block state vkey l n i m = rw (m, i) refl

-- a new press has no units
pub new_within : (b : Keyboard) (vkey : ℕ) (l : KeyLParam) → units_within (Some (held_of b vkey l)) ≡ true
unfolding units_within held_of
new_within b vkey l = refl

-- the press's info is what it was read to be
press-info : (b : Keyboard) (vkey : ℕ) (l : KeyLParam) → (held_of b vkey l).info ≡ from_message b vkey l
unfolding held_of
press-info b vkey l = refl

-- what comes of the open message of a token: o its event, if it gives one, and h the press that is held after it
pub record Way (s : Session) (b : Keyboard) (r : Table) (t : ℕ) (p : Option Message) (o : Option Event) (h : Option Held) : Type 0 where
  pub wait : Wait
  pub found : find_wait t s.entries ≡ Some wait
  pub event : finish_event b r s.held wait p ≡ o
  pub after : finish_held b s.held wait p ≡ h

module _ (s : Session) (b : Keyboard) (r : Table) (t : ℕ) (p : Option Message) where
  -- ---- a press

  module _ (vkey : ℕ) (l : KeyLParam) (w : find_wait t s.entries ≡ Some (press vkey l)) (h : Held) (m : h ≡ held_of b vkey l) where
    as_read : {q : Bool} → fake b h.info p ≡ q → fake b (from_message b vkey l) p ≡ q
    as_read f = ap (λ (n : Info). fake b n p) (sym (ap (λ (g : Held). g.info) m ∙ press-info b vkey l)) ∙ f

    pub press-held : holds p ≡ true → Way s b r t p None (Some h)
    press-held e =
        record {
          wait = press vkey l;
          found = w;
          event = event-press b r s.held vkey l p ∙ rw e refl;
          after = held-press b s.held vkey l p ∙ rw e (ap Some (sym m));
        }

    pub press-fake : holds p ≡ false → fake b h.info p ≡ true → Way s b r t p None None
    press-fake e f =
        record {
          wait = press vkey l;
          found = w;
          event = event-press b r s.held vkey l p ∙ rw (e, as_read f) refl;
          after = held-press b s.held vkey l p ∙ rw e refl;
        }

    pub press_done : holds p ≡ false → fake b h.info p ≡ false → {v : Event} → v ≡ press_event h → Way s b r t p (Some v) None
    press_done e f v =
        record {
          wait = press vkey l;
          found = w;
          event = event-press b r s.held vkey l p ∙ rw (e, as_read f) (ap Some (sym (v ∙ ap press_event m)));
          after = held-press b s.held vkey l p ∙ rw e refl;
        }

  -- ---- a release

  module _ (n : Info) (w : find_wait t s.entries ≡ Some (release n)) where
    pub release-fake : fake b n p ≡ true → Way s b r t p None s.held
    release-fake e =
        record { wait = release n; found = w; event = event-release b r s.held n p ∙ rw e refl; after = held-release b s.held n p }

    pub release_done : fake b n p ≡ false → {v : Event} → v ≡ release_event n → Way s b r t p (Some v) s.held
    release_done e v =
        record {
          wait = release n;
          found = w;
          event = event-release b r s.held n p ∙ rw e (ap Some (sym v));
          after = held-release b s.held n p;
        }

  -- ---- a character

  module _ (w : find_wait t s.entries ≡ Some character) where
    -- nothing is completed: no press is held, or more is coming
    pub char_dropped : (is_held s.held && not (more_coming p)) ≡ false → Way s b r t p None s.held
    char_dropped e = record { wait = character; found = w; event = (dropped s.held (more_coming p) e refl).0; after = (dropped s.held (more_coming p) e refl).1 }
      where
        dropped :
            (o : Option Held) (m : Bool) → (is_held o && not m) ≡ false → more_coming p ≡ m →
            (finish_event b r o character p ≡ None) × (finish_held b o character p ≡ o)
        dropped None m e f = (event_none b r p, held_none b p)
        dropped (Some g) true e f = (event-char b r g p ∙ rw f refl, held-char b g p ∙ rw f refl)
        dropped (Some g) false e f = let z : true ≡ false = e in ((cc), (cc))

    pub char_done : (g : Held) → s.held ≡ Some g → more_coming p ≡ false → {v : Event} → v ≡ char_event b r g → Way s b r t p (Some v) None
    char_done g e m v =
        record {
          wait = character;
          found = w;
          event = rw e (event-char b r g p ∙ rw m (ap Some (sym v)));
          after = rw e (held-char b g p ∙ rw m refl);
        }

-- ---- what the finish leaves, from what resolving the entry left

-- the entry stands at the same place of an area in which only the held press differs
pub same_place :
    (x : List ℕ) (h : Option Held) {y : List ℕ} (t place : ℕ) → AreaOf (holding (decode x) h) y → StandsAt x t place → StandsAt y t place
same_place x h t place a s = record { area = a.area; found = rw a.back s.found; within = rw a.back s.within }

held_apart : (v : Bool) (s : Session) (h : Option Held) (t : ℕ) (o : Option Event) → resolved v (holding s h) t o h ≡ resolved v s t o h
unfolding resolved
held_apart true s h t o = refl
held_apart false s h t o = refl

-- the entry resolved with o, in the area of the session that holds h
pub finished :
    (s : Session) (b : Keyboard) (r : Table) (t : ℕ) (p : Option Message) (o : Option Event) (h : Option Held) → Way s b r t p o h → (x : List ℕ) {y z : List ℕ} →
    decode x ≡ holding s h → Does (resolved_by (decode x) t o) y z → Does (finished_by s b r t p) y z
finished s b r t p o h w x e d =
    let k : resolved_by (decode x) t o ≡ resolved (is_first t s.entries) s t o h = rw e (held_apart (is_first t s.entries) s h t o) in
    rw (w.found, finish-found s b r t p w.wait, w.event, w.after)
    (record { session = d.session ∙ ap (λ (f : Effect). encode f.after) k; answers = d.answers ∙ ap (λ (f : Effect). encode_answer f.events) k })
