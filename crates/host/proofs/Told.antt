-- An event's bytes are made of the numbers and texts that a host reads, and lead back to it: so equal ones mean equal events.
-- Assumes nothing.
use Rattle.std.specs.Prelude.{Option, Some, None}
use mathlib.Core.Path.{◌≡◌, refl, sym, ap, ◌∙◌}
use mathlib.Core.Bool.{true}
use mathlib.Core.List.{List, [], ◌∷◌, ◌++◌, map}
use Prim.Native.Nat.{ℕ, ◌+◌, ◌*◌, ◌^◌}
use native.Mathlib.Omega.{arith}
use lib.ListN.{get_or}
use Rattle.area.specs.Look.{assoc}
use Rattle.keys.specs.CodeKey.{code_key}
use Rattle.session.specs.Limits.{TEXT_MOST, KEY_TEXT_MOST}
use Rattle.session.specs.Event.{Event}
use Rattle.session.specs.Session.{event_fits, all_fit}
use Rattle.session.specs.Codec.{Codec, byte, number, pair, checked, via}
use Rattle.session.specs.Area.{flag, state, location, bytes_of, text_bytes, opt_text, key_code, full_key, event}
use Rattle.session.proofs.Lists.{and_true}
use Rattle.session.proofs.Area.{event-sound}
use Rattle.export.specs.Events.{fields_of, event_text}
use Rattle.host.specs.Host.{texts_of, EventTold, Told, told}

-- a key's three numbers and its text
abbrev key_bytes : ℕ → Codec ((ℕ × (ℕ × ℕ)) × List ℕ)
key_bytes most = pair (pair (number 2) (pair byte (number 4))) (text_bytes most)

module _ (n : List ℕ) (t : List (Option (List ℕ))) where
  abbrev at : ℕ → ℕ
  at i = get_or n i 0

  abbrev bytes : ℕ → List ℕ
  bytes which = bytes_of (get_or t which None)

  -- the bytes of the event with these numbers and texts
  abbrev bytes_by : List ℕ
  bytes_by =
      (pair (number 6) (pair (key_bytes TEXT_MOST) (pair (text_bytes TEXT_MOST) (pair byte (pair byte (pair byte (pair byte (pair (text_bytes TEXT_MOST) (key_bytes KEY_TEXT_MOST))))))))).put
      (at 2 + 2 ^ 32 * (at 1 + 256 * at 0), (((at 3, (at 4, at 5)), bytes 0), (bytes 1, (at 6, (at 7, (at 8, (at 9, (bytes 2, ((at 10, (at 11, at 12)), bytes 3)))))))))

bytes-by : (e : Event) → event.put e ≡ bytes_by (fields_of e) (texts_of e)
unfolding event key_code full_key opt_text location state flag via checked pair code_key fields_of event_text assoc
bytes-by e = refl

got_back : (e : Event) → event_fits e ≡ true → event.get (event.put e ++ []) ≡ e
got_back e f = (event-sound.back e [] f).1

pub event-told : EventTold
event-told e f p q n t =
    let same : event.put e ≡ event.put f
    = bytes-by e ∙ ap (λ (m : List ℕ). bytes_by m (texts_of e)) n ∙ ap (bytes_by (fields_of f)) t ∙ sym (bytes-by f) in
    sym (got_back e p) ∙ ap (λ (l : List ℕ). event.get (l ++ [])) same ∙ got_back f q

-- ---- lists of events

-- what a host should have of it tells the event
told_apart : (e f : Event) → event_fits e ≡ true → event_fits f ≡ true → told e ≡ told f → e ≡ f
unfolding told
told_apart e f p q h =
    let fields : Some (fields_of e) ≡ Some (fields_of f) = ap (λ (x : Told). x.fields) h in
    let same : fields_of e ≡ fields_of f = cc in
    event-told e f p q same (ap (λ (x : Told). x.texts) h)

pub events-told : (es fs : List Event) → all_fit es ≡ true → all_fit fs ≡ true → map told es ≡ map told fs → es ≡ fs
unfolding all_fit
events-told [] [] p q h = refl
events-told [] (f ∷ fs) p q h = absurd (let z : ◌≡◌ {A = ℕ} 0 1 = cc in omega arith)
events-told (e ∷ es) [] p q h = absurd (let z : ◌≡◌ {A = ℕ} 0 1 = cc in omega arith)
events-told (e ∷ es) (f ∷ fs) p q h =
    let a = and_true (event_fits e) (all_fit es) p in
    let b = and_true (event_fits f) (all_fit fs) q in
    let first : told e ≡ told f = cc in
    let rest : map told es ≡ map told fs = cc in
    rw (told_apart e f a.0 b.0 first, events-told es fs a.1 b.1 rest)
