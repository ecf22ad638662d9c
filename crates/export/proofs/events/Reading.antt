-- Where a text of an event stands in the bytes that the event is read in.
-- Assumes nothing.
use Rattle.std.specs.Prelude.{Some}
use Rattle.std.specs.Bool.{then_some}
use Rattle.std.proofs.Common.{◌≡◌, ℕ, ◌+◌, ◌-◌, ◌≤◌, true, List, length, take, drop, get_or, sym, arith}
use Rattle.std.proofs.lemmas.Grind.{common_steps}
use Rattle.area.proofs.Splice.{part_length}
use Rattle.session.specs.Limits.{TEXT_MOST, ANSWER_EVENT_SIZE}
use Rattle.session.specs.Area.{event}
use Rattle.export.specs.Events.{place, is_answer, is_event, event_at, text_at, text_place}
use Rattle.export.proofs.Fields.{text-read}

-- b is from event i on
record Found (x : List ℕ) (i : ℕ) (b : List ℕ) : Type 0 where
  ok : event.ok b ≡ true
  long : ANSWER_EVENT_SIZE ≤ length b
  is : event_at x i ≡ Some (event.get b)

found : (x : List ℕ) (i : ℕ) (b : List ℕ) → Some b ≡ then_some (is_event x i) (drop (place i) x) → Found x i b
unfolding event_at is_event is_answer
found x i b e = record {
  ok = grind (arith, common_steps);
  long = grind (arith, common_steps);
  is = grind (arith, common_steps);
}

-- its text `which` stands from p on: its length n, its bytes
pub record TextFound (x : List ℕ) (i which : ℕ) (b : List ℕ) (p n : ℕ) : Type 0 where
  pub within : p + 1 + n ≤ length b
  pub in_event : p + 1 + n ≤ ANSWER_EVENT_SIZE
  pub is : Some (take (p + 1 + n - (p + 1)) (drop (p + 1) b)) ≡ text_at (event_at x i) which
  pub short : length (take (p + 1 + n - (p + 1)) (drop (p + 1) b)) ≤ TEXT_MOST

pub text_found :
    (x : List ℕ) (i which : ℕ) (b : List ℕ) (p n : ℕ) → Some b ≡ then_some (is_event x i) (drop (place i) x) → which ≤ 3 → p ≡ text_place which → n ≡ get_or b p 0 →
    TextFound x i which b p n
unfolding text_at
text_found x i which b p n e h ep en =
    let f = found x i b e in
    let t = text-read b f.ok f.long which h in
    let size : p + 1 + n - (p + 1) ≡ n = omega arith in
    let long : p + 1 + n ≤ ANSWER_EVENT_SIZE = rw (en, ep) t.2 in
    let within : p + 1 + n ≤ length b = omega (arith, f.long) in
    record { within = within; in_event = long; is = rw (size, f.is, en, ep) (sym t.0); short = rw (size, part_length (p + 1) n b within, en, ep) t.1 }
