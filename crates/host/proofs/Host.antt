-- Demand 3 as a host sees it: specs/Host.antt has the statement.
-- Assumes nothing.
use Rattle.std.specs.Prelude.{Option, Some}
use mathlib.Core.Path.{◌≡◌, refl, sym, ap, ◌∙◌}
use mathlib.Core.Bool.{true, and-eq-true_iff}
use mathlib.Core.List.{List, [], ◌∷◌, ◌++◌, append-nil, map, map-append}
use Prim.Native.Nat.{ℕ, zero, suc, ◌+◌, ◌≤◌}
use native.Mathlib.Nat.{zero-add, add-zero, suc-add, add-suc}
use native.Mathlib.Omega.{arith}
use lib.ListN.{length, take, drop, get_or}
use lib.Seq.{take-append_seam}
use borrow.Author.Tests.{eq-eqb, ne_eqb, le-leb, le-ltb}
use Rattle.area.proofs.Splice.{splice_eq}
use Rattle.session.specs.Limits.{AREA, ENTRIES_MOST, TEXT_MOST, ANSWER_EVENT_SIZE}
use Rattle.session.specs.Event.{Event}
use Rattle.session.specs.Session.{event_fits, all_fit}
use Rattle.session.specs.Area.{event, encode_answer, decode_answer}
use Rattle.session.specs.Answers.{Outcome, refused, answered}
use Rattle.session.proofs.Lists.{All, both}
use Rattle.session.proofs.Area.{event-sound, event-width, answer_back}
use Rattle.session.proofs.HandedOut.{Wrote, Writes, in_areas, run-handed-out}
use Rattle.session.proofs.Demand3.{demand3}
use Rattle.export.specs.Numbers.{NONE}
use Rattle.export.specs.Events.{FIELDS, is_answer, event_at, fields_left, event_text, text_at, text_left, text_place, nth}
use Rattle.export.specs.Interface.{count_of}
use Rattle.host.specs.Host.{told, Room, fields_taken, text_taken, event_read, events_read, area_read, run_read, HostDemand3}
use Rattle.export.proofs.Fields.{text-read}
use Rattle.host.proofs.Told.{events-told}
use Rattle.export.proofs.HandedOut.{counted, events_back}

-- ---- a text

taken : (b t : List ℕ) → length b ≤ TEXT_MOST → TEXT_MOST ≤ length t → text_taken (text_left (Some b) t) ≡ Some b
unfolding text_taken text_left
taken b t h k =
    rw (le-ltb (length t) TEXT_MOST k, ne_eqb (length b) NONE (λ z. omega arith), splice_eq b t 0 (omega arith))
    (ap (λ (l : List ℕ). Some l) (take-append_seam b (drop (0 + length b) t)))

take_most : (n : ℕ) (l : List ℕ) → length (take n l) ≤ n
take_most zero l = omega arith
take_most (suc n) [] = omega arith
take_most (suc n) (b ∷ l) = omega (arith, take_most n l)

-- of an event in range
text-taken :
    (m : Room) (e : Event) → event_fits e ≡ true → (which : ℕ) → which ≤ 3 → text_taken (text_left (event_text e which) m.text) ≡ event_text e which
text-taken m e f which h =
    let l : List ℕ = event.put e ++ [] in
    let back = event-sound.back e [] f in
    let long : ANSWER_EVENT_SIZE ≤ length l = rw (append-nil (event.put e)) (omega (arith, event-sound.sized e f ∙ event-width)) in
    let r = text-read l back.0 long which h in
    let b : List ℕ = take (get_or l (text_place which) 0) (drop (text_place which + 1) l) in
    let is : event_text e which ≡ Some b = ap (λ (x : Event). event_text x which) (sym back.1) ∙ r.0 in
    let short : length b ≤ TEXT_MOST = omega (arith, r.1, take_most (get_or l (text_place which) 0) (drop (text_place which + 1) l)) in
    ap (λ (o : Option (List ℕ)). text_taken (text_left o m.text)) is ∙ taken b m.text short m.text_room ∙ sym is

-- ---- an event

event-read : (m : Room) (y : List ℕ) (i : ℕ) (e : Event) → event_fits e ≡ true → event_at y i ≡ Some e → event_read m y i ≡ told e
unfolding event_read told fields_taken fields_left text_at
event-read m y i e f at =
    rw (at, eq-eqb (length m.fields) FIELDS m.fields_room, text-taken m e f 0 (omega arith), text-taken m e f 1 (omega arith), text-taken m e f 2 (omega arith), text-taken m e f 3 (omega arith))

-- ---- an answer area

-- the events from i on
from_read :
    (m : Room) (y : List ℕ) (es : List Event) (i : ℕ) → all_fit es ≡ true → ((k : ℕ) → event_at y (i + k) ≡ nth es k) → events_read m (length es) i y ≡ map told es
unfolding events_read all_fit nth
from_read m y [] i f at = refl
from_read m y (e ∷ es) i f at =
    let fits = (and-eq-true_iff (event_fits e) (all_fit es)).0 f in
    let here : event_at y i ≡ Some e = ap (event_at y) (sym (add-zero i)) ∙ at 0 in
    let behind : (k : ℕ) → event_at y (suc i + k) ≡ nth es k = λ k. ap (event_at y) (suc-add i k ∙ sym (add-suc i k)) ∙ at (suc k) in
    rw (event-read m y i e fits.0 here, from_read m y es (suc i) fits.1 behind)

area-read : (m : Room) (es : List Event) → length es ≤ ENTRIES_MOST → all_fit es ≡ true → area_read m (encode_answer es) ≡ map told es
unfolding area_read count_of is_answer
area-read m es h f =
    rw (eq-eqb (length (encode_answer es)) AREA (answer_back es h f).0, counted es h f, le-leb (length es) ENTRIES_MOST h)
    (from_read m (encode_answer es) es 0 f (λ k. ap (event_at (encode_answer es)) (zero-add k) ∙ events_back es h f k))

-- ---- a run

fit_append : (a b : List Event) → all_fit a ≡ true → all_fit b ≡ true → all_fit (a ++ b) ≡ true
unfolding all_fit
fit_append [] b p q = q
fit_append (e ∷ a) b p q =
    let fits = (and-eq-true_iff (event_fits e) (all_fit a)).0 p in both (event_fits e) (all_fit (a ++ b)) fits.0 (fit_append a b fits.1 q)

-- the events of an area that a call wrote
wrote-read : (m : Room) (y : List ℕ) → Wrote y → (area_read m y ≡ map told (decode_answer y)) × (all_fit (decode_answer y) ≡ true)
wrote-read m y w =
    let back : decode_answer y ≡ w.events = ap decode_answer w.area ∙ (answer_back w.events w.most w.fits).1 in
    (ap (area_read m) w.area ∙ area-read m w.events w.most w.fits ∙ ap (map told) (sym back), ap all_fit back ∙ w.fits)

areas_read : (m : Room) (os : List Outcome) → All Writes os → (run_read m os ≡ map told (in_areas os)) × (all_fit (in_areas os) ≡ true)
unfolding run_read all_fit
areas_read m [] a = (refl, refl)
areas_read m (refused n ∷ os) a = areas_read m os a.1
areas_read m (answered t x y ∷ os) a =
    let here = wrote-read m y a.0 in
    let behind = areas_read m os a.1 in
    (rw (here.0, behind.0) (sym (map-append told (decode_answer y) (in_areas os))), fit_append (decode_answer y) (in_areas os) here.1 behind.1)

-- what the areas hold is what was handed out, and that is what the book noted
pub host_demand3 : HostDemand3
host_demand3 m cs ks r s w l =
    let out = run-handed-out cs ks r s in
    let read = areas_read m _ out.1 in
    let noted = sym out.0 ∙ (demand3 cs ks r s w l).handed_out in
    let reads = read.0 ∙ ap (map told) noted in
    let in_range = ap all_fit (sym noted) ∙ read.1 in
    record { reads = reads; in_range = in_range; no_other = λ es f h. events-told es _ f in_range (sym h ∙ reads) }
