-- What an opening makes of the state that a history gives.
use Rattle.std.proofs.Common.{◌≡◌, ℕ, ◌+◌, ◌<◌, Bool, true, false, cond, not, List, [], ◌∷◌, ◌++◌, length, map, filter, Option, Some, None, refl, sym, ap, subst, ◌∙◌, arith, get_or}
use Rattle.std.proofs.lemmas.List.{ext_get_or, get_or-set_other, length-set, map-append}
use Rattle.std.proofs.lemmas.List.Elements.{filter-append}
use Rattle.std.proofs.lemmas.List.FromFn.{get_or-map-range_with_len, length-map-range_with_len}
use Rattle.std.proofs.lemmas.Grind.{get_or-set_at}
use Rattle.std.specs.Prelude.{◌==◌, ◌||◌, slice_set}
use Rattle.std.specs.List.{AllByRecursion, range_with_len}
use Rattle.std.proofs.lemmas.Bool.{false≢true}
use Rattle.std.proofs.lemmas.Bool.Decides.{eqb_tells}
use Rattle.mon_world.specs.declared.event.Side.{Side}
use Rattle.mon_world.specs.declared.event.Side.TheVariants.{Controller, Switch}
use Rattle.mon_world.specs.declared.event.Event.TheVariants.{Opened, Piece}
use Rattle.mon_world.specs.declared.event.Note.TheVariants.{Offer, Verdict}
use Rattle.mon_world.specs.declared.history.Entry.TheVariants.{Given, Noted, End}
use Rattle.of_frame.specs.Cut.{Pending, nothing_yet, cut}
use Rattle.mon_legal.specs.Runs.{Run}
use Rattle.mon_legal.specs.Owns.{Own}
use Rattle.mon_legal.specs.Owns.Own.{Begins}
use Rattle.mon_legal.specs.Moments.{Moment}
use Rattle.mon_legal.specs.Moments.Moment.{Is}
use Rattle.mon_legal.specs.Jobs.{openings, unanswered}
use Rattle.mon_legal.specs.Sessions.{Parts, Placed, part, parts_of, opened, open_ones, is_open, next_slot, slot_of, slot_version, version, version_or, sum_changes, changes, placements, with_slot, has_lost}
use Rattle.mon_legal.specs.Ordering.{is_there, stream, with_bytes, same_side, first_with, with_its, want_of}
use Rattle.mon_legal.specs.Offering.{JobsAreOffered}
use Rattle.mon_session.specs.Now.{now_of}
use Rattle.mon_turns.specs.Core.{Connected, Waiting, State, slot_or, connected_at, waiting_at, versions_of, state_of}
use Rattle.mon_turns.specs.Opening as opening
use Rattle.mon_legal.proofs.Coming.{some-same}
use Rattle.mon_turns.specs.Opening.{HasRoom}
use Rattle.mon_turns.proofs.Born.{all-push, all-weaker, all-front, all-last, and-no, turned, apart, below, placed-below, less-room, next-number, same-number, part-other, part-new, next-apart}

-- versions -----------------------------------------------------------------------

-- sums over sessions that changed alike are the same
pub sum-same : (old new : Parts) (slot : ℕ) (placed : List Placed) → AllByRecursion (λ p. changes (new p.session) ≡ changes (old p.session)) placed
    → sum_changes new slot placed ≡ sum_changes old slot placed
sum-same old new slot [] all = refl
sum-same old new slot (p ∷ placed) all =
    ap (λ (n : ℕ). (cond (p.slot == slot) n 0) + sum_changes new slot placed) all.0
    ∙ ap (λ (n : ℕ). (cond (p.slot == slot) (changes (old p.session)) 0) + n) (sum-same old new slot placed all.1)

others-same : (run : Run) (f : List Moment) → HasRoom run f
    → AllByRecursion (λ p. changes (part run p.session (Is (Given Opened) ∷ f)) ≡ changes (part run p.session f)) (placements run f)
others-same run f room =
    all-weaker (λ p. p.session < openings run f) (λ p. changes (part run p.session (Is (Given Opened) ∷ f)) ≡ changes (part run p.session f)) (placements run f)
    (λ p lt. ap changes (part-other run f p.session (apart (openings run f) p.session lt))) (placed-below run f room)

-- the slot that the new session takes rises by one
version-after : (run : Run) (f : List Moment) (free slot : ℕ) → HasRoom run f → next_slot run f ≡ Some free
    → slot_version run slot (Is (Given Opened) ∷ f) ≡ cond (free == slot) 1 0 + slot_version run slot f
version-after run f free slot room e =
    let n = openings run f in
    let new = parts_of run (Is (Given Opened) ∷ f) in
    let first : changes (new n) ≡ 1 = ap changes (part-new run f room) ∙ ap (λ (o : Option ℕ). changes (Begins o ∷ [])) e in
    ap (λ (o : Option ℕ). sum_changes new slot (with_slot n o (placements run f))) e
    ∙ ap (λ (k : ℕ). (cond (free == slot) k 0) + sum_changes new slot (placements run f)) first
    ∙ ap (λ (k : ℕ). (cond (free == slot) 1 0) + k) (sum-same (parts_of run f) new slot (placements run f) (others-same run f room))

eq-of : (a b : ℕ) → (a == b) ≡ true → a ≡ b
eq-of a b e = grind (arith, eqb_tells a b, e)

ne-of : (a b : ℕ) → (a == b) ≡ false → b ≡ a → ⊥
ne-of a b e same = false≢true (sym e ∙ subst (λ (k : ℕ). (a == k) ≡ true) (sym same) (same-number a))

-- a list of versions of which one rises
raised : (g h : ℕ → ℕ) (n free : ℕ) → free < n → ((j : ℕ) → h j ≡ cond (free == j) 1 0 + g j)
    → map h (range_with_len 0 n) ≡ slice_set (map g (range_with_len 0 n)) free (get_or (map g (range_with_len 0 n)) free 0 + 1)
raised g h n free lt k =
    let old = map g (range_with_len 0 n) in
    let v = get_or old free 0 + 1 in
    let many : length old ≡ n = length-map-range_with_len g 0 n in
    let here : get_or old free 0 ≡ g free = get_or-map-range_with_len g 0 n free free 0 lt (omega arith) in
    ext_get_or 0 (map h (range_with_len 0 n)) (slice_set old free v)
    (length-map-range_with_len h 0 n ∙ sym (length-set old free v ∙ many))
    (λ i less.
    let l : i < n = subst (λ (m : ℕ). i < m) (length-map-range_with_len h 0 n) less in
    let new : get_or (map h (range_with_len 0 n)) i 0 ≡ h i = get_or-map-range_with_len h 0 n i i 0 l (omega arith) in
    let was : get_or old i 0 ≡ g i = get_or-map-range_with_len g 0 n i i 0 l (omega arith) in
    new ∙ k i ∙ elim (free == i) as (λ b. (free == i) ≡ b → cond b 1 0 + g i ≡ get_or (slice_set old free v) i 0) [
      | true ↦ λ y.
          let same : free ≡ i = eq-of free i y in
          let at : get_or (slice_set old free v) i 0 ≡ v = get_or-set_at old free i v 0 (sym same) (subst (λ (m : ℕ). free < m) (sym many) lt) in
          let there : g free ≡ g i = ap g same in omega (arith, at, here, there)
      | false ↦ λ x.
          let at : get_or (slice_set old free v) i 0 ≡ get_or old i 0 = get_or-set_other old free i v 0 (ne-of free i x) in omega (arith, at, was)
    ] refl)

versions-after : (run : Run) (f : List Moment) (free : ℕ) → HasRoom run f → free < 64 → next_slot run f ≡ Some free
    → versions_of run (Is (Given Opened) ∷ f) ≡ slice_set (versions_of run f) free (get_or (versions_of run f) free 0 + 1)
versions-after run f free room low e =
    raised (λ slot. slot_version run slot f) (λ slot. slot_version run slot (Is (Given Opened) ∷ f)) 64 free low (λ j. version-after run f free j room e)

-- sessions -----------------------------------------------------------------------

pub all-tested : {A : Type 0} (P : A → Type 0) (test : A → Bool) (xs : List A) → AllByRecursion P xs
    → AllByRecursion (λ x. P x × (test x ≡ true)) (filter test xs)
all-tested P test [] all = tt
all-tested {A} P test (x ∷ xs) all =
    elim (test x) as (λ b. test x ≡ b → AllByRecursion (λ y. P y × (test y ≡ true)) (cond b (x ∷ filter test xs) (filter test xs))) [
      | true ↦ λ y. ((all.0, y), all-tested P test xs all.1)
      | false ↦ λ y. all-tested P test xs all.1
    ] refl

pub all-units : {A : Type 0} (P : A → Type 0) (xs : List A) → ((x : A) → P x) → AllByRecursion P xs
all-units P [] k = tt
all-units P (x ∷ xs) k = (k x, all-units P xs k)

pub filter-same : {A : Type 0} (p q : A → Bool) (xs : List A) → AllByRecursion (λ x. p x ≡ q x) xs → filter p xs ≡ filter q xs
filter-same p q [] all = refl
filter-same p q (x ∷ xs) all =
    ap (λ (b : Bool). cond b (x ∷ filter p xs) (filter p xs)) all.0
    ∙ ap (λ (ys : List _). cond (q x) (x ∷ ys) ys) (filter-same p q xs all.1)

pub map-same : {A B : Type 0} (g h : A → B) (xs : List A) → AllByRecursion (λ x. g x ≡ h x) xs → map g xs ≡ map h xs
map-same g h [] all = refl
map-same g h (x ∷ xs) all = ap (λ y. y ∷ map g xs) all.0 ∙ ap (λ ys. h x ∷ ys) (map-same g h xs all.1)

open-after : (run : Run) (f : List Moment) → HasRoom run f → open_ones run (Is (Given Opened) ∷ f) ≡ open_ones run f ++ openings run f ∷ []
open-after run f room =
    let n = openings run f in
    let now : ℕ → Bool = λ s. is_open (part run s (Is (Given Opened) ∷ f)) in
    let there : now n ≡ true = ap is_open (part-new run f room) in
    filter-append now (opened run f) (n ∷ [])
    ∙ ap (λ (xs : List ℕ). xs ++ cond (now n) (n ∷ []) [])
    (filter-same now (λ s. is_open (part run s f)) (opened run f)
    (all-weaker (λ s. s < n) (λ s. now s ≡ is_open (part run s f)) (opened run f) (λ s lt. ap is_open (part-other run f s (apart n s lt))) (below run f room)))
    ∙ ap (λ (b : Bool). open_ones run f ++ cond b (n ∷ []) []) there

-- a session of these facts
abbrev pub made : Run → List Moment → ℕ → Option ℕ → List Own → ℕ → Connected
made run f s slot own v = record {
  session = record { number = s; slot = slot_or slot; now = record (now_of run 0 own) { version = v } };
  from_controller = (cut nothing_yet (stream run s Controller f)).0;
  from_switch = (cut nothing_yet (stream run s Switch f)).0;
  lost = has_lost own;
}

version-of-slot : (run : Run) (f : List Moment) (free s : ℕ) (o : Option ℕ) → HasRoom run f → next_slot run f ≡ Some free
    → is_open (part run s f) ≡ true → slot_of run s f ≡ o
    → version_or run (parts_of run (Is (Given Opened) ∷ f)) o (Is (Given Opened) ∷ f) ≡ version_or run (parts_of run f) o f
version-of-slot run f free s None room e there at = refl
version-of-slot run f free s (Some slot) room e there at =
    version-after run f free slot room e
    ∙ ap (λ (b : Bool). cond b 1 0 + slot_version run slot f) (next-apart run s slot free f e there at)
    ∙ (let z : 0 + slot_version run slot f ≡ slot_version run slot f = omega arith in z)

-- the other sessions stay as they are
session-other : (run : Run) (f : List Moment) (free s : ℕ) → HasRoom run f → next_slot run f ≡ Some free → s < openings run f
    → is_open (part run s f) ≡ true → connected_at run (Is (Given Opened) ∷ f) s ≡ connected_at run f s
session-other run f free s room e lt there =
    let g = Is (Given Opened) ∷ f in
    let x = apart (openings run f) s lt in
    let at : slot_of run s g ≡ slot_of run s f = ap (λ (b : Bool). cond b (next_slot run f) (slot_of run s f)) x in
    let seen : part run s g ≡ part run s f = part-other run f s x in
    let v : version run s g ≡ version run s f =
    ap (λ (o : Option ℕ). version_or run (parts_of run g) o g) at ∙ version-of-slot run f free s (slot_of run s f) room e there refl in
    ap (λ (o : Option ℕ). made run f s o (part run s g) (version run s g)) at
    ∙ ap (λ (own : List Own). made run f s (slot_of run s f) own (version run s g)) seen
    ∙ ap (λ (w : ℕ). made run f s (slot_of run s f) (part run s f) w) v

-- no byte came of a session that is still to be opened
not-there : (run : Run) (s : ℕ) (f : List Moment) → AllByRecursion (λ r. (s == r) ≡ false) (opened run f) → is_there run s f ≡ false
not-there run s [] all = refl
not-there run s (Is (Given Opened) ∷ f) all =
    let last : (s == openings run f) ≡ false = all-last (λ r. (s == r) ≡ false) (opened run f) (openings run f) all in
    ap (λ (b : Bool). b || is_there run s f) (turned s (openings run f) last) ∙ not-there run s f (all-front (λ r. (s == r) ≡ false) (opened run f) (openings run f) all)
not-there run s (Is (End r) ∷ f) all = and-no (not (r == s)) (is_there run s f) (not-there run s f all)
not-there run s (m ∷ f) all = not-there run s f all

no-bytes : (run : Run) (s : ℕ) (side : Side) (f : List Moment) → AllByRecursion (λ r. (s == r) ≡ false) (opened run f) → stream run s side f ≡ []
no-bytes run s side [] all = refl
no-bytes run s side (Is (Given Opened) ∷ f) all = no-bytes run s side f (all-front (λ r. (s == r) ≡ false) (opened run f) (openings run f) all)
no-bytes run s side (Is (Given (Piece r from bytes)) ∷ f) all =
    ap (λ (b : Bool). with_bytes b bytes (stream run s side f)) (and-no (r == s) _ (and-no (same_side from side) (is_there run s f) (not-there run s f all)))
    ∙ no-bytes run s side f all
no-bytes run s side (m ∷ f) all = no-bytes run s side f all

-- the new one is begun
session-new : (run : Run) (f : List Moment) (free : ℕ) → HasRoom run f → next_slot run f ≡ Some free → free < 64
    → connected_at run (Is (Given Opened) ∷ f) (openings run f) ≡ opening.begun (openings run f) free (get_or (versions_of run f) free 0 + 1)
session-new run f free room e low =
    let n = openings run f in
    let g = Is (Given Opened) ∷ f in
    let at : slot_of run n g ≡ Some free = ap (λ (b : Bool). cond b (next_slot run f) (slot_of run n f)) (same-number n) ∙ e in
    let seen : part run n g ≡ Begins (Some free) ∷ [] = part-new run f room ∙ ap (λ (o : Option ℕ). Begins o ∷ []) e in
    let was : get_or (versions_of run f) free 0 ≡ slot_version run free f = get_or-map-range_with_len (λ slot. slot_version run slot f) 0 64 free free 0 low (omega arith) in
    let rises : slot_version run free g ≡ cond (free == free) 1 0 + slot_version run free f = version-after run f free free room e in
    let one : cond (free == free) 1 0 + slot_version run free f ≡ 1 + slot_version run free f = ap (λ (b : Bool). cond b 1 0 + slot_version run free f) (same-number free) in
    let v : version run n g ≡ get_or (versions_of run f) free 0 + 1 =
    ap (λ (o : Option ℕ). version_or run (parts_of run g) o g) at ∙ rises ∙ one ∙ (let z : 1 + slot_version run free f ≡ get_or (versions_of run f) free 0 + 1 = omega (arith, was) in z) in
    let fresh : AllByRecursion (λ r. (n == r) ≡ false) (opened run f) = all-weaker (λ s. s < n) (λ s. (n == s) ≡ false) (opened run f) (λ s lt. apart n s lt) (below run f room) in
    let streams : (side : Side) → (cut nothing_yet (stream run n side f)).0 ≡ nothing_yet = λ side. ap (λ (bytes : List ℕ). (cut nothing_yet bytes).0) (no-bytes run n side f fresh) in
    ap (λ (o : Option ℕ). made run f n o (part run n g) (version run n g)) at
    ∙ ap (λ (own : List Own). made run f n (Some free) own (version run n g)) seen
    ∙ ap (λ (w : ℕ). made run f n (Some free) (Begins (Some free) ∷ []) w) v
    ∙ ap (λ (p : Pending). record (opening.begun n free (get_or (versions_of run f) free 0 + 1)) { from_controller = p; from_switch = (cut nothing_yet (stream run n Switch f)).0 }) (streams Controller)
    ∙ ap (λ (p : Pending). record (opening.begun n free (get_or (versions_of run f) free 0 + 1)) { from_switch = p }) (streams Switch)

sessions-after : (run : Run) (f : List Moment) (free : ℕ) → HasRoom run f → next_slot run f ≡ Some free → free < 64
    → (state_of run (Is (Given Opened) ∷ f)).sessions
    ≡ (state_of run f).sessions ++ opening.begun (openings run f) free (get_or (versions_of run f) free 0 + 1) ∷ []
sessions-after run f free room e low =
    let n = openings run f in
    let g = Is (Given Opened) ∷ f in
    ap (map (connected_at run g)) (open-after run f room)
    ∙ map-append (connected_at run g) (open_ones run f) (n ∷ [])
    ∙ ap (λ (cs : List Connected). cs ++ connected_at run g n ∷ [])
    (map-same (connected_at run g) (connected_at run f) (open_ones run f)
    (all-weaker (λ s. (s < n) × (is_open (part run s f) ≡ true)) (λ s. connected_at run g s ≡ connected_at run f s) (open_ones run f)
    (λ s both. session-other run f free s room e both.0 both.1)
    (all-tested (λ s. s < n) (λ s. is_open (part run s f)) (opened run f) (below run f room))))
    ∙ ap (λ (c : Connected). (state_of run f).sessions ++ c ∷ []) (session-new run f free room e low)

-- jobs ---------------------------------------------------------------------------

first-in : {A : Type 0} (P : ℕ → Type 0) (what : ℕ → Option A) (ss : List ℕ) (q : ℕ × A) → AllByRecursion P ss → first_with what ss ≡ Some q → P q.0
first-in P what [] q all e = absurd (let g : None ≡ Some q = e in cc)
first-in P what (s ∷ ss) q all e =
    elim (what s) as (λ o. with_its s o (first_with what ss) ≡ Some q → P q.0) [
      | Some x ↦ λ g. subst P (ap (λ p. p.0) (some-same (s, x) q g)) all.0
      | None ↦ λ g. first-in P what ss q all.1 g
    ] e

pub all-filtered : {A : Type 0} (P : A → Type 0) (test : A → Bool) (xs : List A) → AllByRecursion P xs → AllByRecursion P (filter test xs)
all-filtered P test xs all = all-weaker (λ x. P x × (test x ≡ true)) P (filter test xs) (λ x both. both.0) (all-tested P test xs all)

-- each job is of a session that was opened
pub jobs-below : (run : Run) (f : List Moment) → HasRoom run f → JobsAreOffered run f → AllByRecursion (λ j. j.session < openings run f) (unanswered f)
jobs-below run [] room offered = tt
jobs-below run (Is (Given Opened) ∷ f) room offered =
    let more = next-number run f room in
    all-weaker (λ j. j.session < openings run f) (λ j. j.session < openings run (Is (Given Opened) ∷ f)) (unanswered f)
    (λ j lt. let l : j.session < openings run f = lt in omega arith) (jobs-below run f (less-room run f room) offered.2)
jobs-below run (Is (Noted (Offer job s k v)) ∷ f) room offered =
    all-push (λ j. j.session < openings run f) (unanswered f) (record { number = job; session = s; edit = k; version = v }) (jobs-below run f room offered.2)
    (first-in (λ r. r < openings run f) (want_of run f) (opened run f) (s, k) (below run f room) offered.1.first)
jobs-below run (Is (Noted (Verdict job kind)) ∷ f) room offered =
    all-filtered (λ j. j.session < openings run f) (λ j. not (j.number == job)) (unanswered f) (jobs-below run f room offered.2)
jobs-below run (m ∷ f) room offered = jobs-below run f room offered.2

jobs-after : (run : Run) (f : List Moment) → HasRoom run f → JobsAreOffered run f → (state_of run (Is (Given Opened) ∷ f)).jobs ≡ (state_of run f).jobs
jobs-after run f room offered =
    map-same (waiting_at run (Is (Given Opened) ∷ f)) (waiting_at run f) (unanswered f)
    (all-weaker (λ j. j.session < openings run f) (λ j. waiting_at run (Is (Given Opened) ∷ f) j ≡ waiting_at run f j) (unanswered f)
    (λ j lt. ap (λ (b : Bool). record { job = j; slot = slot_or (cond b (next_slot run f) (slot_of run j.session f)) }) (apart (openings run f) j.session lt))
    (jobs-below run f room offered))

-- the whole ------------------------------------------------------------------------

pub state-after : (run : Run) (f : List Moment) (free : ℕ) → HasRoom run (Is (Given Opened) ∷ f) → JobsAreOffered run f → next_slot run f ≡ Some free → free < 64
    → state_of run (Is (Given Opened) ∷ f) ≡ opening.opened_in free (state_of run f)
state-after run f free room offered e low =
    let less = less-room run f room in
    let core = state_of run f in
    let with : List Connected → List ℕ → ℕ → List Waiting → State = λ cs vs n js. record { sessions = cs; versions = vs; openings = n; last_serial = core.last_serial; last_job = core.last_job; jobs = js } in
    let g = Is (Given Opened) ∷ f in
    ap (λ cs. with cs (versions_of run g) (openings run g) (state_of run g).jobs) (sessions-after run f free less e low)
    ∙ ap (λ vs. with (opening.opened_in free core).sessions vs (openings run g) (state_of run g).jobs) (versions-after run f free less low e)
    ∙ ap (λ n. with (opening.opened_in free core).sessions (opening.opened_in free core).versions n (state_of run g).jobs) (next-number run f room)
    ∙ ap (λ js. with (opening.opened_in free core).sessions (opening.opened_in free core).versions (core.openings + 1) js) (jobs-after run f less offered)
