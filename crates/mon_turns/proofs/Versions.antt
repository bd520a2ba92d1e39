-- The version of a slot rises with the changes of the one open session that has it.
use Rattle.std.proofs.Common.{◌≡◌, ℕ, ◌+◌, ◌<◌, Bool, true, false, cond, not, ◌||◌, ◌&&◌, List, [], ◌∷◌, ◌++◌, filter, Option, Some, None, refl, sym, ap, subst, ◌∙◌, arith}
use Rattle.std.specs.Prelude.{◌==◌}
use Rattle.std.specs.List.{AllByRecursion, list_any}
use Rattle.std.proofs.lemmas.Bool.{false≢true}
use Rattle.mon_report.specs.declared.line.Line.{Line}
use Rattle.mon_world.specs.declared.event.Event.TheVariants.{Opened}
use Rattle.mon_world.specs.declared.event.Note.TheVariants.{Report}
use Rattle.mon_world.specs.declared.history.Entry.TheVariants.{Given, Noted, End}
use Rattle.mon_legal.specs.Runs.{Run}
use Rattle.mon_legal.specs.Changing.{only}
use Rattle.mon_legal.specs.Owns.{Own}
use Rattle.mon_legal.specs.Owns.Own.{Reports}
use Rattle.mon_legal.specs.Moments.{Moment}
use Rattle.mon_legal.specs.Moments.Moment.{Is}
use Rattle.mon_legal.specs.Jobs.{openings}
use Rattle.mon_legal.specs.Sessions.{Parts, Placed, part, parts_of, sees, is_open, hears, session_in, changes, sum_changes, placements, with_slot, open_with_slot, is_taken, least_free, next_slot, slot_of}
use Rattle.mon_legal.proofs.Fitting.{same-of}
use Rattle.mon_legal.proofs.Handled.{open-none}
use Rattle.mon_turns.specs.Opening.{HasRoom}
use Rattle.mon_turns.specs.Laws.{VersionsRise, is_opening}
use Rattle.mon_turns.proofs.Born.{all-weaker, apart, turned, less-room, placed-below, same-number, is_at, with-own, any-with, free-slot, has-slot}
use Rattle.mon_turns.proofs.Opened.{all-filtered}
use Rattle.mon_turns.proofs.Quiet.{all-both}

-- no two open sessions have one slot ------------------------------------------------

abbrev Differ : List Placed → Type 0
Differ [] = Unit {0}
Differ (p ∷ placed) = AllByRecursion (λ q. (p.slot == q.slot) ≡ false) placed × Differ placed

differ-kept : (test : Placed → Bool) (placed : List Placed) → Differ placed → Differ (filter test placed)
differ-kept test [] d = tt
differ-kept test (p ∷ placed) d =
    elim (test p) as (λ b. Differ (cond b (p ∷ filter test placed) (filter test placed))) [
      | true ↦ (all-filtered (λ q. (p.slot == q.slot) ≡ false) test placed d.0, differ-kept test placed d.1)
      | false ↦ differ-kept test placed d.1
    ]

or-false : (a b : Bool) → a || b ≡ false → (a ≡ false) × (b ≡ false)
or-false true b e = absurd (false≢true (sym e))
or-false false b e = (refl, e)

free-differs : (slot : ℕ) (placed : List Placed) → is_taken placed slot ≡ false → AllByRecursion (λ q. (slot == q.slot) ≡ false) placed
free-differs slot [] e = tt
free-differs slot (p ∷ placed) e =
    let both = or-false (p.slot == slot) (is_taken placed slot) e in (turned p.slot slot both.0, free-differs slot placed both.1)

differ-with : (session : ℕ) (o : Option ℕ) (placed : List Placed) → least_free 64 0 placed ≡ o → Differ placed → Differ (with_slot session o placed)
differ-with session None placed e d = d
differ-with session (Some slot) placed e d = (free-differs slot placed (free-slot 64 0 slot placed e), d)

differ : (run : Run) (f : List Moment) → Differ (open_with_slot run f)
differ run [] = tt
differ run (Is (Given Opened) ∷ f) = differ-with (openings run f) (least_free 64 0 (open_with_slot run f)) (open_with_slot run f) refl (differ run f)
differ run (Is (End s) ∷ f) = differ-kept (λ p. not (p.session == s)) (open_with_slot run f) (differ run f)
differ run (m ∷ f) = differ run f

both-of : (a b : Bool) → a && b ≡ true → (a ≡ true) × (b ≡ true)
both-of true b e = (refl, e)
both-of false b e = absurd (false≢true e)

none-later : (p : Placed) (r slot : ℕ) (placed : List Placed) → AllByRecursion (λ q. (p.slot == q.slot) ≡ false) placed → (p.slot == slot) ≡ true
    → list_any (is_at r slot) placed ≡ true → ⊥
none-later p r slot [] all here e = false≢true e
none-later p r slot (q ∷ placed) all here e =
    elim (is_at r slot q) as (λ b. is_at r slot q ≡ b → b || list_any (is_at r slot) placed ≡ true → ⊥) [
      | true ↦ λ y g.
          let there : q.slot ≡ slot = same-of q.slot slot (both-of (q.session == r) (q.slot == slot) y).1 in
          false≢true (sym all.0 ∙ subst (λ (k : ℕ). (p.slot == k) ≡ true) (sym there) here)
      | false ↦ λ x g. none-later p r slot placed all.1 here g
    ] refl e

one-each : (placed : List Placed) (s r slot : ℕ) → Differ placed → list_any (is_at s slot) placed ≡ true → list_any (is_at r slot) placed ≡ true → s ≡ r
one-each [] s r slot d a b = absurd (false≢true a)
one-each (p ∷ placed) s r slot d a b =
    elim (is_at s slot p) as (λ x. is_at s slot p ≡ x → x || list_any (is_at s slot) placed ≡ true → s ≡ r) [
      | true ↦ λ y g.
          elim (is_at r slot p) as (λ x. is_at r slot p ≡ x → x || list_any (is_at r slot) placed ≡ true → s ≡ r) [
            | true ↦ λ z h. sym (same-of p.session s (both-of (p.session == s) (p.slot == slot) y).0) ∙ same-of p.session r (both-of (p.session == r) (p.slot == slot) z).0
            | false ↦ λ z h. absurd (none-later p r slot placed d.0 (both-of (p.session == s) (p.slot == slot) y).1 h)
          ] refl b
      | false ↦ λ y g.
          elim (is_at r slot p) as (λ x. is_at r slot p ≡ x → x || list_any (is_at r slot) placed ≡ true → s ≡ r) [
            | true ↦ λ z h. absurd (none-later p s slot placed d.0 (both-of (p.session == r) (p.slot == slot) z).1 g)
            | false ↦ λ z h. one-each placed s r slot d.1 g h
          ] refl b
    ] refl a

-- those that were placed ---------------------------------------------------------------

-- each session was placed once
abbrev Once : List Placed → Type 0
Once [] = Unit {0}
Once (p ∷ placed) = AllByRecursion (λ q. (q.session == p.session) ≡ false) placed × Once placed

once-with : (n : ℕ) (o : Option ℕ) (placed : List Placed) → AllByRecursion (λ q. q.session < n) placed → Once placed → Once (with_slot n o placed)
once-with n None placed low o = o
once-with n (Some slot) placed low o =
    (all-weaker (λ q. q.session < n) (λ q. (q.session == n) ≡ false) placed (λ q lt. turned n q.session (apart n q.session lt)) low, o)

once : (run : Run) (f : List Moment) → HasRoom run f → Once (placements run f)
once run [] room = tt
once run (Is (Given Opened) ∷ f) room =
    let less = less-room run f room in
    once-with (openings run f) (next_slot run f) (placements run f) (placed-below run f less) (once run f less)
once run (m ∷ f) room = once run f room

-- a session that was given a slot was placed there
was-placed : (run : Run) (s slot : ℕ) (f : List Moment) → slot_of run s f ≡ Some slot → list_any (is_at s slot) (placements run f) ≡ true
was-placed run s slot [] e = absurd (let g : None ≡ Some slot = e in cc)
was-placed run s slot (Is (Given Opened) ∷ f) e =
    elim (openings run f == s) as (λ b. (openings run f == s) ≡ b → cond b (next_slot run f) (slot_of run s f) ≡ Some slot
    → list_any (is_at s slot) (placements run (Is (Given Opened) ∷ f)) ≡ true) [
      | true ↦ λ y g. with-own s (openings run f) slot (next_slot run f) (placements run f) y g
      | false ↦ λ x g. any-with (is_at s slot) (openings run f) (next_slot run f) (placements run f) (was-placed run s slot f g)
    ] refl e
was-placed run s slot (m ∷ f) e = was-placed run s slot f e

-- of a session that is not open nothing changes its slot's version
heard-changes : (b : Bool) (l : Line) (own : List Own) → changes (only b (Reports l ∷ []) ++ [] ++ own) ≡ changes own
heard-changes true l own = refl
heard-changes false l own = refl

shut-changes : (run : Run) (s : ℕ) (f : List Moment) (m : Moment) → is_opening m ≡ false → is_open (part run s f) ≡ false
    → changes (part run s (m ∷ f)) ≡ changes (part run s f)
shut-changes run s f (Is (Given Opened)) x e = absurd (false≢true (sym x))
shut-changes run s f (Is (Noted (Report l))) x e = heard-changes ((session_in l == s) && hears l (part run s f)) l (part run s f)
shut-changes run s f m x e =
    ap (λ (os : List Own). changes (os ++ part run s f)) (open-none (parts_of run f) s (sees run (parts_of run f) s f m) e)

-- sums ---------------------------------------------------------------------------------

-- all others of the slot stay
abbrev OthersStay : Parts → Parts → ℕ → ℕ → Placed → Type 0
OthersStay old new s slot p = (p.slot == slot) ≡ true → (p.session == s) ≡ false → changes (new p.session) ≡ changes (old p.session)

term-same : (b : Bool) (x y : ℕ) → (b ≡ true → x ≡ y) → cond b x 0 ≡ cond b y 0
term-same true x y k = k refl
term-same false x y k = refl

sum-rest : (old new : Parts) (s slot : ℕ) (placed : List Placed) → AllByRecursion (λ q. (q.session == s) ≡ false) placed
    → AllByRecursion (OthersStay old new s slot) placed → sum_changes new slot placed ≡ sum_changes old slot placed
sum-rest old new s slot [] apart_ stay = refl
sum-rest old new s slot (p ∷ placed) apart_ stay =
    ap (λ (n : ℕ). n + sum_changes new slot placed) (term-same (p.slot == slot) (changes (new p.session)) (changes (old p.session)) (λ y. stay.0 y apart_.0))
    ∙ ap (λ (n : ℕ). cond (p.slot == slot) (changes (old p.session)) 0 + n) (sum-rest old new s slot placed apart_.1 stay.1)

here-moved : (a b c d : ℕ) (x y : ℕ) → x ≡ a → y ≡ b → c ≡ d → (x + c) + b ≡ (y + d) + a
here-moved a b c d x y e f g = omega arith

later-moved : (a b c d e : ℕ) (x y : ℕ) → x ≡ y → c + a ≡ d + b → (x + c) + a ≡ (y + d) + b
later-moved a b c d e x y g h = omega arith

not-here : (a b : Bool) → a && b ≡ false → b ≡ true → a ≡ false
not-here true b e y = absurd (false≢true (sym e ∙ y))
not-here false b e y = refl

-- the sum moves by the changes of the session alone
sum-moved : (old new : Parts) (s slot : ℕ) (placed : List Placed) → Once placed → list_any (is_at s slot) placed ≡ true
    → AllByRecursion (OthersStay old new s slot) placed
    → sum_changes new slot placed + changes (old s) ≡ sum_changes old slot placed + changes (new s)
sum-moved old new s slot [] once_ e stay = absurd (false≢true e)
sum-moved old new s slot (p ∷ placed) once_ e stay =
    elim (is_at s slot p) as (λ b. is_at s slot p ≡ b → b || list_any (is_at s slot) placed ≡ true
    → sum_changes new slot (p ∷ placed) + changes (old s) ≡ sum_changes old slot (p ∷ placed) + changes (new s)) [
      | true ↦ λ y g.
          let both = both-of (p.session == s) (p.slot == slot) y in
          let same : p.session ≡ s = same-of p.session s both.0 in
          let apart_ : AllByRecursion (λ q. (q.session == s) ≡ false) placed = subst (λ (k : ℕ). AllByRecursion (λ q. (q.session == k) ≡ false) placed) same once_.0 in
          here-moved (changes (new s)) (changes (old s)) (sum_changes new slot placed) (sum_changes old slot placed)
          (cond (p.slot == slot) (changes (new p.session)) 0) (cond (p.slot == slot) (changes (old p.session)) 0)
          (ap (λ (b : Bool). cond b (changes (new p.session)) 0) both.1 ∙ ap (λ (k : ℕ). changes (new k)) same)
          (ap (λ (b : Bool). cond b (changes (old p.session)) 0) both.1 ∙ ap (λ (k : ℕ). changes (old k)) same)
          (sum-rest old new s slot placed apart_ stay.1)
      | false ↦ λ x g.
          later-moved (changes (old s)) (changes (new s)) (sum_changes new slot placed) (sum_changes old slot placed) 0
          (cond (p.slot == slot) (changes (new p.session)) 0) (cond (p.slot == slot) (changes (old p.session)) 0)
          (term-same (p.slot == slot) (changes (new p.session)) (changes (old p.session)) (λ y. stay.0 y (not-here (p.session == s) (p.slot == slot) x y)))
          (sum-moved old new s slot placed once_.1 g stay.1)
    ] refl e

-- the slots that were given --------------------------------------------------------------

given-with : (run : Run) (f : List Moment) (o : Option ℕ) → next_slot run f ≡ o
    → AllByRecursion (λ p. slot_of run p.session (Is (Given Opened) ∷ f) ≡ Some p.slot) (placements run f)
    → AllByRecursion (λ p. slot_of run p.session (Is (Given Opened) ∷ f) ≡ Some p.slot) (with_slot (openings run f) o (placements run f))
given-with run f None e old = old
given-with run f (Some slot) e old =
    (ap (λ (b : Bool). cond b (next_slot run f) (slot_of run (openings run f) f)) (same-number (openings run f)) ∙ e, old)

given-slots : (run : Run) (f : List Moment) → HasRoom run f → AllByRecursion (λ p. slot_of run p.session f ≡ Some p.slot) (placements run f)
given-slots run [] room = tt
given-slots run (Is (Given Opened) ∷ f) room =
    let less = less-room run f room in
    given-with run f (next_slot run f) refl
    (all-both (λ p. p.session < openings run f) (λ p. slot_of run p.session f ≡ Some p.slot) (λ p. slot_of run p.session (Is (Given Opened) ∷ f) ≡ Some p.slot) (placements run f)
    (λ p lt e. ap (λ (b : Bool). cond b (next_slot run f) (slot_of run p.session f)) (apart (openings run f) p.session lt) ∙ e)
    (placed-below run f less) (given-slots run f less))
given-slots run (m ∷ f) room = given-slots run f room

same-placements : (run : Run) (f : List Moment) (m : Moment) → is_opening m ≡ false → placements run (m ∷ f) ≡ placements run f
same-placements run f (Is (Given Opened)) x = absurd (false≢true (sym x))
same-placements run f m x = refl

stays : (run : Run) (s slot : ℕ) (f : List Moment) (m : Moment) (p : Placed) → is_opening m ≡ false → list_any (is_at s slot) (open_with_slot run f) ≡ true
    → slot_of run p.session f ≡ Some p.slot → OthersStay (parts_of run f) (parts_of run (m ∷ f)) s slot p
stays run s slot f m p x here at y apart_ =
    elim (is_open (part run p.session f)) as (λ b. is_open (part run p.session f) ≡ b → changes (part run p.session (m ∷ f)) ≡ changes (part run p.session f)) [
      | true ↦ λ there.
          let same : p.slot ≡ slot = same-of p.slot slot y in
          let other : list_any (is_at p.session slot) (open_with_slot run f) ≡ true = has-slot run p.session slot f there (at ∙ ap Some same) in
          let one : p.session ≡ s = one-each (open_with_slot run f) p.session s slot (differ run f) other here in
          absurd (false≢true (sym apart_ ∙ subst (λ (k : ℕ). (p.session == k) ≡ true) one (same-number p.session)))
      | false ↦ λ shut. shut-changes run p.session f m x shut
    ] refl

-- THE LAW: a moment moves the version of an open session's slot as often as it moves the session
pub versions-rise : VersionsRise
versions-rise run s slot f m room x there at =
    let new = parts_of run (m ∷ f) in
    let old = parts_of run f in
    let here : list_any (is_at s slot) (open_with_slot run f) ≡ true = has-slot run s slot f there at in
    ap (λ (placed : List Placed). sum_changes new slot placed + changes (old s)) (same-placements run f m x)
    ∙ sum-moved old new s slot (placements run f) (once run f room) (was-placed run s slot f at)
    (all-weaker (λ p. slot_of run p.session f ≡ Some p.slot) (OthersStay old new s slot) (placements run f)
    (λ p e. stays run s slot f m p x here e) (given-slots run f room))
