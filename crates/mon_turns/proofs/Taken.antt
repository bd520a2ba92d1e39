-- Where a turn has ended, the slots of the core's sessions are those that the history gave them.
use Rattle.std.proofs.Common.{◌≡◌, ℕ, zero, suc, ◌+◌, ◌<◌, Bool, true, false, cond, not, ◌||◌, List, [], ◌∷◌, ◌++◌, map, filter, Option, Some, None, option_map, refl, sym, ap, subst, ◌∙◌, arith}
use Rattle.std.specs.Prelude.{◌==◌}
use Rattle.std.specs.List.{AllByRecursion, list_any}
use Rattle.std.proofs.lemmas.Bool.{false≢true}
use Rattle.mon_report.specs.declared.line.Cause.TheVariants as why
use Rattle.mon_world.specs.declared.event.Event.TheVariants.{Opened}
use Rattle.mon_world.specs.declared.history.Entry.TheVariants.{Given, End}
use Rattle.mon_legal.specs.Runs.{Run}
use Rattle.mon_legal.specs.Owns.{Own}
use Rattle.mon_legal.specs.Owns.Own.{Begins}
use Rattle.mon_legal.specs.Directly.{Due, owed}
use Rattle.mon_legal.specs.Directly.Due.{Ending}
use Rattle.mon_legal.specs.Moments.{Moment}
use Rattle.mon_legal.specs.Moments.Moment.{Is}
use Rattle.mon_legal.specs.Jobs.{openings}
use Rattle.mon_legal.specs.Sessions.{Placed, part, opened, open_ones, is_open, next_slot, slot_of, open_with_slot, with_slot, is_taken, least_free}
use Rattle.mon_legal.specs.Ordering.{Next, next, first_due, first_with, with_its, or_next, due_of}
use Rattle.mon_legal.specs.Ordering.Next.{Meets, Nothing}
use Rattle.mon_legal.specs.Passing.{Comes, FramesGoInOrder}
use Rattle.mon_legal.proofs.Fitting.{same-of}
use Rattle.mon_turns.specs.Core.{connected_at, slot_or, state_of}
use Rattle.mon_turns.specs.Slots.{placed_of, free_slot}
use Rattle.mon_turns.specs.Opening.{HasRoom}
use Rattle.mon_turns.proofs.Lists.{list_any_map}
use Rattle.mon_turns.proofs.Born.{all-weaker, apart, turned, below, less-room, next-number, same-number, part-other, part-new, open-before, end-ends, has-slot, at-taken}
use Rattle.mon_turns.proofs.Opened.{all-tested}
use Rattle.mon_turns.proofs.Quiet.{NoneOf, all-both, rests, behind_dues}
use Rattle.mon_turns.proofs.Staying.{open-stays}

-- those that were placed ---------------------------------------------------------

pub record IsPlaced (run : Run) (f : List Moment) (p : Placed) : Type 0 where
  pub there : is_open (part run p.session f) ≡ true
  pub at : slot_of run p.session f ≡ Some p.slot
  pub born : list_any (λ r. r == p.session) (opened run f) ≡ true
  pub low : p.session < openings run f

or-left : (a b : Bool) → a ≡ true → a || b ≡ true
or-left true b e = refl
or-left false b e = absurd (false≢true e)

or-right : (a b : Bool) → b ≡ true → a || b ≡ true
or-right true b e = refl
or-right false b e = e

any-front : (test : ℕ → Bool) (xs : List ℕ) (n : ℕ) → list_any test xs ≡ true → list_any test (xs ++ n ∷ []) ≡ true
any-front test [] n e = absurd (false≢true e)
any-front test (x ∷ xs) n e =
    elim (test x) as (λ b. b || list_any test xs ≡ true → b || list_any test (xs ++ n ∷ []) ≡ true) [
      | true ↦ λ g. refl
      | false ↦ λ g. any-front test xs n g
    ] e

any-last : (test : ℕ → Bool) (xs : List ℕ) (n : ℕ) → test n ≡ true → list_any test (xs ++ n ∷ []) ≡ true
any-last test [] n e = or-left (test n) false e
any-last test (x ∷ xs) n e = or-right (test x) (list_any test (xs ++ n ∷ [])) (any-last test xs n e)

still-placed : (run : Run) (f : List Moment) (p : Placed) → HasRoom run (Is (Given Opened) ∷ f) → IsPlaced run f p → IsPlaced run (Is (Given Opened) ∷ f) p
still-placed run f p room old =
    let x = apart (openings run f) p.session old.low in
    let more = next-number run f room in
    record {
      there = ap is_open (part-other run f p.session x) ∙ old.there;
      at = ap (λ (b : Bool). cond b (next_slot run f) (slot_of run p.session f)) x ∙ old.at;
      born = any-front (λ r. r == p.session) (opened run f) (openings run f) old.born;
      low = let l : p.session < openings run f = old.low in omega arith;
    }

new-placed : (run : Run) (f : List Moment) (o : Option ℕ) → HasRoom run (Is (Given Opened) ∷ f) → next_slot run f ≡ o
    → AllByRecursion (IsPlaced run (Is (Given Opened) ∷ f)) (open_with_slot run f)
    → AllByRecursion (IsPlaced run (Is (Given Opened) ∷ f)) (with_slot (openings run f) o (open_with_slot run f))
new-placed run f None room e old = old
new-placed run f (Some slot) room e old =
    let n = openings run f in
    let more = next-number run f room in (
      record {
        there = ap is_open (part-new run f (less-room run f room));
        at = ap (λ (b : Bool). cond b (next_slot run f) (slot_of run n f)) (same-number n) ∙ e;
        born = any-last (λ r. r == n) (opened run f) n (same-number n);
        low = omega arith;
      },
      old,
    )

off : (b : Bool) → not b ≡ true → b ≡ false
off true e = absurd (false≢true e)
off false e = refl

not-equal : (a r : ℕ) → not (a == r) ≡ true → (r == a) ≡ false
not-equal a r e = turned a r (off (a == r) e)

pub placed : (run : Run) (f : List Moment) → HasRoom run f → AllByRecursion (IsPlaced run f) (open_with_slot run f)
placed run [] room = tt
placed run (Is (Given Opened) ∷ f) room =
    new-placed run f (next_slot run f) room refl
    (all-weaker (IsPlaced run f) (IsPlaced run (Is (Given Opened) ∷ f)) (open_with_slot run f) (λ p old. still-placed run f p room old) (placed run f (less-room run f room)))
placed run (Is (End r) ∷ f) room =
    all-weaker (λ p. IsPlaced run f p × (not (p.session == r) ≡ true)) (IsPlaced run (Is (End r) ∷ f)) (open_with_slot run (Is (End r) ∷ f))
    (λ p both. record {
      there = open-stays run p.session f (Is (End r)) (not-equal p.session r both.1) both.0.there;
      at = both.0.at;
      born = both.0.born;
      low = both.0.low;
    })
    (all-tested (IsPlaced run f) (λ p. not (p.session == r)) (open_with_slot run f) (placed run f room))
placed run (m ∷ f) room =
    all-weaker (IsPlaced run f) (IsPlaced run (m ∷ f)) (open_with_slot run f)
    (λ p old. record { there = open-stays run p.session f m refl old.there; at = old.at; born = old.born; low = old.low })
    (placed run f room)

-- those without a slot --------------------------------------------------------------

pub first-last : {A : Type 0} (what : ℕ → Option A) (xs : List ℕ) (n : ℕ) (x : A) → NoneOf what xs → what n ≡ Some x → first_with what (xs ++ n ∷ []) ≡ Some (n, x)
first-last what [] n x all e = ap (λ o. with_its n o None) e
first-last what (y ∷ xs) n x all e = ap (λ o. with_its y o (first_with what (xs ++ n ∷ []))) all.0 ∙ first-last what xs n x all.1 e

-- no slot was free as a session opened: it ends next
pub bare-next : (run : Run) (f : List Moment) → HasRoom run f → next run f ≡ Nothing → next_slot run f ≡ None
    → next run (Is (Given Opened) ∷ f) ≡ Meets (openings run f) (Ending why.TooMany)
unfolding next
bare-next run f room nothing e =
    let n = openings run f in
    let g = Is (Given Opened) ∷ f in
    let others : NoneOf (due_of run g) (opened run f) =
    all-both (λ s. s < n) (λ s. due_of run f s ≡ None) (λ s. due_of run g s ≡ None) (opened run f)
    (λ s lt x. ap (λ (own : List Own). first_due (owed run s own)) (part-other run f s (apart n s lt)) ∙ x) (below run f room) (rests run f nothing).dues in
    let own : due_of run g n ≡ Some (Ending why.TooMany) =
    ap (λ (own : List Own). first_due (owed run n own)) (part-new run f room ∙ ap (λ (o : Option ℕ). Begins o ∷ []) e) in
    ap (λ o. or_next (option_map (λ p. Meets p.0 p.1) o) (behind_dues run g)) (first-last (due_of run g) (opened run f) n (Ending why.TooMany) others own)

abbrev is_nothing : Next → Bool
is_nothing Nothing = true
is_nothing n = false

meets-something : {A : Type 0} (s : ℕ) (due : Due) (n : Next) → n ≡ Meets s due → n ≡ Nothing → A
meets-something s due n e nothing = absurd (false≢true (ap is_nothing (sym e ∙ nothing)))

-- an open session without a slot was just opened
bare : (run : Run) (s : ℕ) (f : List Moment) → HasRoom run f → FramesGoInOrder run f → is_open (part run s f) ≡ true → slot_of run s f ≡ None
    → next run f ≡ Meets s (Ending why.TooMany)
bare run s [] room order there e = absurd (false≢true there)
bare run s (Is (Given Opened) ∷ f) room order there e =
    let less = less-room run f room in
    elim (openings run f == s) as (λ b. (openings run f == s) ≡ b → cond b (next_slot run f) (slot_of run s f) ≡ None
    → next run (Is (Given Opened) ∷ f) ≡ Meets s (Ending why.TooMany)) [
      | true ↦ λ y g. bare-next run f less order.0 g ∙ ap (λ (r : ℕ). Meets r (Ending why.TooMany)) (same-of (openings run f) s y)
      | false ↦ λ x g. meets-something s (Ending why.TooMany) (next run f) (bare run s f less order.2 (sym (ap is_open (part-other run f s x)) ∙ there) g) order.0
    ] refl e
bare run s (m ∷ f) room order there e =
    let old = open-before run s f m refl there in
    let ends : m ≡ Is (End s) = subst (λ (n : Next). Comes run f n m) (bare run s f room order.2 old e) order.1 in
    absurd (false≢true (sym (end-ends run s s f (same-number s)) ∙ subst (λ (x : Moment). is_open (part run s (x ∷ f)) ≡ true) ends there))

-- where a turn has ended, each open session has a slot
pub slotted : (run : Run) (s : ℕ) (f : List Moment) → HasRoom run f → FramesGoInOrder run f → next run f ≡ Nothing
    → is_open (part run s f) ≡ true → (slot : ℕ) × (slot_of run s f ≡ Some slot)
slotted run s f room order nothing there =
    elim (slot_of run s f) as (λ o. slot_of run s f ≡ o → (slot : ℕ) × (o ≡ Some slot)) [
      | Some slot ↦ λ e. (slot, refl)
      | None ↦ λ e. meets-something s (Ending why.TooMany) (next run f) (bare run s f room order there e) nothing
    ] refl

-- who has a slot ---------------------------------------------------------------------

pub bool-same : (a b : Bool) → (a ≡ true → b ≡ true) → (b ≡ true → a ≡ true) → a ≡ b
bool-same true b f g = sym (f refl)
bool-same false true f g = g refl
bool-same false false f g = refl

found : {A : Type 0} (P : A → Type 0) (test : A → Bool) (xs : List A) → AllByRecursion P xs → list_any test xs ≡ true → (x : A) × P x × (test x ≡ true)
found P test [] all e = absurd (false≢true e)
found {A} P test (x ∷ xs) all e =
    elim (test x) as (λ b. test x ≡ b → b || list_any test xs ≡ true → (y : A) × P y × (test y ≡ true)) [
      | true ↦ λ y g. (x, all.0, y)
      | false ↦ λ y g. found P test xs all.1 g
    ] refl e

any-pushed : (test : ℕ → Bool) (b : Bool) (x : ℕ) (xs : List ℕ) → list_any test xs ≡ true → list_any test (cond b (x ∷ xs) xs) ≡ true
any-pushed test true x xs e = or-right (test x) (list_any test xs) e
any-pushed test false x xs e = e

all-units : (xs : List ℕ) → AllByRecursion (λ x. Unit {0}) xs
all-units [] = tt
all-units (x ∷ xs) = (tt, all-units xs)

member-kept : (s : ℕ) (keep test : ℕ → Bool) (xs : List ℕ) → list_any (λ r. r == s) xs ≡ true → keep s ≡ true → test s ≡ true → list_any test (filter keep xs) ≡ true
member-kept s keep test [] e k t = absurd (false≢true e)
member-kept s keep test (x ∷ xs) e k t =
    elim (x == s) as (λ b. (x == s) ≡ b → b || list_any (λ r. r == s) xs ≡ true → list_any test (cond (keep x) (x ∷ filter keep xs) (filter keep xs)) ≡ true) [
      | true ↦ λ y g.
          let same : s ≡ x = sym (same-of x s y) in
          ap (λ (b : Bool). list_any test (cond b (x ∷ filter keep xs) (filter keep xs))) (subst (λ (r : ℕ). keep r ≡ true) same k)
          ∙ or-left (test x) (list_any test (filter keep xs)) (subst (λ (r : ℕ). test r ≡ true) same t)
      | false ↦ λ y g. any-pushed test (keep x) x (filter keep xs) (member-kept s keep test xs g k t)
    ] refl e

slots-same : (run : Run) (f : List Moment) (slot : ℕ) → HasRoom run f → FramesGoInOrder run f → next run f ≡ Nothing
    → list_any (λ s. slot_or (slot_of run s f) == slot) (open_ones run f) ≡ is_taken (open_with_slot run f) slot
slots-same run f slot room order nothing =
    bool-same (list_any (λ s. slot_or (slot_of run s f) == slot) (open_ones run f)) (is_taken (open_with_slot run f) slot)
    (λ e.
    let one = found (λ s. Unit {0} × (is_open (part run s f) ≡ true)) (λ s. slot_or (slot_of run s f) == slot) (open_ones run f)
    (all-tested (λ s. Unit {0}) (λ s. is_open (part run s f)) (opened run f) (all-units (opened run f))) e in
    let at = slotted run one.0 f room order nothing one.1.1 in
    let same : at.0 ≡ slot = same-of at.0 slot (sym (ap (λ (o : Option ℕ). slot_or o == slot) at.1) ∙ one.2) in
    at-taken one.0 slot (open_with_slot run f) (has-slot run one.0 slot f one.1.1 (at.1 ∙ ap Some same)))
    (λ e.
    let one = found (IsPlaced run f) (λ p. p.slot == slot) (open_with_slot run f) (placed run f room) e in
    member-kept one.0.session (λ s. is_open (part run s f)) (λ s. slot_or (slot_of run s f) == slot) (opened run f) one.1.born one.1.there
    (ap (λ (o : Option ℕ). slot_or o == slot) one.1.at ∙ one.2))

least-same : (n from : ℕ) (ps qs : List Placed) → ((slot : ℕ) → is_taken ps slot ≡ is_taken qs slot) → least_free n from ps ≡ least_free n from qs
least-same zero from ps qs k = refl
least-same (suc n) from ps qs k =
    ap (λ (b : Bool). cond b (least_free n (from + 1) ps) (Some from)) (k from)
    ∙ ap (λ (o : Option ℕ). cond (is_taken qs from) o (Some from)) (least-same n (from + 1) ps qs k)

pub free-same : (run : Run) (f : List Moment) → HasRoom run f → FramesGoInOrder run f → next run f ≡ Nothing
    → free_slot (state_of run f) ≡ next_slot run f
unfolding free_slot
free-same run f room order nothing =
    least-same 64 0 (map placed_of (state_of run f).sessions) (open_with_slot run f)
    (λ slot.
    list_any_map placed_of (λ p. p.slot == slot) (state_of run f).sessions
    ∙ list_any_map (connected_at run f) (λ c. c.session.slot == slot) (open_ones run f)
    ∙ slots-same run f slot room order nothing)
