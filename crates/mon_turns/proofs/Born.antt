-- Which sessions a history has opened, and what they have seen.
use Rattle.std.proofs.Common.{◌≡◌, ℕ, zero, suc, ◌+◌, ◌<◌, Bool, true, false, cond, not, ◌||◌, ◌&&◌, List, [], ◌∷◌, ◌++◌, length, filter, Option, Some, None, refl, sym, ap, subst, ◌∙◌, arith, length-append}
use Rattle.std.specs.Prelude.{◌==◌, ◌⊎◌}
use Rattle.std.proofs.Common.{inl, inr}
use Rattle.std.specs.List.{AllByRecursion, list_any}
use Rattle.std.proofs.lemmas.Bool.{false≢true}
use Rattle.std.proofs.lemmas.Bool.Decides.{eqb_tells}
use Rattle.mon_report.specs.declared.line.Line.{Line}
use Rattle.mon_world.specs.declared.event.Event.TheVariants.{Opened}
use Rattle.mon_world.specs.declared.event.Note.TheVariants.{Report}
use Rattle.mon_world.specs.declared.history.Entry.TheVariants.{Given, Noted, End}
use Rattle.mon_legal.specs.Runs.{Run}
use Rattle.mon_legal.specs.Changing.{only}
use Rattle.mon_legal.specs.Owns.{Own}
use Rattle.mon_legal.specs.Owns.Own.{Begins, Reports, Ends}
use Rattle.mon_legal.specs.Moments.{Moment}
use Rattle.mon_legal.specs.Moments.Moment.{Is}
use Rattle.mon_legal.specs.Barriers.{is_armed}
use Rattle.mon_legal.specs.Jobs.{openings}
use Rattle.mon_legal.specs.Sessions.{Parts, Placed, part, parts_of, sees, opened, is_open, has_ended, if_open, neighbour_if, hears, session_in, next_slot, slot_of, open_with_slot, with_slot, placements, is_taken, least_free}
use Rattle.mon_turns.specs.Opening.{HasRoom}
use Rattle.mon_turns.specs.Laws.{is_opening}
use Rattle.mon_legal.proofs.Coming.{some-same}
use Rattle.mon_legal.proofs.Fitting.{same-of, opened-or-none, hears-none}
use Rattle.mon_legal.proofs.Handled.{open-none}

-- numbers --------------------------------------------------------------------

pub all-push : {A : Type 0} (P : A → Type 0) (xs : List A) (x : A) → AllByRecursion P xs → P x → AllByRecursion P (xs ++ x ∷ [])
all-push P [] x a p = (p, tt)
all-push P (y ∷ ys) x a p = (a.0, all-push P ys x a.1 p)

pub all-last : {A : Type 0} (P : A → Type 0) (xs : List A) (n : A) → AllByRecursion P (xs ++ n ∷ []) → P n
all-last P [] n a = a.0
all-last P (x ∷ xs) n a = all-last P xs n a.1

pub all-front : {A : Type 0} (P : A → Type 0) (xs : List A) (n : A) → AllByRecursion P (xs ++ n ∷ []) → AllByRecursion P xs
all-front P [] n a = tt
all-front P (x ∷ xs) n a = (a.0, all-front P xs n a.1)

pub all-weaker : {A : Type 0} (P Q : A → Type 0) (xs : List A) → ((x : A) → P x → Q x) → AllByRecursion P xs → AllByRecursion Q xs
all-weaker P Q [] k a = tt
all-weaker P Q (x ∷ xs) k a = (k x a.0, all-weaker P Q xs k a.1)

one-longer : (xs : List ℕ) (n : ℕ) → length (xs ++ n ∷ []) ≡ length xs + 1
one-longer xs n = omega (arith, length-append xs (n ∷ []))

-- sessions are numbered one after the other
pub numbered : (run : Run) (f : List Moment) → HasRoom run f → openings run f ≡ run.openings + length (opened run f)
numbered run [] room = omega arith
numbered run (Is (Given Opened) ∷ f) room =
    let more = one-longer (opened run f) (openings run f) in
    let old : openings run f ≡ run.openings + length (opened run f) = numbered run f (omega arith) in omega arith
numbered run (m ∷ f) room = numbered run f room

pub less-room : (run : Run) (f : List Moment) → HasRoom run (Is (Given Opened) ∷ f) → HasRoom run f
less-room run f room = let more = one-longer (opened run f) (openings run f) in omega arith

pub next-number : (run : Run) (f : List Moment) → HasRoom run (Is (Given Opened) ∷ f) → openings run (Is (Given Opened) ∷ f) ≡ openings run f + 1
next-number run f room =
    let more = one-longer (opened run f) (openings run f) in
    let old : openings run f ≡ run.openings + length (opened run f) = numbered run f (omega arith) in omega arith

pub below : (run : Run) (f : List Moment) → HasRoom run f → AllByRecursion (λ s. s < openings run f) (opened run f)
below run [] room = tt
below run (Is (Given Opened) ∷ f) room =
    let more = next-number run f room in
    let now = openings run (Is (Given Opened) ∷ f) in
    all-push (λ s. s < now) (opened run f) (openings run f)
    (all-weaker (λ s. s < openings run f) (λ s. s < now) (opened run f) (λ s lt. let l : s < openings run f = lt in omega arith) (below run f (less-room run f room)))
    (omega arith)
below run (m ∷ f) room = below run f room

with-placed : (n s : ℕ) (o : Option ℕ) (placed : List Placed) → s < n → AllByRecursion (λ p. p.session < n) placed → AllByRecursion (λ p. p.session < n) (with_slot s o placed)
with-placed n s None placed lt all = all
with-placed n s (Some slot) placed lt all = (lt, all)

pub placed-below : (run : Run) (f : List Moment) → HasRoom run f → AllByRecursion (λ p. p.session < openings run f) (placements run f)
placed-below run [] room = tt
placed-below run (Is (Given Opened) ∷ f) room =
    let more = next-number run f room in
    let now = openings run (Is (Given Opened) ∷ f) in
    with-placed now (openings run f) (next_slot run f) (placements run f) (omega arith)
    (all-weaker (λ p. p.session < openings run f) (λ p. p.session < now) (placements run f) (λ p lt. let l : p.session < openings run f = lt in omega arith) (placed-below run f (less-room run f room)))
placed-below run (m ∷ f) room = placed-below run f room

pub apart : (n s : ℕ) → s < n → (n == s) ≡ false
apart n s lt = grind (arith, eqb_tells n s)

pub turned : (a b : ℕ) → (a == b) ≡ false → (b == a) ≡ false
turned a b e = grind (arith, eqb_tells a b, eqb_tells b a, e)

pub same-number : (n : ℕ) → (n == n) ≡ true
same-number n = grind (arith, eqb_tells n n)

-- a session that is still to be opened has seen nothing
pub unborn : (run : Run) (f : List Moment) → HasRoom run f → part run (openings run f) f ≡ []
unborn run f room =
    let n = openings run f in
    let P : ℕ → Type 0 = λ s. ((n == s) ≡ false) ⊎ (part run s f ≡ []) in
    let found : P n = opened-or-none run n P f (all-weaker (λ s. s < n) P (opened run f) (λ s lt. inl (apart n s lt)) (below run f room)) (λ e. inr e) in
    elim found as (λ _. part run n f ≡ []) [ inl no_one ↦ absurd (false≢true (sym no_one ∙ same-number n)) | inr e ↦ e ]

-- what an opening shows ---------------------------------------------------------

front-none : (b : Bool) (o : Own) (p : List Own) → b ≡ false → only b (o ∷ []) ++ [] ++ p ≡ p
front-none true o p e = absurd (false≢true (sym e))
front-none false o p e = refl

front-one : (b : Bool) (o : Own) (p : List Own) → b ≡ true → only b (o ∷ []) ++ [] ++ p ≡ o ∷ p
front-one true o p e = refl
front-one false o p e = absurd (false≢true e)

-- the other sessions see nothing of it, and the new one sees just that it begins
pub part-other : (run : Run) (f : List Moment) (s : ℕ) → (openings run f == s) ≡ false → part run s (Is (Given Opened) ∷ f) ≡ part run s f
part-other run f s e = front-none (openings run f == s) (Begins (next_slot run f)) (part run s f) e

pub part-new : (run : Run) (f : List Moment) → HasRoom run f → part run (openings run f) (Is (Given Opened) ∷ f) ≡ Begins (next_slot run f) ∷ []
part-new run f room =
    let n = openings run f in
    front-one (n == n) (Begins (next_slot run f)) (part run n f) (same-number n) ∙ ap (λ p. Begins (next_slot run f) ∷ p) (unborn run f room)

-- open sessions ------------------------------------------------------------------

not-false : (b : Bool) → not b ≡ false → b ≡ true
not-false true e = refl
not-false false e = absurd (false≢true (sym e))

pub and-no : (a b : Bool) → b ≡ false → a && b ≡ false
and-no true b e = e
and-no false b e = refl

ended-on : (b : Bool) (l : Line) (o : Own) (own : List Own) → has_ended (o ∷ own) ≡ true → is_open (only b (Reports l ∷ []) ++ [] ++ (o ∷ own)) ≡ false
ended-on true l o own e = ap not e
ended-on false l o own e = ap not e

heard-shut : (c : Bool) (l : Line) (own : List Own) → is_open own ≡ false → is_open (only (c && hears l own) (Reports l ∷ []) ++ [] ++ own) ≡ false
heard-shut c l [] e = ap (λ (b : Bool). is_open (only b (Reports l ∷ []) ++ [] ++ [])) (and-no c (hears l []) (hears-none l))
heard-shut c l (o ∷ own) e = ended-on (c && hears l (o ∷ own)) l o own (not-false (has_ended (o ∷ own)) e)

-- a session that is not open stays so
pub shut-stays : (run : Run) (s : ℕ) (f : List Moment) (m : Moment) → is_opening m ≡ false → is_open (part run s f) ≡ false
    → is_open (part run s (m ∷ f)) ≡ false
shut-stays run s f (Is (Given Opened)) x e = absurd (false≢true (sym x))
shut-stays run s f (Is (Noted (Report l))) x e = heard-shut (session_in l == s) l (part run s f) e
shut-stays run s f m x e =
    ap (λ (os : List Own). is_open (os ++ part run s f)) (open-none (parts_of run f) s (sees run (parts_of run f) s f m) e) ∙ e

pub open-before : (run : Run) (s : ℕ) (f : List Moment) (m : Moment) → is_opening m ≡ false → is_open (part run s (m ∷ f)) ≡ true
    → is_open (part run s f) ≡ true
open-before run s f m x e =
    elim (is_open (part run s f)) as (λ b. is_open (part run s f) ≡ b → b ≡ true) [
      | true ↦ λ y. refl
      | false ↦ λ y. absurd (false≢true (sym (shut-stays run s f m x y) ∙ e))
    ] refl

end-if : (c : Bool) (near p : List Own) → c ≡ is_open p → is_open (only c (Ends ∷ near) ++ p) ≡ false
end-if true near p e = refl
end-if false near p e = sym e

end-shut : (parts : Parts) (s : ℕ) (b : Bool) (near : List Own) → b ≡ true → is_open (if_open parts s (only b (Ends ∷ []) ++ near) ++ parts s) ≡ false
end-shut parts s true near x = end-if (is_open (parts s)) near (parts s) refl
end-shut parts s false near x = absurd (false≢true x)

-- an end ends its session
pub end-ends : (run : Run) (s r : ℕ) (f : List Moment) → (r == s) ≡ true → is_open (part run s (Is (End r) ∷ f)) ≡ false
end-ends run s r f e = end-shut (parts_of run f) s (r == s) (neighbour_if run (parts_of run f) s r (is_armed (part run r f))) e

pub open-other : (run : Run) (s r : ℕ) (f : List Moment) → is_open (part run s (Is (End r) ∷ f)) ≡ true → (r == s) ≡ false
open-other run s r f e =
    elim (r == s) as (λ b. (r == s) ≡ b → b ≡ false) [
      | true ↦ λ y. absurd (false≢true (sym (end-ends run s r f y) ∙ e))
      | false ↦ λ y. refl
    ] refl

-- slots ------------------------------------------------------------------------

or-right : (a b : Bool) → b ≡ true → a || b ≡ true
or-right true b e = refl
or-right false b e = e

both-of : (a b : Bool) → a && b ≡ true → (a ≡ true) × (b ≡ true)
both-of true b e = (refl, e)
both-of false b e = absurd (false≢true e)

-- the session has the slot
abbrev pub is_at : ℕ → ℕ → Placed → Bool
is_at s slot p = (p.session == s) && (p.slot == slot)

pub any-with : (test : Placed → Bool) (n : ℕ) (o : Option ℕ) (placed : List Placed) → list_any test placed ≡ true → list_any test (with_slot n o placed) ≡ true
any-with test n None placed e = e
any-with test n (Some slot) placed e = or-right (test (record { session = n; slot = slot })) (list_any test placed) e

any-push : (test : Placed → Bool) (b : Bool) (q : Placed) (qs : List Placed) → list_any test qs ≡ true → list_any test (cond b (q ∷ qs) qs) ≡ true
any-push test true q qs e = or-right (test q) (list_any test qs) e
any-push test false q qs e = e

any-kept : (test keep : Placed → Bool) (placed : List Placed) → ((q : Placed) → test q ≡ true → keep q ≡ true)
    → list_any test placed ≡ true → list_any test (filter keep placed) ≡ true
any-kept test keep [] k e = e
any-kept test keep (q ∷ qs) k e =
    elim (test q) as (λ b. test q ≡ b → b || list_any test qs ≡ true → list_any test (cond (keep q) (q ∷ filter keep qs) (filter keep qs)) ≡ true) [
      | true ↦ λ y g. ap (λ (b : Bool). list_any test (cond b (q ∷ filter keep qs) (filter keep qs))) (k q y) ∙ ap (λ (b : Bool). b || list_any test (filter keep qs)) y
      | false ↦ λ x g. any-push test (keep q) q (filter keep qs) (any-kept test keep qs k g)
    ] refl e

not-equal : (a s r : ℕ) → (a == s) ≡ true → (r == s) ≡ false → not (a == r) ≡ true
not-equal a s r e x =
    let same : a ≡ s = same-of a s e in
    let other : (a == r) ≡ false = subst (λ (k : ℕ). (k == r) ≡ false) (sym same) (turned r s x) in ap not other

keeps-others : (s r slot : ℕ) → (r == s) ≡ false → (q : Placed) → is_at s slot q ≡ true → not (q.session == r) ≡ true
keeps-others s r slot x q e = not-equal q.session s r (both-of (q.session == s) (q.slot == slot) e).0 x

pub with-own : (s n slot : ℕ) (o : Option ℕ) (placed : List Placed) → (n == s) ≡ true → o ≡ Some slot → list_any (is_at s slot) (with_slot n o placed) ≡ true
with-own s n slot None placed x e = absurd (let g : None ≡ Some slot = e in cc)
with-own s n slot (Some k) placed x e =
    let same : k ≡ slot = some-same k slot e in
    let here : (k == slot) ≡ true = subst (λ (j : ℕ). (k == j) ≡ true) same (same-number k) in
    ap (λ (b : Bool). (b && (k == slot)) || list_any (is_at s slot) placed) x ∙ ap (λ (b : Bool). b || list_any (is_at s slot) placed) here

-- an open session that was given a slot has it still
pub has-slot : (run : Run) (s slot : ℕ) (f : List Moment) → is_open (part run s f) ≡ true → slot_of run s f ≡ Some slot
    → list_any (is_at s slot) (open_with_slot run f) ≡ true
has-slot run s slot [] there e = absurd (false≢true there)
has-slot run s slot (Is (Given Opened) ∷ f) there e =
    elim (openings run f == s) as (λ b. (openings run f == s) ≡ b → cond b (next_slot run f) (slot_of run s f) ≡ Some slot
    → list_any (is_at s slot) (open_with_slot run (Is (Given Opened) ∷ f)) ≡ true) [
      | true ↦ λ y g. with-own s (openings run f) slot (next_slot run f) (open_with_slot run f) y g
      | false ↦ λ x g.
          any-with (is_at s slot) (openings run f) (next_slot run f) (open_with_slot run f)
          (has-slot run s slot f (sym (ap is_open (part-other run f s x)) ∙ there) g)
    ] refl e
has-slot run s slot (Is (End r) ∷ f) there e =
    any-kept (is_at s slot) (λ p. not (p.session == r)) (open_with_slot run f) (keeps-others s r slot (open-other run s r f there))
    (has-slot run s slot f (open-before run s f (Is (End r)) refl there) e)
has-slot run s slot (m ∷ f) there e = has-slot run s slot f (open-before run s f m refl there) e

-- a free slot is nobody's
pub free-slot : (n from slot : ℕ) (placed : List Placed) → least_free n from placed ≡ Some slot → is_taken placed slot ≡ false
free-slot zero from slot placed e = absurd (let g : None ≡ Some slot = e in cc)
free-slot (suc n) from slot placed e =
    elim (is_taken placed from) as (λ b. is_taken placed from ≡ b → cond b (least_free n (from + 1) placed) (Some from) ≡ Some slot → is_taken placed slot ≡ false) [
      | true ↦ λ y g. free-slot n (from + 1) slot placed g
      | false ↦ λ x g. subst (λ (k : ℕ). is_taken placed k ≡ false) (some-same from slot g) x
    ] refl e

pub at-taken : (s slot : ℕ) (placed : List Placed) → list_any (is_at s slot) placed ≡ true → is_taken placed slot ≡ true
at-taken s slot [] e = e
at-taken s slot (p ∷ placed) e =
    elim (is_at s slot p) as (λ b. is_at s slot p ≡ b → b || list_any (is_at s slot) placed ≡ true → (p.slot == slot) || is_taken placed slot ≡ true) [
      | true ↦ λ y g. ap (λ (b : Bool). b || is_taken placed slot) (both-of (p.session == s) (p.slot == slot) y).1
      | false ↦ λ x g. or-right (p.slot == slot) (is_taken placed slot) (at-taken s slot placed g)
    ] refl e

-- the next slot is not that of an open session
pub next-apart : (run : Run) (s slot free : ℕ) (f : List Moment) → next_slot run f ≡ Some free → is_open (part run s f) ≡ true
    → slot_of run s f ≡ Some slot → (free == slot) ≡ false
next-apart run s slot free f e there at =
    elim (free == slot) as (λ b. (free == slot) ≡ b → b ≡ false) [
      | true ↦ λ y.
          let taken : is_taken (open_with_slot run f) free ≡ true =
          subst (λ (k : ℕ). is_taken (open_with_slot run f) k ≡ true) (sym (same-of free slot y)) (at-taken s slot (open_with_slot run f) (has-slot run s slot f there at)) in
          absurd (false≢true (sym (free-slot 64 0 free (open_with_slot run f) e) ∙ taken))
      | false ↦ λ x. refl
    ] refl
