-- Where a turn has ended, the open sessions by rising number are those that have a slot, the newest last.
use Rattle.std.proofs.Common.{◌≡◌, ℕ, Bool, true, false, cond, not, ◌&&◌, List, [], ◌∷◌, ◌++◌, map, filter, reverse, Option, Some, None, is_some, refl, sym, ap, ◌∙◌, ◌<◌, arith}
use Rattle.std.specs.Prelude.{◌==◌}
use Rattle.std.proofs.lemmas.Bool.Decides.{eqb_tells}
use Rattle.std.proofs.lemmas.List.{append-nil, reverse-append}
use Rattle.std.proofs.lemmas.List.Elements.{filter-append}
use Rattle.mon_world.specs.declared.event.Event.TheVariants.{Opened}
use Rattle.mon_world.specs.declared.history.Entry.TheVariants.{Given, End}
use Rattle.mon_legal.specs.Runs.{Run}
use Rattle.mon_legal.specs.Moments.{Moment}
use Rattle.mon_legal.specs.Moments.Moment.{Is}
use Rattle.mon_legal.specs.Jobs.{openings}
use Rattle.mon_legal.specs.Sessions.{Placed, part, opened, open_ones, is_open, next_slot, slot_of, open_with_slot, with_slot}
use Rattle.mon_legal.specs.Ordering.{next}
use Rattle.mon_legal.specs.Ordering.Next.{Nothing}
use Rattle.mon_legal.specs.Passing.{FramesGoInOrder}
use Rattle.mon_turns.specs.Opening.{HasRoom}
use Rattle.mon_turns.specs.Laws.{ends_it, is_opening}
use Rattle.mon_turns.proofs.Born.{all-weaker, apart, turned, below, less-room, same-number, part-other, part-new, open-before, end-ends}
use Rattle.mon_turns.proofs.Opened.{all-units, filter-same}
use Rattle.mon_turns.proofs.Staying.{open-stays}
use Rattle.mon_turns.proofs.Taken.{bool-same, slotted}

-- lists ------------------------------------------------------------------------------

pub reverse-cons : {A : Type 0} (x : A) (xs : List A) → reverse (x ∷ xs) ≡ reverse xs ++ x ∷ []
reverse-cons x xs = reverse-append (x ∷ []) xs

reverse-last : {A : Type 0} (xs : List A) (x : A) → reverse (xs ++ x ∷ []) ≡ x ∷ reverse xs
reverse-last xs x = reverse-append xs (x ∷ [])

map-cond : (b : Bool) (p : Placed) (placed : List Placed)
    → map (λ q. q.session) (cond b (p ∷ placed) placed) ≡ cond b (p.session ∷ map (λ q. q.session) placed) (map (λ q. q.session) placed)
map-cond true p placed = refl
map-cond false p placed = refl

cond-last : (b : Bool) (x : ℕ) (xs : List ℕ) → reverse xs ++ cond b (x ∷ []) [] ≡ reverse (cond b (x ∷ xs) xs)
cond-last true x xs = sym (reverse-cons x xs)
cond-last false x xs = append-nil (reverse xs)

filter-cond : (p : ℕ → Bool) (b : Bool) (x : ℕ) (xs : List ℕ) → filter p (cond b (x ∷ xs) xs) ≡ cond b (cond (p x) (x ∷ filter p xs) (filter p xs)) (filter p xs)
filter-cond p true x xs = refl
filter-cond p false x xs = refl

cond-both : (a b : Bool) (x : ℕ) (xs : List ℕ) → cond b (cond a (x ∷ xs) xs) xs ≡ cond (a && b) (x ∷ xs) xs
cond-both true true x xs = refl
cond-both true false x xs = refl
cond-both false true x xs = refl
cond-both false false x xs = refl

filter-map : (keep : ℕ → Bool) (placed : List Placed) → map (λ p. p.session) (filter (λ p. keep p.session) placed) ≡ filter keep (map (λ p. p.session) placed)
filter-map keep [] = refl
filter-map keep (p ∷ placed) =
    map-cond (keep p.session) p (filter (λ q. keep q.session) placed)
    ∙ ap (λ (xs : List ℕ). cond (keep p.session) (p.session ∷ xs) xs) (filter-map keep placed)

filter-reverse : (keep : ℕ → Bool) (xs : List ℕ) → filter keep (reverse xs) ≡ reverse (filter keep xs)
filter-reverse keep [] = refl
filter-reverse keep (x ∷ xs) =
    ap (filter keep) (reverse-cons x xs)
    ∙ filter-append keep (reverse xs) (x ∷ [])
    ∙ ap (λ (ys : List ℕ). ys ++ cond (keep x) (x ∷ []) []) (filter-reverse keep xs)
    ∙ cond-last (keep x) x (filter keep xs)

filter-both : (p q : ℕ → Bool) (xs : List ℕ) → filter p (filter q xs) ≡ filter (λ x. p x && q x) xs
filter-both p q [] = refl
filter-both p q (x ∷ xs) =
    filter-cond p (q x) x (filter q xs)
    ∙ ap (λ (ys : List ℕ). cond (q x) (cond (p x) (x ∷ ys) ys) ys) (filter-both p q xs)
    ∙ cond-both (p x) (q x) x (filter (λ y. p y && q y) xs)

-- seats -----------------------------------------------------------------------------

-- the session is open and has a slot
abbrev seated : Run → List Moment → ℕ → Bool
seated run f s = is_open (part run s f) && is_some (slot_of run s f)

with-new : (run : Run) (f : List Moment) (o : Option ℕ) (xs : List ℕ) → map (λ p. p.session) (open_with_slot run f) ≡ reverse xs
    → map (λ p. p.session) (with_slot (openings run f) o (open_with_slot run f)) ≡ reverse (xs ++ cond (is_some o) (openings run f ∷ []) [])
with-new run f None xs e = e ∙ ap reverse (sym (append-nil xs))
with-new run f (Some slot) xs e = ap (λ (ys : List ℕ). openings run f ∷ ys) e ∙ sym (reverse-last xs (openings run f))

new-seat : (run : Run) (f : List Moment) → HasRoom run f → seated run (Is (Given Opened) ∷ f) (openings run f) ≡ is_some (next_slot run f)
new-seat run f room =
    let n = openings run f in
    ap (λ (b : Bool). b && is_some (slot_of run n (Is (Given Opened) ∷ f))) (ap is_open (part-new run f room))
    ∙ ap (λ (b : Bool). is_some (cond b (next_slot run f) (slot_of run n f))) (same-number n)

old-seat : (run : Run) (f : List Moment) (s : ℕ) → (openings run f == s) ≡ false → seated run (Is (Given Opened) ∷ f) s ≡ seated run f s
old-seat run f s x =
    ap (λ (b : Bool). b && is_some (slot_of run s (Is (Given Opened) ∷ f))) (ap is_open (part-other run f s x))
    ∙ ap (λ (b : Bool). is_open (part run s f) && is_some (cond b (next_slot run f) (slot_of run s f))) x

open-same : (run : Run) (f : List Moment) (m : Moment) (s : ℕ) → is_opening m ≡ false → ends_it s m ≡ false → is_open (part run s (m ∷ f)) ≡ is_open (part run s f)
open-same run f m s x y = bool-same (is_open (part run s (m ∷ f))) (is_open (part run s f)) (open-before run s f m x) (open-stays run s f m y)

same-turned : (a b : ℕ) → (a == b) ≡ true → (b == a) ≡ true
same-turned a b e = grind (arith, eqb_tells a b, eqb_tells b a, e)

end-seat : (run : Run) (f : List Moment) (r s : ℕ) → seated run (Is (End r) ∷ f) s ≡ (not (s == r) && seated run f s)
end-seat run f r s =
    elim (s == r) as (λ b. (s == r) ≡ b → seated run (Is (End r) ∷ f) s ≡ (not b && seated run f s)) [
      | true ↦ λ y. ap (λ (b : Bool). b && is_some (slot_of run s f)) (end-ends run s r f (same-turned s r y))
      | false ↦ λ x. ap (λ (b : Bool). b && is_some (slot_of run s f)) (open-same run f (Is (End r)) s refl (turned s r x))
    ] refl

seats : (run : Run) (f : List Moment) → HasRoom run f → map (λ p. p.session) (open_with_slot run f) ≡ reverse (filter (seated run f) (opened run f))
seats run [] room = refl
seats run (Is (Given Opened) ∷ f) room =
    let n = openings run f in
    let g = Is (Given Opened) ∷ f in
    let less = less-room run f room in
    with-new run f (next_slot run f) (filter (seated run f) (opened run f)) (seats run f less)
    ∙ ap (λ (xs : List ℕ). reverse (xs ++ cond (is_some (next_slot run f)) (n ∷ []) []))
    (filter-same (seated run f) (seated run g) (opened run f)
    (all-weaker (λ s. s < n) (λ s. seated run f s ≡ seated run g s) (opened run f) (λ s lt. sym (old-seat run f s (apart n s lt))) (below run f less)))
    ∙ ap (λ (b : Bool). reverse (filter (seated run g) (opened run f) ++ cond b (n ∷ []) [])) (sym (new-seat run f less))
    ∙ ap reverse (sym (filter-append (seated run g) (opened run f) (n ∷ [])))
seats run (Is (End r) ∷ f) room =
    filter-map (λ s. not (s == r)) (open_with_slot run f)
    ∙ ap (filter (λ s. not (s == r))) (seats run f room)
    ∙ filter-reverse (λ s. not (s == r)) (filter (seated run f) (opened run f))
    ∙ ap reverse
    (filter-both (λ s. not (s == r)) (seated run f) (opened run f)
    ∙ filter-same (λ s. not (s == r) && seated run f s) (seated run (Is (End r) ∷ f)) (opened run f)
    (all-units (λ s. (not (s == r) && seated run f s) ≡ seated run (Is (End r) ∷ f) s) (opened run f) (λ s. sym (end-seat run f r s))))
seats run (m ∷ f) room =
    seats run f room
    ∙ ap reverse (filter-same (seated run f) (seated run (m ∷ f)) (opened run f)
    (all-units (λ s. seated run f s ≡ seated run (m ∷ f) s) (opened run f)
    (λ s. ap (λ (b : Bool). b && is_some (slot_of run s f)) (sym (open-same run f m s refl refl)))))

seat-open : (run : Run) (s : ℕ) (f : List Moment) → HasRoom run f → FramesGoInOrder run f → next run f ≡ Nothing → seated run f s ≡ is_open (part run s f)
seat-open run s f room order nothing =
    elim (is_open (part run s f)) as (λ b. is_open (part run s f) ≡ b → (b && is_some (slot_of run s f)) ≡ b) [
      | true ↦ λ y. ap is_some (slotted run s f room order nothing y).1
      | false ↦ λ x. refl
    ] refl

pub rising : (run : Run) (f : List Moment) → HasRoom run f → FramesGoInOrder run f → next run f ≡ Nothing
    → map (λ p. p.session) (open_with_slot run f) ≡ reverse (open_ones run f)
rising run f room order nothing =
    seats run f room
    ∙ ap reverse (filter-same (seated run f) (λ s. is_open (part run s f)) (opened run f)
    (all-units (λ s. seated run f s ≡ is_open (part run s f)) (opened run f) (λ s. seat-open run s f room order nothing)))
