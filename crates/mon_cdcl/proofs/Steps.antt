-- Steps of the search: the trail grows, jumps back, or restarts, and less is left to do.
use Rattle.std.proofs.Common.{◌≡◌, ℕ, zero, suc, ◌+◌, ◌-◌, ◌*◌, ◌^◌, ◌<◌, ◌≤◌, Bool, true, sym, ap, ◌∙◌, subst, List, [], ◌∷◌, ◌++◌, length, map, replicate, Option, Some, None, append_assoc, arith}
use Rattle.std.specs.Prelude.{option_map}
use Rattle.std.proofs.lemmas.List.{map-append, append-nil}
use Rattle.std.proofs.Math.Nat.{mul-le-mul_right}
use Rattle.mon_cnf.specs.Formulas.{Cnf}
use Rattle.mon_refute.specs.declared.lines.LogLine.{LogLine}
use Rattle.mon_trail.specs.declared.look.Mark.{Mark}
use Rattle.mon_trail.specs.declared.look.Mark.TheVariants.{Free}
use Rattle.mon_trail.specs.declared.trail.Entry.{Entry}
use Rattle.mon_trail.specs.declared.trail.Trail.{Trail}
use Rattle.mon_trail.specs.Trail.{CanEnter, Jumped, Stands, clauses_with, entered, is_forced, rank, rank_of}
use Rattle.mon_trail.proofs.Popping.{room}
use Rattle.mon_trail.proofs.Ranks.{rank_below, entering_rises, jumping_rises}
use Rattle.mon_trail.proofs.Trails.{leads_push}
use Rattle.mon_cdcl.specs.Search.{Grown, work}
use Rattle.mon_cdcl.specs.Counts.{AskedAtLeast, counted}
use Rattle.mon_cdcl.specs.declared.solver.End.{End}
use Rattle.mon_cdcl.specs.Asking.{asks_by, KeepsAsking}

pub stands_push : (f : Cnf) (log : List LogLine) (es : List Entry) (marks : List Mark) (e : Entry) → Stands f log es marks → CanEnter (clauses_with f log) marks e → Stands f log (es ++ (e ∷ [])) (entered marks e)
stands_push f log es marks e s c = record { follow = s.follow; leads = leads_push (clauses_with f log) (replicate f.vars Free) es marks e s.leads c }

pub stands_as : (f : Cnf) (log : List LogLine) (es now : List Entry) (marks after : List Mark) (e : Entry) → Stands f log es marks → CanEnter (clauses_with f log) marks e → now ≡ es ++ (e ∷ []) → after ≡ entered marks e → Stands f log now after
stands_as f log es now marks after e s c x y = subst (λ ms. Stands f log now ms) (sym y) (subst (λ xs. Stands f log xs (entered marks e)) (sym x) (stands_push f log es marks e s c))

rank_grows : (n : ℕ) (ds more : List Bool) → rank n ds ≤ rank n (ds ++ more)
rank_grows n [] more = omega arith
rank_grows zero (d ∷ ds) more = omega arith
rank_grows (suc n) (d ∷ ds) more = omega (arith, rank_grows n ds more)

pub growing : (f : Cnf) (es now more : List Entry) → now ≡ es ++ more → rank_of f es ≤ rank_of f now
growing f es now more e = subst (λ ds. rank_of f es ≤ rank f.vars ds) (sym (ap (map is_forced) e ∙ map-append is_forced es more)) (rank_grows f.vars (map is_forced es) (map is_forced more))

less_work : (left p i j : ℕ) → i < j → j < p → left * p + (p - j) < left * p + (p - i)
less_work left p i j a b = omega arith

no_more_work : (left p i j : ℕ) → i ≤ j → left * p + (p - j) ≤ left * p + (p - i)
no_more_work left p i j a = omega arith

restart_work : (left now p i j : ℕ) → now * p + p ≤ left * p → i < p → now * p + (p - j) < left * p + (p - i)
restart_work left now p i j a b = omega arith

one_more_times : (now p : ℕ) → (now + 1) * p ≡ now * p + p
one_more_times now p = omega arith

-- an entry comes
pub entering_works : (f : Cnf) (log : List LogLine) (left : ℕ) (es now : List Entry) (marks : List Mark) (e : Entry) → Stands f log es marks → CanEnter (clauses_with f log) marks e → now ≡ es ++ (e ∷ []) → work f left now < work f left es
entering_works f log left es now marks e s c g =
    let h = entering_rises f es e (room f log es marks e s c) in
    subst (λ xs. work f left xs < work f left es) (sym g) (less_work left (3 ^ f.vars) _ _ h (rank_below f.vars (map is_forced (es ++ (e ∷ [])))))

-- a forced literal comes in a decision's place
pub jumping_works : (f : Cnf) (log : List LogLine) (left : ℕ) (old es now : List Entry) (marks : List Mark) (e : Entry) → Stands f log es marks → CanEnter (clauses_with f log) marks e → is_forced e ≡ true → Jumped old es → now ≡ es ++ (e ∷ [])
    → work f left now < work f left old
jumping_works f log left old es now marks e s c i j g =
    let h = jumping_rises f old es j.cut j.decision e j.was j.decided i (room f log es marks e s c) in
    subst (λ xs. work f left xs < work f left old) (sym g) (less_work left (3 ^ f.vars) _ _ h (rank_below f.vars (map is_forced (es ++ (e ∷ [])))))

-- the trail has grown, or is the same
pub growing_works : (f : Cnf) (left : ℕ) (es now more : List Entry) → now ≡ es ++ more → work f left now ≤ work f left es
growing_works f left es now more e = no_more_work left (3 ^ f.vars) _ _ (growing f es now more e)

-- a restart
pub restarting_works : (f : Cnf) (left less : ℕ) (es now : List Entry) → less < left → work f less now < work f left es
restarting_works f left less es now h =
    let p = 3 ^ f.vars in
    let m : (less + 1) * p ≤ left * p = mul-le-mul_right p (omega arith) in
    restart_work left less p (rank_of f es) (rank_of f now) (omega (arith, one_more_times less p)) (rank_below f.vars (map is_forced es))

pub grown_none : (f : Cnf) (log : List LogLine) (t : Trail) → Stands f log t.entries.items t.marks.items → Grown f log t t
grown_none f log t s = record { stands = s; more = []; is = sym (append-nil t.entries.items) }

pub grown_more : (f : Cnf) (log : List LogLine) (old mid new : Trail) → Grown f log old mid → Grown f log mid new → Grown f log old new
grown_more f log old mid new a b = record {
  stands = b.stands;
  more = a.more ++ b.more;
  is = b.is ∙ ap (λ xs. xs ++ b.more) a.is ∙ append_assoc old.entries.items a.more b.more;
}

pub grown_push : (f : Cnf) (log : List LogLine) (old mid new : Trail) (e : Entry) → Grown f log old mid → CanEnter (clauses_with f log) mid.marks.items e → new.marks.items ≡ entered mid.marks.items e → new.entries.items ≡ mid.entries.items ++ (e ∷ []) → Grown f log old new
grown_push f log old mid new e a c m g = grown_more f log old mid new a (record {
  stands = stands_as f log mid.entries.items new.entries.items mid.marks.items new.marks.items e a.stands c g m;
  more = e ∷ [];
  is = g;
})

-- one ask more
asked_one : (n m asks now : ℕ) → m ≤ n + 1 → counted (asks + n) ≤ now → counted (asks + m) ≤ counted (now + 1)
asked_one n m asks now h a = omega arith

pub asked_more : (n m : ℕ) (before was now : Option ℕ) → m ≤ n + 1 → now ≡ option_map (λ k. counted (k + 1)) was → AskedAtLeast n before was → AskedAtLeast m before now
asked_more n m None was now h e a = tt
asked_more n m (Some b) None now h e a = absurd a
asked_more n m (Some b) (Some w) now h e a = subst (λ o. AskedAtLeast m (Some b) o) (sym e) (asked_one n m b w h a)

pub asked_less : (n m : ℕ) (before now : Option ℕ) → m ≤ n → AskedAtLeast n before now → AskedAtLeast m before now
asked_less n m None now h a = tt
asked_less n m (Some b) None h a = absurd a
asked_less n m (Some b) (Some w) h a = omega arith

pub asks_one : (old new : List LogLine) (was now : Option ℕ) (end : Option End) → asks_by end (length new) ≤ length old + 1 → now ≡ option_map (λ k. counted (k + 1)) was → KeepsAsking old was new now end
asks_one old new was now end h e = λ before a. asked_more (length old) (asks_by end (length new)) before was now h e a

pub asks_none : (old new : List LogLine) (was now : Option ℕ) (end : Option End) → asks_by end (length new) ≤ length old → now ≡ was → KeepsAsking old was new now end
asks_none old new was now end h e = λ before a. subst (λ o. AskedAtLeast (asks_by end (length new)) before o) (sym e) (asked_less (length old) (asks_by end (length new)) before was h a)

pub asked_start : (o : Option ℕ) → AskedAtLeast 0 o o
asked_start None = tt
asked_start (Some n) = omega arith
