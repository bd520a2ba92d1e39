-- Steps of the code that appends clauses.
use Rattle.std.proofs.Common.{◌≡◌, ℕ, suc, ◌+◌, ◌<◌, ◌≤◌, refl, sym, ap, ◌∙◌, List, [], ◌∷◌, ◌++◌, length, map, get_or, drop, drop-cons, add-one, append_assoc, Option, Some, None, Result, Ok, Err, OnOk, IfOk, true, false, cond}
use Rattle.std.specs.List.{slice_get}
use Rattle.mon_cnf.specs.declared.clause.Lit.{Lit}
use Rattle.mon_cnf.specs.Formulas.{Cnf}
use Rattle.mon_cnf.specs.Truth.{Within}
use Rattle.mon_header.specs.declared.class.Class.{Class}
use Rattle.mon_header.specs.Matching.{Matching}
use Rattle.mon_table.specs.declared.rule.Rule.{Rule}
use Rattle.mon_table.specs.Rules.{rank}
use Rattle.mon_literals.specs.Clauses.{alone, appended}
use Rattle.mon_literals.specs.Patterns.{pattern_of}
use Rattle.mon_outcome.specs.declared.shape.Shape.{Shape}
use Rattle.mon_literals.specs.Differing.{differ}
use Rattle.mon_literals.proofs.Reaching.{differ_within, pattern_within, more_within, denied_within}
use Rattle.mon_encode.specs.Clauses.{true_at, false_at, unmatched, beaten, won, sures, chain, above, same_door, apart, or_hidden, hidden}

abbrev formula : ℕ → List (List Lit) → Cnf
formula vars clauses = record { vars = vars; clauses = clauses }

-- literals of a header are of a formula's variables
pub pattern-fits : (vars : ℕ) (m : Matching) → 264 ≤ vars → Within vars (pattern_of m)
pattern-fits vars m le = more_within 264 vars (pattern_of m) le (pattern_within m)

pub unmatched-fits : (vars : ℕ) (r : Rule) → 264 ≤ vars → Within vars (unmatched r)
unmatched-fits vars r le = denied_within vars (pattern_of r.matching) (pattern-fits vars r.matching le)

-- the rules from a place on
pub from-here : (t : List Rule) (n : ℕ) (r : Rule) → n < length t → r ≡ get_or t n r → drop n t ≡ r ∷ drop (n + 1) t
from-here t n r lt e = drop-cons t n r lt ∙ (ap (λ (x : Rule). x ∷ drop (suc n) t) (sym e) ∙ ap (λ (m : ℕ). r ∷ drop m t) (sym (add-one n)))

-- the sure rules from a place on
pub sures-more : (t : List Rule) (n : ℕ) (r : Rule) → n < length t → r ≡ get_or t n r → r.unsure ≡ false → sures (drop n t) ≡ r ∷ sures (drop (n + 1) t)
sures-more t n r lt e u = ap sures (from-here t n r lt e) ∙ rw u refl

pub sures-skip : (t : List Rule) (n : ℕ) (r : Rule) → n < length t → r ≡ get_or t n r → r.unsure ≡ true → sures (drop n t) ≡ sures (drop (n + 1) t)
sures-skip t n r lt e u = ap sures (from-here t n r lt e) ∙ rw u refl

-- the helpers of one more rule
pub chain-more : (old f g : Cnf) (k n : ℕ) (earlier ls : List Lit) (t : List Rule) (r : Rule) (all : List (List Lit)) → n < length t → r ≡ get_or t n r → r.unsure ≡ false → ls ≡ pattern_of r.matching
    → f ≡ appended old (map (λ (l : Lit). false_at k ∷ l ∷ []) ls) → g ≡ appended f ((false_at (k + 1) ∷ true_at k ∷ earlier) ∷ [])
    → old.clauses ++ chain k earlier (sures (drop n t)) ≡ all
    → g.clauses ++ chain (k + 2) (true_at (k + 1) ∷ []) (sures (drop (n + 1) t)) ≡ all
chain-more old f g k n earlier ls t r all lt e u p a b s =
    let rest = chain (k + 2) (true_at (k + 1) ∷ []) (sures (drop (n + 1) t)) in
    let link = false_at (k + 1) ∷ true_at k ∷ earlier in
    let told = λ (xs : List Lit). map (λ (l : Lit). false_at k ∷ l ∷ []) xs in
    ap (λ (x : Cnf). x.clauses ++ rest) b
    ∙ (ap (λ (x : Cnf). (x.clauses ++ (link ∷ [])) ++ rest) a
    ∙ (append_assoc (old.clauses ++ told ls) (link ∷ []) rest
    ∙ (append_assoc old.clauses (told ls) (link ∷ rest)
    ∙ (ap (λ (xs : List Lit). old.clauses ++ (told xs ++ (link ∷ rest))) p
    ∙ (sym (ap (λ (rs : List Rule). old.clauses ++ chain k earlier rs) (sures-more t n r lt e u)) ∙ s)))))

-- what follows of a call that found memory
pub on-ok : {T E : Type 0} (r : Result T E) (P Q : Type 0) → (P → Q) → OnOk r P → OnOk r Q
on-ok (Ok x) P Q f p = f p
on-ok (Err e) P Q f p = p

-- a winner's literals, and then what it beats
pub won-pushed : (old f g : Cnf) (winner least : ℕ) (w : Rule) (ls : List Lit) (t : List Rule) → slice_get t winner ≡ Some w → ls ≡ pattern_of w.matching → least ≡ rank w
    → f ≡ appended old (alone ls) → g ≡ appended f (beaten winner least 0 t) → g ≡ appended old (won winner (slice_get t winner) t)
won-pushed old f g winner least w ls t s p n a b =
    b
    ∙ (ap (λ (x : Cnf). appended x (beaten winner least 0 t)) a
    ∙ (ap (λ (cs : List (List Lit)). formula old.vars cs) (append_assoc old.clauses (alone ls) (beaten winner least 0 t))
    ∙ (ap (λ (xs : List Lit). appended old (alone xs ++ beaten winner least 0 t)) p
    ∙ (ap (λ (m : ℕ). appended old (alone (pattern_of w.matching) ++ beaten winner m 0 t)) n
    ∙ ap (λ (o : Option Rule). appended old (won winner o t)) (sym s)))))

-- the difference of two shapes
pub apart-fits : (vars : ℕ) (shape : Option Shape) (other : Shape) (o : Option (List Lit)) (d : List Lit) → 264 ≤ vars → o ≡ apart shape other → o ≡ Some d → Within vars d
apart-fits vars None other o d le e f = absurd (let z : None ≡ Some d = sym e ∙ f in let y : ⊥ = cc in y)
apart-fits vars (Some shape) other o d le e f =
    elim (same_door other.door shape.door) as (λ b. cond b (differ other.bits shape.bits) None ≡ Some d → Within vars d) [
      | true ↦ λ g. more_within 264 vars d le (differ_within other.bits shape.bits d g)
      | false ↦ λ g. absurd (let y : ⊥ = cc in y)
    ] (sym e ∙ f)

-- one more rule that is hidden
pub hidden-more : (f g : Cnf) (class : Class) (in_port : ℕ) (shape : Option Shape) (n : ℕ) (base high : List Lit) (sure t : List Rule) (r : Rule) (all : List (List Lit)) → n < length t → r ≡ get_or t n r
    → base ≡ unmatched r ++ high → above 264 [] (rank r) sure ≡ high → g ≡ appended f (or_hidden base class in_port shape r)
    → f.clauses ++ hidden 264 class in_port shape sure (drop n t) ≡ all → g.clauses ++ hidden 264 class in_port shape sure (drop (n + 1) t) ≡ all
hidden-more f g class in_port shape n base high sure t r all lt e b h p s =
    let rest = hidden 264 class in_port shape sure (drop (n + 1) t) in
    ap (λ (x : Cnf). x.clauses ++ rest) p
    ∙ (append_assoc f.clauses (or_hidden base class in_port shape r) rest
    ∙ (ap (λ (ls : List Lit). f.clauses ++ (or_hidden ls class in_port shape r ++ rest)) (b ∙ ap (λ (ls : List Lit). unmatched r ++ ls) (sym h))
    ∙ (sym (ap (λ (rs : List Rule). f.clauses ++ hidden 264 class in_port shape sure rs) (from-here t n r lt e)) ∙ s)))

pub if-ok : {T E : Type 0} (r : Result T E) (P Q : T → Type 0) → ((x : T) → P x → Q x) → IfOk r P → IfOk r Q
if-ok (Ok x) P Q f p = f x p
if-ok (Err e) P Q f p = p
