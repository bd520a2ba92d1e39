-- What single clauses say.
use Rattle.std.proofs.Common.{◌≡◌, ℕ, suc, Bool, true, false, not, cond, ◌&&◌, ◌||◌, List, [], ◌∷◌, map, Option, Some, None, refl, sym, ap, ◌∙◌}
use Rattle.std.specs.Prelude.{◌==◌, nat_lt}
use Rattle.std.specs.List.{list_all, AllByRecursion}
use Rattle.std.proofs.lemmas.List.Folds.{list_any-append}
use Rattle.mon_cnf.specs.declared.clause.Lit.{Lit}
use Rattle.mon_cnf.specs.Truth.{lit_true, clause_true, formula_true}
use Rattle.mon_header.specs.declared.header.Header.{Header}
use Rattle.mon_header.specs.Matching.{matches}
use Rattle.mon_table.specs.declared.rule.Rule.{Rule}
use Rattle.mon_table.specs.Rules.{rank}
use Rattle.mon_literals.specs.Patterns.{pattern_of}
use Rattle.mon_literals.proofs.Truths.{denied_true}
use Rattle.mon_encode.specs.Clauses.{unmatched, beaten, or_apart}

-- the literals of a rule's match are true
abbrev pub fits : (ℕ → Bool) → Rule → Bool
fits v r = list_all (lit_true v) (pattern_of r.matching)

-- they are true exactly where the rule matches the header
abbrev pub Read : (ℕ → Bool) → Header → List Rule → Type 0
Read v h t = AllByRecursion (λ r. fits v r ≡ matches r.matching h) t

-- laws of Bool
pub or_no : (a : Bool) → (a || false) ≡ a
or_no true = refl
or_no false = refl

pub or_yes : (a : Bool) → (a || true) ≡ true
or_yes true = refl
or_yes false = refl

pub and_yes : (a : Bool) → (a && true) ≡ a
and_yes true = refl
and_yes false = refl

pub and_no : (a : Bool) → (a && false) ≡ false
and_no true = refl
and_no false = refl

pub unmatched_true : (v : ℕ → Bool) (r : Rule) → clause_true v (unmatched r) ≡ not (fits v r)
unmatched_true v r = denied_true v (pattern_of r.matching)

-- no rule matches
pub none_true : (v : ℕ → Bool) (h : Header) (t : List Rule) → Read v h t → formula_true v (map unmatched t) ≡ list_all (λ r. not (matches r.matching h)) t
none_true v h [] read = refl
none_true v h (r ∷ t) read =
    ap (λ (a : Bool). a && formula_true v (map unmatched t)) (unmatched_true v r ∙ ap not read.0)
    ∙ ap (λ (b : Bool). not (matches r.matching h) && b) (none_true v h t read.1)

-- each of these rules, which stand from a place on, is the winner, of a lower effective priority, or does not match
abbrev pub all_lose : Header → ℕ → ℕ → ℕ → List Rule → Bool
all_lose h winner least place [] = true
all_lose h winner least place (r ∷ t) =
    (((place == winner) || nat_lt (rank r) least) || not (matches r.matching h)) && all_lose h winner least (suc place) t

beaten_step : (v : ℕ → Bool) (r : Rule) (rest : List (List Lit)) (b m n : Bool) → fits v r ≡ m → formula_true v rest ≡ n
    → formula_true v (cond b rest (unmatched r ∷ rest)) ≡ ((b || not m) && n)
beaten_step v r rest true m n e f = f
beaten_step v r rest false m n e f = ap (λ (a : Bool). a && formula_true v rest) (unmatched_true v r ∙ ap not e) ∙ ap (λ (b : Bool). not m && b) f

pub beaten_true : (v : ℕ → Bool) (h : Header) (winner least place : ℕ) (t : List Rule) → Read v h t
    → formula_true v (beaten winner least place t) ≡ all_lose h winner least place t
beaten_true v h winner least place [] read = refl
beaten_true v h winner least place (r ∷ t) read =
    beaten_step v r (beaten winner least (suc place) t) ((place == winner) || nat_lt (rank r) least) (matches r.matching h) (all_lose h winner least (suc place) t)
    read.0 (beaten_true v h winner least (suc place) t read.1)

-- the clause says that it isn't so, or there is none and it isn't so
abbrev pub Denies : (ℕ → Bool) → Bool → Option (List Lit) → Type 0
Denies v b None = b ≡ false
Denies v b (Some d) = clause_true v d ≡ not b

both : (b g m : Bool) → ((b || not g) && (b || not m)) ≡ (b || not (g || m))
both true g m = refl
both false true m = refl
both false false m = refl

pub or_apart_true : (v : ℕ → Bool) (base : List Lit) (g m : Bool) (d : Option (List Lit)) (rest : List (List Lit)) → Denies v g d
    → formula_true v rest ≡ (clause_true v base || not m) → formula_true v (or_apart base d rest) ≡ (clause_true v base || not (g || m))
or_apart_true v base g m None rest e f = f ∙ ap (λ (g : Bool). clause_true v base || not (g || m)) (sym e)
or_apart_true v base g m (Some d) rest e f =
    ap (λ (x : Bool). x && formula_true v rest) (list_any-append (lit_true v) base d ∙ ap (λ (x : Bool). clause_true v base || x) e)
    ∙ (ap (λ (x : Bool). (clause_true v base || not g) && x) f ∙ both (clause_true v base) g m)
