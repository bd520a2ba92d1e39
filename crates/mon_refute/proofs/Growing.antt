-- A log that grows by a line: numbers still name what they named, and what follows still follows.
use Rattle.std.proofs.Common.{◌≡◌, ℕ, ◌+◌, ◌-◌, Bool, true, false, cond, refl, sym, ap, ◌∙◌, List, [], ◌∷◌, ◌++◌, length, Option, Some, None, arith, zero, suc, append_assoc, length-append}
use Rattle.std.specs.Prelude.{◌==◌}
use Rattle.std.specs.List.{slice_get}
use Rattle.std.proofs.lemmas.List.{map-append, append-nil}
use Rattle.std.proofs.lemmas.Bool.{and_parts, and_from, ne_eqb, cond-false}
use Rattle.mon_cnf.specs.declared.clause.Lit.{Lit}
use Rattle.mon_refute.specs.declared.lines.LogLine.{LogLine}
use Rattle.mon_refute.specs.Follow.{named, follows, all_follow, literals_of}

-- what is said at one place of a list of clauses is said in a longer one
get_left : (xs ys : List (List Lit)) (k : ℕ) (c : List Lit) → slice_get xs k ≡ Some c → slice_get (xs ++ ys) k ≡ Some c
get_left [] ys k c e = cc
get_left (x ∷ xs) ys zero c e = e
get_left (x ∷ xs) ys (suc k) c e = get_left xs ys k c e

named_if : (b : Bool) (o p : Option (List Lit)) (c : List Lit) → (o ≡ Some c → p ≡ Some c) → cond b None o ≡ Some c → cond b None p ≡ Some c
named_if true o p c f e = e
named_if false o p c f e = f e

pub named_grown : (xs ys : List (List Lit)) (h : ℕ) (c : List Lit) → named xs h ≡ Some c → named (xs ++ ys) h ≡ Some c
named_grown xs ys h c e = named_if (h == 0) (slice_get xs (h - 1)) (slice_get (xs ++ ys) (h - 1)) c (get_left xs ys (h - 1) c) e

-- the clauses with one line more
pub one_more : (cs : List (List Lit)) (old new : List LogLine) (l : LogLine) → new ≡ old ++ (l ∷ []) → (cs ++ literals_of old) ++ (l.literals ∷ []) ≡ cs ++ literals_of new
one_more cs old new l e = append_assoc cs (literals_of old) (l.literals ∷ []) ∙ ap (λ ds. cs ++ ds) (sym (ap literals_of e ∙ map-append (λ (l : LogLine). l.literals) old (l ∷ [])))

pub follow_push : (n : ℕ) (cs : List (List Lit)) (log : List LogLine) (l : LogLine) → all_follow n cs log ≡ true → follows n (cs ++ literals_of log) l ≡ true → all_follow n cs (log ++ (l ∷ [])) ≡ true
follow_push n cs [] l a f = and_from _ _ (ap (λ ds. follows n ds l) (sym (append-nil cs)) ∙ f) refl
follow_push n cs (m ∷ ms) l a f =
    let p = and_parts (follows n cs m) _ a in
    and_from _ _ p.0 (follow_push n (cs ++ (m.literals ∷ [])) ms l p.1 (ap (λ ds. follows n ds l) (append_assoc cs (m.literals ∷ []) (literals_of ms)) ∙ f))

pub length_lines : (log : List LogLine) → length (literals_of log) ≡ length log
length_lines [] = refl
length_lines (l ∷ ls) = ap suc (length_lines ls)

named_last : (xs : List (List Lit)) (c : List Lit) → slice_get (xs ++ (c ∷ [])) (length xs) ≡ Some c
named_last [] c = refl
named_last (x ∷ xs) c = named_last xs c

-- the number of the line that was added
pub number_last : (cs : List (List Lit)) (old new : List LogLine) (l : LogLine) (h : ℕ) → new ≡ old ++ (l ∷ []) → h ≡ length cs + length new → named (cs ++ literals_of new) h ≡ Some l.literals
number_last cs old new l h g e =
    let xs = cs ++ literals_of old in
    let s : xs ++ (l.literals ∷ []) ≡ cs ++ literals_of new = one_more cs old new l g in
    let n : length new ≡ length old + 1 = ap length g ∙ length-append old (l ∷ []) in
    let k : h - 1 ≡ length xs = omega (arith, length-append cs (literals_of old), length_lines old) in
    cond-false (h == 0) None _ (ne_eqb h 0 (λ z. omega arith)) ∙ ap (λ ds. slice_get ds (h - 1)) (sym s) ∙ ap (slice_get (xs ++ (l.literals ∷ []))) k ∙ named_last xs l.literals
