-- The clauses that numbers name, and that their variables are the formula's.
use Rattle.std.proofs.Common.{◌≡◌, ℕ, ◌<◌, Bool, true, false, not, cond, refl, sym, ◌∙◌, subst, List, [], ◌∷◌, ◌++◌, length, get_or, set, Option, Some, None, arith, zero, suc}
use Rattle.std.specs.Prelude.{nat_lt}
use Rattle.std.proofs.lemmas.List.{length-set}
use Rattle.std.proofs.lemmas.Bool.{false≢true, and_parts, ltb-true}
use Rattle.mon_cnf.specs.declared.clause.Lit.{Lit}
use Rattle.mon_cnf.specs.Truth.{Within, WithinAll}
use Rattle.mon_refute.specs.declared.lines.LogLine.{LogLine}
use Rattle.mon_refute.specs.Follow.{opposite, named, by_start, falsify, follows, all_follow, literals_of}
use Rattle.mon_trail.specs.declared.look.Mark.{Mark}
use Rattle.mon_trail.specs.declared.look.Mark.TheVariants.{Is}
use Rattle.mon_trail.specs.Marks.{is_off, all_off}
use Rattle.mon_trail.specs.Trail.{HasReason, IsClosed}
use Rattle.mon_trail.proofs.Falsified.{off_within}
use Rattle.mon_trail.proofs.Mentions.{some_is}

within_or : (cs : List (List Lit)) (hs : List ℕ) (P : Type 0) (b : Bool) (o : Option (List Lit)) → (b ≡ true → by_start cs hs o ≡ true → P) → by_start cs hs (cond b o None) ≡ true → P
within_or cs hs P true o f e = f refl e
within_or cs hs P false o f e = absurd (false≢true e)

start_within : (cs : List (List Lit)) (hs : List ℕ) (n : ℕ) (known ls : List Lit) → by_start cs hs (falsify n known ls) ≡ true → Within n ls
start_within cs hs n known [] e = tt
start_within cs hs n known (l ∷ ls) e =
    within_or cs hs (Within n (l ∷ ls)) _ _ (λ b x. (ltb-true l.var n (and_parts (nat_lt l.var n) _ b).0, start_within cs hs n (opposite l ∷ known) ls x)) e

-- the lines that follow are of the formula's variables
pub lines_within : (n : ℕ) (cs : List (List Lit)) (log : List LogLine) → all_follow n cs log ≡ true → WithinAll n (literals_of log)
lines_within n cs [] a = tt
lines_within n cs (l ∷ ls) a = let p = and_parts (follows n cs l) _ a in (start_within cs l.hints n [] l.literals p.0, lines_within n (cs ++ (l.literals ∷ [])) ls p.1)

pub within_place : (n : ℕ) (cs : List (List Lit)) (i : ℕ) (d c : List Lit) → WithinAll n cs → i < length cs → c ≡ get_or cs i d → Within n c
within_place n [] i d c w h e = absurd (omega arith)
within_place n (x ∷ xs) zero d c w h e = subst (Within n) (sym e) w.0
within_place n (x ∷ xs) (suc i) d c w h e = within_place n xs i d c w.1 (omega arith) e

off_all_within : (marks : List Mark) (c : List Lit) → all_off marks c ≡ true → Within (length marks) c
off_all_within marks [] a = tt
off_all_within marks (l ∷ ls) a = let p = and_parts (is_off marks l) _ a in (off_within marks l p.0, off_all_within marks ls p.1)

-- a conflict, and a reason, are of the variables of the marks
pub closed_within : (cs : List (List Lit)) (marks : List Mark) (h n : ℕ) (c : List Lit) → IsClosed cs marks h → named cs h ≡ Some c → length marks ≡ n → Within n c
closed_within cs marks h n c k e w = subst (λ m. Within m c) w (off_all_within marks c (subst (λ d. all_off marks d ≡ true) (some_is k.clause c (sym k.there ∙ e)) k.off))

pub reason_within : (cs : List (List Lit)) (marks : List Mark) (l : Lit) (h n : ℕ) (c : List Lit) → HasReason cs marks l h → named cs h ≡ Some c → length marks ≡ n → Within n c
reason_within cs marks l h n c k e w =
    subst (λ m. Within m c) (length-set marks l.var (Is (not l.positive)) ∙ w)
    (off_all_within (set marks l.var (Is (not l.positive))) c (subst (λ d. all_off (set marks l.var (Is (not l.positive))) d ≡ true) (some_is k.clause c (sym k.there ∙ e)) k.forces.0))
