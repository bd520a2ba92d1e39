-- The literals that numbers are, are of so many variables.
use Rattle.std.proofs.Common.{◌≡◌, ℕ, zero, suc, Bool, true, false, List, [], ◌∷◌, ◌++◌, inl, inr}
use Rattle.std.specs.Prelude.{ℤ, pos, negsuc, nat_lt}
use Rattle.std.proofs.lemmas.Bool.{cases_Bool, ltb-true}
use Rattle.mon_cnf.specs.declared.clause.Lit.{Lit}
use Rattle.mon_cnf.specs.Truth.{Within}
use Rattle.mon_cnf.specs.Written.{literals_of, written}

within-more : (vars : ℕ) (c d : List Lit) → Within vars c → Within vars d → Within vars (c ++ d)
within-more vars [] d p q = q
within-more vars (l ∷ c) d p q = (p.0, within-more vars c d p.1 q)

one-within : (vars : ℕ) (n : ℤ) → Within vars (literals_of vars n)
one-within vars (pos zero) = search
one-within vars (pos (suc n)) =
    elim (cases_Bool (nat_lt n vars)) [ inl small ↦ rw small (ltb-true _ _ small, search) | inr out ↦ rw out search ]
one-within vars (negsuc n) =
    elim (cases_Bool (nat_lt n vars)) [ inl small ↦ rw small (ltb-true _ _ small, search) | inr out ↦ rw out search ]

pub written-within : (vars : ℕ) (ns : List ℤ) → Within vars (written vars ns)
written-within vars [] = search
written-within vars (n ∷ ns) = within-more vars (literals_of vars n) (written vars ns) (one-within vars n) (written-within vars ns)
