-- Lists copied from the front.
use Rattle.std.proofs.Common.{◌≡◌, ℕ, zero, suc, ◌<◌, List, [], ◌∷◌, length, get_or, take, true, ap, ◌∙◌, arith}
use Rattle.std.proofs.lemmas.Bool.{le-leb, and_from}
use Rattle.mon_topo.specs.Ascending.{Ascends, may_follow}

-- what stands next in an ascending list may follow what stands before it
pub next-follows : (low high : ℕ) (xs : List ℕ) (i d : ℕ) → Ascends low high xs → i < length xs → may_follow low high (take i xs) (get_or xs i d) ≡ true
next-follows low high [] i d all lt = absurd (omega (arith, lt))
next-follows low high (x ∷ xs) zero d all lt = and_from _ _ (le-leb low x all.0) (le-leb x high all.1)
next-follows low high (x ∷ xs) (suc i) d all lt = next-follows (suc x) high xs i d all.2 (omega (arith, lt))

pub copy-follows : (copy xs : List ℕ) (i d : ℕ) → Ascends 1 4094 xs → copy ≡ take i xs → i < length xs → may_follow 1 4094 copy (get_or xs i d) ≡ true
copy-follows copy xs i d all e lt = ap (λ ys. may_follow 1 4094 ys (get_or xs i d)) e ∙ next-follows 1 4094 xs i d all lt
