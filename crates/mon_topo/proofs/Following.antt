-- What may follow in an ascending list.
use Rattle.std.proofs.Common.{◌≡◌, ℕ, suc, ◌≤◌, ◌-◌, List, [], ◌∷◌, ◌++◌, length, slice_get, Some, true, nat_le, subst, arith}
use Rattle.std.proofs.lemmas.Bool.{leb-true, and_parts}
use Rattle.mon_topo.specs.Ascending.{Ascends, next, may_follow}

pub ascends-push : (low high x : ℕ) (xs : List ℕ) → Ascends low high xs → next low xs ≤ x → x ≤ high → Ascends low high (xs ++ x ∷ [])
ascends-push low high x [] all least most = (least, most, tt)
ascends-push low high x (y ∷ ys) all least most = (all.0, all.1, ascends-push (suc y) high x ys all.2 least most)

-- after some numbers, the next is above the last
pub next-last : (low last : ℕ) (xs : List ℕ) → Some last ≡ slice_get xs (length xs - 1) → next low xs ≡ suc last
next-last low last [] is = cc
next-last low last (x ∷ []) is = cc
next-last low last (x ∷ y ∷ ys) is =
    let before : length (x ∷ y ∷ ys) - 1 ≡ suc (length ys) = omega arith in
    let within : length (y ∷ ys) - 1 ≡ length ys = omega arith in
    let there : Some last ≡ slice_get (x ∷ y ∷ ys) (suc (length ys)) = rw before at is in
    next-last (suc x) last (y ∷ ys) (rw within there)

-- the same of a slice with the numbers of the list
pub next-of : (low last : ℕ) (slice xs : List ℕ) → slice ≡ xs → Some last ≡ slice_get slice (length slice - 1) → next low xs ≡ suc last
next-of low last slice xs same is =
    next-last low last xs (subst (λ (ys : List ℕ). Some last ≡ slice_get ys (length ys - 1)) same is)

-- a list goes on ascending where the number may follow
pub may_follow-ascends : (low high x : ℕ) (xs : List ℕ) → Ascends low high xs → may_follow low high xs x ≡ true → Ascends low high (xs ++ x ∷ [])
may_follow-ascends low high x xs all test =
    let parts = and_parts (nat_le (next low xs) x) (nat_le x high) test in
    ascends-push low high x xs all (leb-true _ _ parts.0) (leb-true _ _ parts.1)
