-- Sums of words.
use Rattle.std.proofs.Common.{◌≡◌, ℕ, ◌+◌, ◌*◌, ◌-◌, ◌%◌, ◌≤◌, List, [], ◌∷◌, ◌++◌, length, take, drop, take_all, get_or, refl, sym, ap, ◌∙◌, arith}
use Rattle.mon_packet.specs.Sums.{plus, sum_from, checksum}

-- bytes that are a whole number of words can be added first
pub sum-append : (s : ℕ) (xs ys : List ℕ) → length xs % 2 ≡ 0 → sum_from s (xs ++ ys) ≡ sum_from (sum_from s xs) ys
sum-append s [] ys even = refl
sum-append s (x ∷ []) ys even = absurd (omega arith)
sum-append s (x ∷ y ∷ rest) ys even = sum-append (plus s (256 * x + y)) rest ys (omega arith)

pub checksum-append : (xs ys zs : List ℕ) → length xs % 2 ≡ 0 → length ys % 2 ≡ 0
    → 65535 - sum_from (sum_from (sum_from 0 xs) ys) zs ≡ checksum (xs ++ (ys ++ zs))
checksum-append xs ys zs p q =
    ap (λ (s : ℕ). 65535 - s) (sym (sum-append 0 xs (ys ++ zs) p ∙ sum-append (sum_from 0 xs) ys zs q))

-- a step over two bytes
pub sum-step : (s : ℕ) (bytes : List ℕ) (high low next result : ℕ) → 2 ≤ length bytes
    → result ≡ sum_from next (take (length bytes - 2) (drop 2 bytes)) → next ≡ plus s (256 * high + low)
    → high ≡ get_or bytes 0 0 → low ≡ get_or bytes 1 0 → result ≡ sum_from s bytes
sum-step s [] high low next result long e f g k = absurd (omega arith)
sum-step s (x ∷ []) high low next result long e f g k = absurd (omega arith)
sum-step s (x ∷ y ∷ rest) high low next result long e f g k =
    let m : length (x ∷ y ∷ rest) - 2 ≡ length rest = omega arith in
    e
    ∙ ap (λ (i : ℕ). sum_from next (take i rest)) m
    ∙ ap (sum_from next) (take_all (length rest) rest (omega arith))
    ∙ ap (λ (i : ℕ). sum_from i rest) (f ∙ ap (λ (i : ℕ). plus s (256 * i + low)) g ∙ ap (λ (i : ℕ). plus s (256 * x + i)) k)
