-- A number is read of its own bytes alone, whatever stands behind them.
use Rattle.std.proofs.Common.{◌≡◌, ℕ, ◌+◌, ◌-◌, ◌≤◌, List, ◌++◌, length, take, drop, refl, sym, ap, ◌∙◌, arith}
use Rattle.std.proofs.lemmas.List.{drop-take, take_at}
use Rattle.byteorder.specs.Endian.{big_number}
use Rattle.byteorder.specs.Numbers.{big_from-take}
use Rattle.mon_fields.specs.Fields.{number_at}

-- a number reads no byte past its end
pub number_at-take : (k place n : ℕ) (bytes : List ℕ) → place + k ≤ n → number_at k place (take n bytes) ≡ number_at k place bytes
number_at-take k place n bytes le =
    let parts : n ≡ place + (n - place) = omega arith in
    ap (λ (m : ℕ). big_number k (drop place (take m bytes))) parts
    ∙ ap (big_number k) (drop-take place (n - place) bytes)
    ∙ big_from-take 0 k (n - place) (drop place bytes) (omega arith)

-- a number in the front of some bytes
pub number_at-front : (k place : ℕ) (bytes rest : List ℕ) → place + k ≤ length bytes → number_at k place (bytes ++ rest) ≡ number_at k place bytes
number_at-front k place bytes rest le =
    sym (number_at-take k place (length bytes) (bytes ++ rest) le) ∙ ap (number_at k place) (take_at bytes rest (length bytes) refl)
