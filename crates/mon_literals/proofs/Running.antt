-- The literals of a run, one after the other.
use Rattle.std.proofs.Common.{◌≡◌, ℕ, suc, ◌+◌, ◌-◌, ◌<◌, Bool, true, false, if◌then◌else◌, List, [], ◌∷◌, ◌++◌, refl, sym, ap, ◌∙◌, append_assoc, arith}
use mathlib.Core.Bool.{beq}
use Rattle.mon_cnf.specs.declared.clause.Lit.{Lit}
use Rattle.mon_header.specs.Wild.{bit}
use Rattle.mon_header.specs.Places.{bits_of}
use Rattle.mon_literals.specs.Clauses.{denied}
use Rattle.mon_literals.specs.Runs.{valued}

-- literals, or the opposite of each
abbrev pub signed : Bool → List Lit → List Lit
signed positive ls = if positive then ls else denied ls

abbrev literal : ℕ → Bool → Lit
literal var positive = record { var = var; positive = positive }

signed_first : (positive : Bool) (var : ℕ) (b : Bool) (ls : List Lit) → signed positive (literal var b ∷ ls) ≡ literal var (beq b positive) ∷ signed positive ls
signed_first true var true ls = refl
signed_first true var false ls = refl
signed_first false var true ls = refl
signed_first false var false ls = refl

-- the bits that are left are the next one and those behind it
next_bits : (start count number i : ℕ) → i < count
    → valued (start + i) (bits_of (count - i) number) ≡ literal (start + i) (bit number (count - 1 - i)) ∷ valued (start + (i + 1)) (bits_of (count - (i + 1)) number)
next_bits start count number i h =
    let left : ℕ = count - (i + 1) in
    let more : count - i ≡ suc left = omega arith in
    let place : left ≡ count - 1 - i = omega arith in
    let next : suc (start + i) ≡ start + (i + 1) = omega arith in
    ap (λ (n : ℕ). valued (start + i) (bits_of n number)) more
    ∙ ap (λ (p : ℕ). literal (start + i) (bit number p) ∷ valued (suc (start + i)) (bits_of left number)) place
    ∙ ap (λ (s : ℕ). literal (start + i) (bit number (count - 1 - i)) ∷ valued s (bits_of left number)) next

-- a step over the bits
pub run_step : (positive : Bool) (front whole new : List Lit) (start count number i var : ℕ) (b : Bool) → i < count
    → new ≡ front ++ literal var (beq b positive) ∷ [] → var ≡ start + i → b ≡ bit number (count - 1 - i)
    → front ++ signed positive (valued (start + i) (bits_of (count - i) number)) ≡ whole
    → new ++ signed positive (valued (start + (i + 1)) (bits_of (count - (i + 1)) number)) ≡ whole
run_step positive front whole new start count number i var b h pushed place value e =
    let rest : List Lit = valued (start + (i + 1)) (bits_of (count - (i + 1)) number) in
    ap (λ (ls : List Lit). ls ++ signed positive rest) pushed
    ∙ append_assoc front (literal var (beq b positive) ∷ []) (signed positive rest)
    ∙ ap (λ (v : ℕ). front ++ (literal v (beq b positive) ∷ signed positive rest)) place
    ∙ ap (λ (c : Bool). front ++ (literal (start + i) (beq c positive) ∷ signed positive rest)) value
    ∙ ap (λ (ls : List Lit). front ++ ls) (sym (signed_first positive (start + i) (bit number (count - 1 - i)) rest))
    ∙ ap (λ (ls : List Lit). front ++ signed positive ls) (sym (next_bits start count number i h))
    ∙ e
