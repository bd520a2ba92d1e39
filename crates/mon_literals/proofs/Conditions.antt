-- What conditions on a header say of its fields.
use Rattle.std.proofs.Common.{◌≡◌, ℕ, zero, suc, ◌+◌, ◌*◌, ◌/◌, ◌%◌, ◌^◌, ◌<◌, ◌≤◌, Bool, true, false, not, refl, sym, ap, ◌∙◌, List, [], ◌∷◌, ⊎_elim, arith}
use Rattle.std.proofs.Math.Nat.{div-one}
use Rattle.std.specs.Prelude.{◌==◌, nat_lt, nat_le, ◌&&◌, flat_map}
use Rattle.std.specs.List.{list_all}
use Rattle.std.proofs.lemmas.List.Folds.{list_all-append}
use Rattle.std.proofs.lemmas.Bool.{eq-eqb, ne_eqb, cases_eq, cases_lt, lt-ltb, le-ltb, le-leb, lt-leb, and_from, and_left, and_right, not_from_false}
use Rattle.mon_cnf.specs.Truth.{lit_true, formula_true}
use Rattle.mon_shows.specs.Views.{is_unicast, is_open}
use Rattle.mon_literals.specs.declared.condition.Condition.{Condition}
use Rattle.mon_literals.specs.declared.condition.Condition.TheVariants.{Is, IsNot}
use Rattle.mon_literals.specs.Runs.{run, spelled}
use Rattle.mon_literals.specs.Conditions.{asked}
use Rattle.mon_literals.proofs.Truths.{denied_true, alone_true}
use Rattle.mon_literals.proofs.Comparing.{HasField, part_true, top_true, field_true}

-- the condition is met
abbrev pub met : (ℕ → Bool) → Condition → Bool
met v (Is r) = list_all (lit_true v) (spelled r)
met v (IsNot r) = not (list_all (lit_true v) (spelled r))

pub and_true : (a : Bool) → (a && true) ≡ a
and_true true = refl
and_true false = refl

asked_true : (v : ℕ → Bool) (c : Condition) → formula_true v (asked c) ≡ met v c
asked_true v (Is r) = alone_true v (spelled r)
asked_true v (IsNot r) = ap (λ (b : Bool). b && true) (denied_true v (spelled r)) ∙ and_true (met v (IsNot r))

-- the clauses of conditions are true where all of them are met
pub all_asked_true : (v : ℕ → Bool) (cs : List Condition) → formula_true v (flat_map asked cs) ≡ list_all (met v) cs
all_asked_true v [] = refl
all_asked_true v (c ∷ cs) =
    list_all-append _ (asked c) (flat_map asked cs)
    ∙ ap (λ (b : Bool). b && formula_true v (flat_map asked cs)) (asked_true v c)
    ∙ ap (λ (b : Bool). met v c && b) (all_asked_true v cs)

pub eqb_turned : (a b : ℕ) → (a == b) ≡ (b == a)
eqb_turned a b =
    ⊎_elim
    (λ (e : a ≡ b). eq-eqb a b e ∙ sym (eq-eqb b a (sym e)))
    (λ (e : a ≡ b → ⊥). ne_eqb a b e ∙ sym (ne_eqb b a (λ f. e (sym f))))
    (cases_eq a b)

-- a field is a number
pub is_number : (v : ℕ → Bool) (start count a x : ℕ) → HasField v start count x → a < 2 ^ count → met v (Is (run start count a)) ≡ (x == a)
is_number v start count a x f h = field_true v start count x a f h ∙ eqb_turned a x

pub is_other : (v : ℕ → Bool) (start count a x : ℕ) → HasField v start count x → a < 2 ^ count → met v (IsNot (run start count a)) ≡ not (x == a)
is_other v start count a x f h = ap not (is_number v start count a x f h)

-- a VLAN priority below 8
eight : (x : ℕ) → (0 == x / 8) ≡ nat_lt x 8
eight x =
    ⊎_elim
    (λ (p : x < 8). eq-eqb 0 (x / 8) (omega arith) ∙ sym (lt-ltb x 8 p))
    (λ (p : 8 ≤ x). ne_eqb 0 (x / 8) (λ e. omega arith) ∙ sym (le-ltb x 8 p))
    (cases_lt x 8)

pub is_below_8 : (v : ℕ → Bool) (start x : ℕ) → HasField v start 8 x → met v (Is (run start 5 0)) ≡ nat_lt x 8
is_below_8 v start x f = top_true v start 8 x 5 0 f (omega arith) (omega arith) ∙ eight x

-- an ICMP type or code below 256
byte : (x : ℕ) → (0 == x / 256) ≡ nat_lt x 256
byte x =
    ⊎_elim
    (λ (p : x < 256). eq-eqb 0 (x / 256) (omega arith) ∙ sym (lt-ltb x 256 p))
    (λ (p : 256 ≤ x). ne_eqb 0 (x / 256) (λ e. omega arith) ∙ sym (le-ltb x 256 p))
    (cases_lt x 256)

pub is_below_256 : (v : ℕ → Bool) (start x : ℕ) → HasField v start 16 x → met v (Is (run start 8 0)) ≡ nat_lt x 256
is_below_256 v start x f = top_true v start 16 x 8 0 f (omega arith) (omega arith) ∙ byte x

-- no bit below 4
fourth : (x : ℕ) → (0 == x / 1 % 4) ≡ (x % 4 == 0)
fourth x = ap (λ (n : ℕ). 0 == n % 4) (div-one x) ∙ eqb_turned 0 (x % 4)

pub is_multiple_of_4 : (v : ℕ → Bool) (start x : ℕ) → HasField v start 8 x → met v (Is (run (start + 6) 2 0)) ≡ (x % 4 == 0)
is_multiple_of_4 v start x f = part_true v start 8 x 6 2 0 f (omega arith) (omega arith) ∙ fourth x

-- no group bit
clear : (n : ℕ) → n < 2 → (0 == n) ≡ not (n == 1)
clear zero h = refl
clear (suc zero) h = refl
clear (suc (suc n)) h = absurd (omega arith)

pub is_one_station : (v : ℕ → Bool) (start x : ℕ) → HasField v start 48 x → met v (Is (run (start + 7) 1 0)) ≡ is_unicast x
is_one_station v start x f = part_true v start 48 x 7 1 0 f (omega arith) (omega arith) ∙ clear (x / 2 ^ 40 % 2) (omega arith)

above : (a x : ℕ) → a * 16 ≤ x → (a ≡ x / 16 → ⊥) → a * 16 + 15 < x
above a x p e = ⊎_elim (λ (q : a * 16 + 15 < x). q) (λ (q : x ≤ a * 16 + 15). absurd (e (omega arith))) (cases_lt (a * 16 + 15) x)

-- a block of 16 numbers
block : (a x : ℕ) → (a == x / 16) ≡ (nat_le (a * 16) x && nat_le x (a * 16 + 15))
block a x =
    ⊎_elim
    (λ (e : a ≡ x / 16). eq-eqb a (x / 16) e ∙ sym (and_from _ _ (le-leb (a * 16) x (omega arith)) (le-leb x (a * 16 + 15) (omega arith))))
    (λ (e : a ≡ x / 16 → ⊥).
    ne_eqb a (x / 16) e ∙ sym (⊎_elim
    (λ (p : x < a * 16). and_left _ _ (lt-leb (a * 16) x p))
    (λ (p : a * 16 ≤ x). and_right _ _ (lt-leb x (a * 16 + 15) (above a x p e)))
    (cases_lt x (a * 16))))
    (cases_eq a (x / 16))

grouped : (a b c d rest : Bool) → a ≡ c → b ≡ d → (a && (b && rest)) ≡ ((c && d) && rest)
grouped true b c d rest e f = ap (λ (x : Bool). x && rest) f ∙ ap (λ (x : Bool). (x && d) && rest) e
grouped false b c d rest e f = ap (λ (x : Bool). (x && d) && rest) e

-- an address that a frame may go to
pub is_open_to_frames : (v : ℕ → Bool) (start x : ℕ) (rest : Bool) → HasField v start 48 x
    → (met v (IsNot (run start 48 0x024d4f4e4f00)) && (met v (IsNot (run start 44 0x0180c200000)) && rest)) ≡ (is_open x && rest)
unfolding is_open
is_open_to_frames v start x rest f =
    grouped _ _ _ _ rest
    (is_other v start 48 0x024d4f4e4f00 x f (omega arith))
    (ap not (top_true v start 48 x 44 0x0180c200000 f (omega arith) (omega arith) ∙ block 0x0180c200000 x))

-- a type of at least 0x0600, and no length
from_block : (q x : ℕ) → q * 512 ≤ x → x < q * 512 + 512 → (not (0 == q) && (not (1 == q) && not (2 == q))) ≡ nat_le 0x0600 x
from_block zero x p h = sym (lt-leb 0x0600 x (omega arith))
from_block (suc zero) x p h = sym (lt-leb 0x0600 x (omega arith))
from_block (suc (suc zero)) x p h = sym (lt-leb 0x0600 x (omega arith))
from_block (suc (suc (suc q))) x p h =
    let other : (n : ℕ) → n < 3 → not (n == suc (suc (suc q))) ≡ true = λ n k. not_from_false _ (ne_eqb n (suc (suc (suc q))) (λ e. omega arith)) in
    and_from _ _ (other 0 (omega arith)) (and_from _ _ (other 1 (omega arith)) (other 2 (omega arith))) ∙ sym (le-leb 0x0600 x (omega arith))

three : (a b c d e f g rest : Bool) → a ≡ d → b ≡ e → c ≡ f → (d && (e && f)) ≡ g → (a && (b && (c && rest))) ≡ (g && rest)
three true true c d e f g rest p q r s = ap (λ (x : Bool). x && rest) (r ∙ ap (λ (x : Bool). x && f) q ∙ ap (λ (x : Bool). x && (e && f)) p ∙ s)
three true false c d e f g rest p q r s = ap (λ (x : Bool). x && rest) (ap (λ (x : Bool). x && f) q ∙ ap (λ (x : Bool). x && (e && f)) p ∙ s)
three false b c d e f g rest p q r s = ap (λ (x : Bool). x && rest) (ap (λ (x : Bool). x && (e && f)) p ∙ s)

not_top : (v : ℕ → Bool) (start x a : ℕ) → HasField v start 16 x → a < 2 ^ 7 → met v (IsNot (run start 7 a)) ≡ not (a == x / 512)
not_top v start x a f h = ap not (top_true v start 16 x 7 a f (omega arith) h)

pub is_at_least_0600 : (v : ℕ → Bool) (start x : ℕ) (rest : Bool) → HasField v start 16 x
    → (met v (IsNot (run start 7 0)) && (met v (IsNot (run start 7 1)) && (met v (IsNot (run start 7 2)) && rest))) ≡ (nat_le 0x0600 x && rest)
is_at_least_0600 v start x rest f =
    three _ _ _ _ _ _ _ rest (not_top v start x 0 f (omega arith)) (not_top v start x 1 f (omega arith)) (not_top v start x 2 f (omega arith))
    (from_block (x / 512) x (omega arith) (omega arith))
