-- What the reading of a number gives is what is spelled there.
use Rattle.std.proofs.Common.{◌≡◌, ℕ, ◌+◌, ◌^◌, ◌<◌, ◌≤◌, true, false, cond, refl, sym, ap, subst, ◌∙◌, List, [], ◌∷◌, ◌++◌, length, drop, Option, Some, None, MatchOption, Bor, option_map, arith, decimal}
use Rattle.std.specs.Prelude.{nat_lt, nat_le, not, ◌==◌, ◌&&◌}
use Rattle.std.specs.Char.{digit_value}
use Rattle.std.specs.Int.{IsInRange}
use Rattle.std.specs.Str.Parse.{AllDigits, digits_value}
use Rattle.std.proofs.lemmas.Str.{digit_value_digit}
use Rattle.std.proofs.lemmas.Bool.{and_parts, and_from, leb-true, le-leb, ltb-true, lt-ltb, ne_eqb, false≢true, cond-true, not_from_false}
use Rattle.std.proofs.lemmas.Option.{cond_some}
use Rattle.std.proofs.lemmas.Fmt.{digits_decimal, digits_value-decimal}
use Rattle.mon_text.specs.Numbers.{NoDigit, FitsNumber, IsPlain, NoneAt, FoundAt, is_plain, front_digits, number_in}
use Rattle.mon_text.proofs.Spelling.{own, digits_once, decimal_plain, number_found}

is_digit : (b : ℕ) → (nat_le 48 b && nat_le b 57) ≡ true → IsInRange 48 57 b
is_digit b e = let p = and_parts (nat_le 48 b) (nat_le b 57) e in (leb-true 48 b p.0, leb-true b 57 p.1)

digit_is : (b : ℕ) → IsInRange 48 57 b → (nat_le 48 b && nat_le b 57) ≡ true
digit_is b r = and_from (nat_le 48 b) (nat_le b 57) (le-leb 48 b r.0) (le-leb b 57 r.1)

-- the text is its first digits and what stands behind them
record Fronted (bytes digits : List ℕ) : Type 0 where
  is : bytes ≡ digits ++ drop (length digits) bytes
  digits_are : AllDigits 10 digits
  ends : NoDigit (drop (length digits) bytes)

fronted : (bytes : List ℕ) → Fronted bytes (front_digits bytes)
fronted [] = record { is = refl; digits_are = tt; ends = tt }
fronted (b ∷ bs) =
    elim (nat_le 48 b && nat_le b 57) as (λ t. (nat_le 48 b && nat_le b 57) ≡ t → Fronted (b ∷ bs) (cond t (b ∷ front_digits bs) [])) [
      | true ↦ λ e.
          let more = fronted bs in
          let d : digit_value b + 48 ≡ b = digit_value_digit b (is_digit b e) in
          let high : b ≤ 57 = (is_digit b e).1 in
          record { is = ap (λ xs. b ∷ xs) more.is; digits_are = (omega arith, more.digits_are); ends = more.ends }
      | false ↦ λ e. record { is = refl; digits_are = tt; ends = λ r. false≢true (sym e ∙ digit_is b r) }
    ] refl

plain_is : (ds : List ℕ) → is_plain ds ≡ true → IsPlain ds
plain_is [] e = absurd (false≢true e)
plain_is (d ∷ []) e = λ _. refl
plain_is (d ∷ f ∷ ds) e = λ z. absurd (false≢true (let g : not (d == 48) ≡ false = rw z refl in sym g ∙ e))

is_plain_from : (ds : List ℕ) → IsPlain ds → is_plain ds ≡ true
is_plain_from [] p = absurd p
is_plain_from (d ∷ []) p = refl
is_plain_from (d ∷ f ∷ ds) p = not_from_false (d == 48) (ne_eqb d 48 (λ e. let h : ◌≡◌ {A = List ℕ} (f ∷ ds) [] = p e in cc))

some_pair : (m n : ℕ) (r s : List ℕ) → m ≡ n → r ≡ s → ◌≡◌ {A = Option (ℕ × List ℕ)} (Some (m, r)) (Some (n, s))
some_pair m n r s e f = cc

pub number_in-found : (bytes : List ℕ) (n : ℕ) (rest : List ℕ) → number_in bytes ≡ Some (n, rest) → FoundAt decimal FitsNumber bytes n rest
unfolding number_in
number_in-found bytes n rest e =
    let digits = front_digits bytes in
    let front = fronted bytes in
    let p = cond_some (is_plain digits && nat_lt (digits_value 10 digits) (2 ^ 64)) (digits_value 10 digits, drop (length digits) bytes) (n, rest) e in
    let t = and_parts (is_plain digits) (nat_lt (digits_value 10 digits) (2 ^ 64)) p.0 in
    let value : digits_value 10 digits ≡ n = ap (λ (x : ℕ × List ℕ). x.0) p.1 in
    let behind : drop (length digits) bytes ≡ rest = ap (λ (x : ℕ × List ℕ). x.1) p.1 in
    let small : digits_value 10 digits < 2 ^ 64 = ltb-true (digits_value 10 digits) (2 ^ 64) t.1 in
    subst (λ r. FoundAt decimal FitsNumber bytes n r) behind
    (number_found bytes digits (drop (length digits) bytes) n front.is front.digits_are front.ends (plain_is digits t.0) (sym value) (subst (λ k. k < 2 ^ 64) value small))

pub number_in-again : (bytes : List ℕ) (n : ℕ) (rest : List ℕ) → FoundAt decimal FitsNumber bytes n rest → number_in bytes ≡ Some (n, rest)
unfolding number_in
number_in-again bytes n rest f =
    let digits = front_digits bytes in
    let front = fronted bytes in
    let once = digits_once digits (decimal n) (drop (length digits) bytes) rest front.digits_are (digits_decimal own n f.0) front.ends f.1.ends (sym front.is ∙ f.1.is) in
    let value : digits_value 10 digits ≡ n = ap (digits_value 10) once.0 ∙ digits_value-decimal own n f.0 in
    let plain : is_plain digits ≡ true = ap is_plain once.0 ∙ is_plain_from (decimal n) (decimal_plain n f.0) in
    let small : nat_lt (digits_value 10 digits) (2 ^ 64) ≡ true = ap (λ k. nat_lt k (2 ^ 64)) value ∙ lt-ltb n (2 ^ 64) f.0 in
    cond-true (is_plain digits && nat_lt (digits_value 10 digits) (2 ^ 64)) (Some (digits_value 10 digits, drop (length digits) bytes)) None (and_from _ _ plain small)
    ∙ some_pair (digits_value 10 digits) n (drop (length digits) bytes) rest value once.1

none_is : {A : Type 0} (o : Option A) → ((a : A) → o ≡ Some a → ⊥) → None ≡ o
none_is None f = refl
none_is (Some a) f = absurd (f a refl)

-- what tells a number that is spelled there, or that none is, gives what the reading gives
pub value_is : (bytes : List ℕ) (r : Option (ℕ × Bor (List ℕ))) → MatchOption r (NoneAt decimal FitsNumber bytes) (λ x. FoundAt decimal FitsNumber bytes x.0 x.1.now)
    → option_map (λ x. (x.0, x.1.now)) r ≡ number_in bytes
value_is bytes None none = none_is (number_in bytes) (λ x e. none x.0 x.1 (number_in-found bytes x.0 x.1 e))
value_is bytes (Some x) found = sym (number_in-again bytes x.0 x.1.now found)
