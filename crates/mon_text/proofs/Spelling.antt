-- A number is spelled in one way, and its spelling ends where the digits do.
use Rattle.std.proofs.Common.{◌≡◌, ℕ, ◌+◌, ◌-◌, ◌*◌, ◌^◌, ◌<◌, ◌≤◌, refl, sym, ap, ◌∙◌, subst, List, [], ◌∷◌, ◌++◌, length, get_or, take, drop, arith, zero, suc, decimal}
use Rattle.std.specs.Char.{digit_value}
use Rattle.std.specs.Int.{IsInRange}
use Rattle.std.specs.Str.Parse.{AllDigits, digits_value}
use Rattle.std.proofs.lemmas.Str.Parse.{IsNumeralModel, numerals_by_value, tells_digits, digit_from_value, digits_value-take-le, digit_at}
use Rattle.std.proofs.lemmas.Str.{digit_value_digit}
use Rattle.std.proofs.lemmas.Int.Digits.{digits_value_more, digits_more}
use Rattle.std.proofs.lemmas.Fmt.{digits_decimal, digits_value-decimal, decimal-digits_value, decimal_nonempty, first_decimal, decimal_digit}
use Rattle.std.proofs.lemmas.List.{take_all, take-append-drop}
use Rattle.mon_text.specs.Numbers.{NoDigit, FitsNumber, IsPlain, NoneAt, FoundAt}

pub own : IsNumeralModel (AllDigits 10) (digits_value 10)
own = numerals_by_value (AllDigits 10) tells_digits

no_digit_first : (c : ℕ) (cs r : List ℕ) → NoDigit r → r ≡ c ∷ cs → digit_value c < 10 → ⊥
no_digit_first c cs [] n e d = cc
no_digit_first c cs (b ∷ bs) n e d = let x : b ≡ c = cc in n (subst (λ y. IsInRange 48 57 y) (sym x) (digit_from_value c d))

-- digits end where the first byte is that is none
pub digits_once : (ds es r s : List ℕ) → AllDigits 10 ds → AllDigits 10 es → NoDigit r → NoDigit s → ds ++ r ≡ es ++ s → (ds ≡ es) × (r ≡ s)
digits_once [] [] r s a b n m e = (refl, e)
digits_once [] (y ∷ ys) r s a b n m e = absurd (no_digit_first y (ys ++ s) r n e b.0)
digits_once (x ∷ xs) [] r s a b n m e = absurd (no_digit_first x (xs ++ r) s m (sym e) a.0)
digits_once (x ∷ xs) (y ∷ ys) r s a b n m e =
    let h : x ≡ y = cc in
    let t : xs ++ r ≡ ys ++ s = cc in
    let k = digits_once xs ys r s a.1 b.1 n m t in
    (cc, k.1)

pub decimal_once : (m n : ℕ) (r s : List ℕ) → m < 2 ^ 64 → n < 2 ^ 64 → NoDigit r → NoDigit s → decimal m ++ r ≡ decimal n ++ s → (m ≡ n) × (r ≡ s)
decimal_once m n r s v w a b e =
    let d = digits_once (decimal m) (decimal n) r s (digits_decimal own m v) (digits_decimal own n w) a b e in
    (sym (digits_value-decimal own m v) ∙ ap (digits_value 10) d.0 ∙ digits_value-decimal own n w, d.1)

plain_parts : (ds : List ℕ) → IsPlain ds → (0 < length ds) × (get_or ds 0 0 ≡ 48 → length ds ≡ 1)
plain_parts [] p = absurd p
plain_parts (d ∷ ds) p = (omega arith, λ e. ap (λ xs. length (d ∷ xs)) (p e))

none_of : (ds : List ℕ) → length ds ≡ 0 → ds ≡ []
none_of [] e = refl
none_of (d ∷ ds) e = absurd (omega arith)

from_parts : (ds : List ℕ) → 0 < length ds → (get_or ds 0 0 ≡ 48 → length ds ≡ 1) → IsPlain ds
from_parts [] w f = omega arith
from_parts (d ∷ ds) w f = λ e. let k : length (d ∷ ds) ≡ 1 = f e in none_of ds (omega arith)

pub decimal_plain : (n : ℕ) → n < 2 ^ 64 → IsPlain (decimal n)
decimal_plain zero w = subst IsPlain (sym (decimal_digit 0 (omega arith))) (λ e. refl)
decimal_plain (suc k) w = from_parts (decimal (suc k)) (decimal_nonempty (suc k) w) (λ e. let h : 48 < get_or (decimal (suc k)) 0 0 = first_decimal (suc k) (omega arith) w in absurd (omega arith))

-- plain digits of a number that fits are its spelling
pub number_found : (bytes ds r : List ℕ) (n : ℕ) → bytes ≡ ds ++ r → AllDigits 10 ds → NoDigit r → IsPlain ds → n ≡ digits_value 10 ds → n < 2 ^ 64 → FoundAt decimal FitsNumber bytes n r
number_found bytes ds r n e a b p v w =
    let q = plain_parts ds p in
    (w, record { is = e ∙ ap (λ xs. xs ++ r) (sym (ap decimal v ∙ decimal-digits_value own ds a q.0 q.1 (subst (λ k. k < 2 ^ 64) v w))); ends = b })

-- no other digits are
pub number_none : (bytes ds r : List ℕ) → bytes ≡ ds ++ r → AllDigits 10 ds → NoDigit r → (IsPlain ds → 2 ^ 64 ≤ digits_value 10 ds) → NoneAt decimal FitsNumber bytes
number_none bytes ds r e a b f n rest x =
    let d = digits_once ds (decimal n) r rest a (digits_decimal own n x.0) b x.1.ends (sym e ∙ x.1.is) in
    let p : IsPlain ds = subst IsPlain (sym d.0) (decimal_plain n x.0) in
    let g : 2 ^ 64 ≤ digits_value 10 ds = f p in
    let h : digits_value 10 ds ≡ n = ap (digits_value 10) d.0 ∙ digits_value-decimal own n x.0 in
    let w : n < 2 ^ 64 = x.0 in
    omega arith

digit_is : (ds : List ℕ) (i : ℕ) → i < length ds → AllDigits 10 ds → digit_value (get_or ds i 0) + 48 ≡ get_or ds i 0
digit_is ds i w a = digit_value_digit (get_or ds i 0) (digit_at ds i a w)

pub digit_low : (ds : List ℕ) (i : ℕ) → i < length ds → AllDigits 10 ds → 48 ≤ get_or ds i 0
digit_low ds i w a = omega (arith, digit_is ds i w a)

-- one more digit
pub value_more : (ds : List ℕ) (i v t n : ℕ) → i < length ds → AllDigits 10 ds → v ≡ digits_value 10 (take i ds) → t ≡ v * 10 → n ≡ t + (get_or ds i 0 - 48) → n ≡ digits_value 10 (take (i + 1) ds)
value_more ds i v t n w a e f g = omega (arith, digits_value_more 10 ds i w, digit_is ds i w a)

-- too large already
pub value_large : (ds : List ℕ) (i v t m : ℕ) → i < length ds → AllDigits 10 ds → v ≡ digits_value 10 (take i ds) → t ≡ v * 10 → m ≤ t + (get_or ds i 0 - 48) → m ≤ digits_value 10 ds
value_large ds i v t m w a e f g = omega (arith, digits_value_more 10 ds i w, digit_is ds i w a, digits_value-take-le 10 ds (i + 1) (omega arith))

pub whole_value : (ds : List ℕ) (i v : ℕ) → length ds ≤ i → v ≡ digits_value 10 (take i ds) → v ≡ digits_value 10 ds
whole_value ds i v w e = e ∙ ap (digits_value 10) (take_all i ds w)

pub digits_next : (bs : List ℕ) (i : ℕ) → i < length bs → AllDigits 10 (take i bs) → 48 ≤ get_or bs i 0 → get_or bs i 0 ≤ 57 → AllDigits 10 (take (i + 1) bs)
digits_next bs i w a l h =
    let d : digit_value (get_or bs i 0) + 48 ≡ get_or bs i 0 = digit_value_digit (get_or bs i 0) (l, h) in
    digits_more 10 bs i w a (omega arith)

pub split_is : (bs front back : List ℕ) (i : ℕ) → front ≡ take i bs → back ≡ drop i bs → bs ≡ front ++ back
split_is bs front back i e f = sym (take-append-drop i bs) ∙ ap (λ x. x ++ drop i bs) (sym e) ∙ ap (λ x. front ++ x) (sym f)
