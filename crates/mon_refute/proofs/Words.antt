-- Words of a line are spelled in one way.
use Rattle.std.proofs.Common.{◌≡◌, ◌≢◌, ℕ, ◌^◌, ◌<◌, ◌≤◌, Bool, true, false, cond, refl, sym, ap, ◌∙◌, subst, List, [], ◌∷◌, ◌++◌, Option, Some, None, MatchOption, Bor, arith, decimal}
use Rattle.std.specs.Int.{IsInRange}
use Rattle.std.specs.Str.Parse.{AllDigits}
use Rattle.std.proofs.lemmas.Fmt.{digits_decimal}
use Rattle.std.proofs.lemmas.Str.Parse.{digit_from_value}
use Rattle.mon_refute.specs.declared.number.Word.{Word}
use Rattle.mon_text.specs.Numbers.{NoDigit, FitsNumber, IsPlain, NoneAt, FoundAt}
use Rattle.mon_refute.specs.Reading.{word_text, FitsWord}
use Rattle.mon_text.proofs.Spelling.{own, decimal_once, decimal_plain}

-- a number begins with a digit
digits_first : (ds r s : List ℕ) (b : ℕ) → AllDigits 10 ds → IsPlain ds → ds ++ r ≡ b ∷ s → IsInRange 48 57 b
digits_first [] r s b a p e = absurd p
digits_first (d ∷ ds) r s b a p e = let h : d ≡ b = cc in subst (λ x. IsInRange 48 57 x) h (digit_from_value d a.0)

number_first : (n b : ℕ) (r s : List ℕ) → n < 2 ^ 64 → decimal n ++ r ≡ b ∷ s → IsInRange 48 57 b
number_first n b r s w e = digits_first (decimal n) r s b (digits_decimal own n w) (decimal_plain n w) e

no_minus : IsInRange 48 57 45 → ⊥
no_minus h = let k : 48 ≤ 45 = h.0 in omega arith

pub no_space : IsInRange 48 57 32 → ⊥
no_space h = let k : 48 ≤ 32 = h.0 in omega arith

pub tails : (a b : ℕ) (xs ys : List ℕ) → a ∷ xs ≡ b ∷ ys → xs ≡ ys
tails a b xs ys e = cc

word_parts : (a b : Bool) (m n : ℕ) → a ≡ b → m ≡ n → (let w : Word = record { positive = a; number = m } in w) ≡ record { positive = b; number = n }
word_parts a b m n e f = cc

sign_once : (p q : Bool) (m n : ℕ) (r s : List ℕ) → m < 2 ^ 64 → n < 2 ^ 64 → NoDigit r → NoDigit s
    → cond p (decimal m) (45 ∷ decimal m) ++ r ≡ cond q (decimal n) (45 ∷ decimal n) ++ s → (p ≡ q) × (m ≡ n) × (r ≡ s)
sign_once true true m n r s v w a b e = let d = decimal_once m n r s v w a b e in (refl, d.0, d.1)
sign_once true false m n r s v w a b e = absurd (no_minus (number_first m 45 r (decimal n ++ s) v e))
sign_once false true m n r s v w a b e = absurd (no_minus (number_first n 45 s (decimal m ++ r) w (sym e)))
sign_once false false m n r s v w a b e = let d = decimal_once m n r s v w a b (tails 45 45 _ _ e) in (refl, d.0, d.1)

pub word_once : (x y : Word) (r s : List ℕ) → FitsWord x → FitsWord y → NoDigit r → NoDigit s → word_text x ++ r ≡ word_text y ++ s → (x ≡ y) × (r ≡ s)
word_once x y r s v w a b e =
    let d = sign_once x.positive y.positive x.number y.number r s v w a b (tails 32 32 _ _ e) in
    (word_parts x.positive y.positive x.number y.number d.0 d.1, d.2)

-- words begin with a space
pub word_next : (x : Word) (r : List ℕ) → NoDigit (word_text x ++ r)
word_next x r = no_space

no_word : (bytes : List ℕ) → ((rest : List ℕ) → bytes ≢ 32 ∷ rest) → NoneAt word_text FitsWord bytes
no_word bytes f x rest h = f _ h.1.is

plain_none : (p : Bool) (n : ℕ) (signed rest : List ℕ) → NoDigit rest → n < 2 ^ 64 → ((r : List ℕ) → signed ≢ 45 ∷ r) → NoneAt decimal FitsNumber signed
    → signed ≡ cond p (decimal n) (45 ∷ decimal n) ++ rest → ⊥
plain_none true n signed rest a w f g e = g n rest (w, record { is = e; ends = a })
plain_none false n signed rest a w f g e = f (decimal n ++ rest) e

pub word_plain_none : (bytes signed : List ℕ) → bytes ≡ 32 ∷ signed → ((r : List ℕ) → signed ≢ 45 ∷ r) → NoneAt decimal FitsNumber signed → NoneAt word_text FitsWord bytes
word_plain_none bytes signed e f g x rest h = plain_none x.positive x.number signed rest h.1.ends h.0 f g (tails 32 32 _ _ (sym e ∙ h.1.is))

minus_none : (p : Bool) (n : ℕ) (signed after rest : List ℕ) → NoDigit rest → n < 2 ^ 64 → signed ≡ 45 ∷ after → NoneAt decimal FitsNumber after
    → signed ≡ cond p (decimal n) (45 ∷ decimal n) ++ rest → ⊥
minus_none true n signed after rest a w s g e = no_minus (number_first n 45 rest after w (sym e ∙ s))
minus_none false n signed after rest a w s g e = g n rest (w, record { is = tails 45 45 _ _ (sym s ∙ e); ends = a })

pub word_minus_none : (bytes signed after : List ℕ) → bytes ≡ 32 ∷ signed → signed ≡ 45 ∷ after → NoneAt decimal FitsNumber after → NoneAt word_text FitsWord bytes
word_minus_none bytes signed after e s g x rest h = minus_none x.positive x.number signed after rest h.1.ends h.0 s g (tails 32 32 _ _ (sym e ∙ h.1.is))

-- the word that was read
sign_true : (p : Bool) (n : ℕ) → p ≡ true → cond p (decimal n) (45 ∷ decimal n) ≡ decimal n
sign_true p n e = ap (λ b. cond b (decimal n) (45 ∷ decimal n)) e

sign_false : (p : Bool) (n : ℕ) → p ≡ false → cond p (decimal n) (45 ∷ decimal n) ≡ 45 ∷ decimal n
sign_false p n e = ap (λ b. cond b (decimal n) (45 ∷ decimal n)) e

pub word_plain : (bytes signed : List ℕ) (r : Option (Word × Bor (List ℕ))) → bytes ≡ 32 ∷ signed → ((r : List ℕ) → signed ≢ 45 ∷ r)
    → MatchOption r (NoneAt decimal FitsNumber signed) (λ x. (x.0.positive ≡ true) × FoundAt decimal FitsNumber signed x.0.number x.1.now)
    → MatchOption r (NoneAt word_text FitsWord bytes) (λ x. FoundAt word_text FitsWord bytes x.0 x.1.now)
word_plain bytes signed None e f h = word_plain_none bytes signed e f h
word_plain bytes signed (Some x) e f h =
    (h.1.0, record { is = e ∙ ap (λ xs. 32 ∷ xs) (h.1.1.is ∙ ap (λ xs. xs ++ x.1.now) (sym (sign_true x.0.positive x.0.number h.0))); ends = h.1.1.ends })

pub word_minus : (bytes signed after : List ℕ) (r : Option (Word × Bor (List ℕ))) → bytes ≡ 32 ∷ signed → signed ≡ 45 ∷ after
    → MatchOption r (NoneAt decimal FitsNumber after) (λ x. (x.0.positive ≡ false) × FoundAt decimal FitsNumber after x.0.number x.1.now)
    → MatchOption r (NoneAt word_text FitsWord bytes) (λ x. FoundAt word_text FitsWord bytes x.0 x.1.now)
word_minus bytes signed after None e s h = word_minus_none bytes signed after e s h
word_minus bytes signed after (Some x) e s h =
    (h.1.0, record { is = e ∙ ap (λ xs. 32 ∷ xs) (s ∙ ap (λ xs. 45 ∷ xs) h.1.1.is ∙ ap (λ xs. xs ++ x.1.now) (sym (sign_false x.0.positive x.0.number h.0))); ends = h.1.1.ends })
