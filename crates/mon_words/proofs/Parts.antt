-- What stands before and after `=`.
use Rattle.std.proofs.Common.{◌≡◌, ◌≢◌, ℕ, ◌<◌, true, false, if◌then◌else◌, refl, sym, ap, ◌∙◌, List, [], ◌∷◌, ◌++◌, Option, Some, None, MatchOption, length, get_or, arith, suc, Bor}
use Rattle.std.specs.Prelude.{◌==◌}
use Rattle.std.proofs.lemmas.Str.Pattern.{IsSplitOnceResult, split_parts}
use Rattle.std.proofs.lemmas.Bool.Decides.{eqb_tells}
use Rattle.mon_words.specs.Reading.{parts_of, after_byte}
use Rattle.mon_words.proofs.Numbers.{by_cases}

other_byte : (b : ℕ) → b ≢ 61 → (b == 61) ≡ false
other_byte b h = grind (arith, eqb_tells b 61)

later : (x : ℕ) (xs : List ℕ) → ((i : ℕ) → i < length (x ∷ xs) → get_or (x ∷ xs) i 0 ≢ 61) → (i : ℕ) → i < length xs → get_or xs i 0 ≢ 61
later x xs h i l = h (suc i) (omega (arith, l))

pub parts_found : (front rest : List ℕ) → ((i : ℕ) → i < length front → get_or front i 0 ≢ 61) → parts_of (front ++ 61 ∷ rest) ≡ Some (front, rest)
parts_found [] rest h = refl
parts_found (x ∷ xs) rest h =
    ap (λ t. if t then Some ([], xs ++ 61 ∷ rest) else after_byte x (parts_of (xs ++ 61 ∷ rest))) (other_byte x (h 0 (omega arith)))
    ∙ ap (after_byte x) (parts_found xs rest (later x xs h))

parts_none : (bytes : List ℕ) → ((i : ℕ) → i < length bytes → get_or bytes i 0 ≢ 61) → parts_of bytes ≡ None
parts_none [] h = refl
parts_none (x ∷ xs) h =
    ap (λ t. if t then Some ([], xs) else after_byte x (parts_of xs)) (other_byte x (h 0 (omega arith)))
    ∙ ap (after_byte x) (parts_none xs (later x xs h))

same_parts : (word : List ℕ) (r : Option (Bor (List ℕ) × Bor (List ℕ)))
    → MatchOption r ((i : ℕ) → i < length word → get_or word i 0 ≢ 61) (λ x. (word ≡ x.0.now ++ (61 ∷ x.1.now)) × ((i : ℕ) → i < length x.0.now → get_or x.0.now i 0 ≢ 61))
    → MatchOption r (parts_of word ≡ None) (λ x. parts_of word ≡ Some (x.0.now, x.1.now))
same_parts word None h = parts_none word h
same_parts word (Some x) h = ap parts_of h.0 ∙ parts_found x.0.now x.1.now h.1

pub split_is_parts : (word : List ℕ) (r : Option (Bor (List ℕ) × Bor (List ℕ))) → IsSplitOnceResult 61 word r
    → MatchOption r (parts_of word ≡ None) (λ x. parts_of word ≡ Some (x.0.now, x.1.now))
split_is_parts word r h = same_parts word r (split_parts 61 word r h (omega arith))

-- the parts of a word join to it
pub parts_join : (word : List ℕ) (p : List ℕ × List ℕ) → parts_of word ≡ Some p → word ≡ p.0 ++ 61 ∷ p.1
parts_join [] p e = cc
parts_join (b ∷ bs) p e = by_cases (b == 61)
    (λ t. let q : Some ([], bs) ≡ Some p = sym (ap (λ t. if t then Some ([], bs) else after_byte b (parts_of bs)) t) ∙ e in first b bs p t q)
    (λ t. let q : after_byte b (parts_of bs) ≡ Some p = sym (ap (λ t. if t then Some ([], bs) else after_byte b (parts_of bs)) t) ∙ e in
    next b bs p (parts_of bs) q (λ r f. parts_join bs r f))
  where
    some_is : {A : Type 0} (x y : A) → Some x ≡ Some y → x ≡ y
    some_is x y e = cc

    first : (b : ℕ) (bs : List ℕ) (p : List ℕ × List ℕ) → (b == 61) ≡ true → Some ([], bs) ≡ Some p → b ∷ bs ≡ p.0 ++ 61 ∷ p.1
    first b bs p t q =
        let s : ([], bs) ≡ p = some_is _ _ q in
        let is : b ≡ 61 = grind (arith, eqb_tells b 61) in
        ap (λ c. c ∷ bs) is ∙ ap (λ r. r.0 ++ 61 ∷ r.1) s

    next : (b : ℕ) (bs : List ℕ) (p : List ℕ × List ℕ) (o : Option (List ℕ × List ℕ)) → after_byte b o ≡ Some p
        → ((r : List ℕ × List ℕ) → o ≡ Some r → bs ≡ r.0 ++ 61 ∷ r.1) → b ∷ bs ≡ p.0 ++ 61 ∷ p.1
    next b bs p None q h = cc
    next b bs p (Some r) q h =
        let s : (b ∷ r.0, r.1) ≡ p = some_is _ _ q in
        ap (λ t. b ∷ t) (h r refl) ∙ ap (λ r. r.0 ++ 61 ∷ r.1) s
