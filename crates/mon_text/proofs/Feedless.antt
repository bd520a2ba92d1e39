-- What has no line feed.
use Rattle.std.proofs.Common.{◌≡◌, ◌≢◌, ℕ, ◌+◌, ◌/◌, ◌%◌, ◌^◌, ◌<◌, ◌≤◌, Bool, true, false, not, cond, List, [], ◌∷◌, ◌++◌, refl, sym, ◌∙◌, arith, decimal}
use Rattle.std.specs.Prelude.{nat_lt, ◌==◌}
use Rattle.std.specs.List.{list_all, flat_map, AllByRecursion}
use Rattle.std.specs.Str.Parse.{AllDigits}
use Rattle.std.proofs.lemmas.Str.Parse.{digit_from_value}
use Rattle.std.proofs.lemmas.Fmt.{digits_decimal}
use Rattle.std.proofs.lemmas.Bool.{false≢true, and_parts, eq-eqb}
use Rattle.mon_text.specs.Hex.{hex}
use Rattle.mon_text.specs.BadLines.{NoFeed}
use Rattle.mon_text.proofs.Spelling.{own}

-- of texts that are written out, by computing
abbrev pub feedless : List ℕ → Bool
feedless bytes = list_all (λ b. not (b == 10)) bytes

is_other : (b : ℕ) (t : Bool) → (b == 10) ≡ t → not t ≡ true → b ≢ 10
is_other b true e f = absurd (false≢true f)
is_other b false e f = λ g. false≢true (sym e ∙ eq-eqb b 10 g)

pub feedless_is : (bytes : List ℕ) → feedless bytes ≡ true → NoFeed bytes
feedless_is [] e = tt
feedless_is (b ∷ bs) e =
    let p = and_parts (not (b == 10)) (feedless bs) e in
    (is_other b (b == 10) refl p.0, feedless_is bs p.1)

pub feedless_join : (a b : List ℕ) → NoFeed a → NoFeed b → NoFeed (a ++ b)
feedless_join [] b n m = m
feedless_join (x ∷ xs) b n m = (n.0, feedless_join xs b n.1 m)

digits : (ds : List ℕ) → AllDigits 10 ds → NoFeed ds
digits [] a = tt
digits (d ∷ ds) a = (λ (e : d ≡ 10). let r : 48 ≤ d = (digit_from_value d a.0).0 in omega arith, digits ds a.1)

pub feedless_decimal : (n : ℕ) → n < 2 ^ 64 → NoFeed (decimal n)
feedless_decimal n w = digits (decimal n) (digits_decimal own n w)

digit_other : (d : ℕ) (t : Bool) → cond t (48 + d) (87 + d) ≢ 10
digit_other d true e = let g : 48 + d ≡ 10 = e in omega arith
digit_other d false e = let g : 87 + d ≡ 10 = e in omega arith

pub feedless_hex : (bytes : List ℕ) → NoFeed (hex bytes)
feedless_hex [] = tt
feedless_hex (b ∷ bs) = (digit_other (b / 16) (nat_lt (b / 16) 10), (digit_other (b % 16) (nat_lt (b % 16) 10), feedless_hex bs))

pub feedless_flat : {X : Type 0} (text : X → List ℕ) (Fits : X → Type 0) → ((x : X) → Fits x → NoFeed (text x)) → (xs : List X) → AllByRecursion Fits xs → NoFeed (flat_map text xs)
feedless_flat text Fits f [] a = tt
feedless_flat text Fits f (x ∷ xs) a = feedless_join (text x) (flat_map text xs) (f x a.0) (feedless_flat text Fits f xs a.1)
