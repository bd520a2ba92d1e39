-- The number that a text spells.
use Rattle.std.proofs.Common.{◌≡◌, ℕ, ◌^◌, ◌<◌, ◌≤◌, Bool, true, false, ◌&&◌, if◌then◌else◌, refl, sym, ap, ◌∙◌, List, Some, None, Ok, Err, Result, arith, decimal}
use Rattle.std.specs.Prelude.{nat_le}
use Rattle.std.specs.Str.{bytes_eq}
use Rattle.std.specs.Str.Parse.{digits_value, ParsesUnsigned}
use Rattle.std.proofs.lemmas.Fmt.{decimal_is_IsNumeral, parse-decimal}
use Rattle.std.proofs.lemmas.Slice.Eq.{bytes_eq-Decides}
use Rattle.std.proofs.lemmas.Bool.Decides.{leb_tells}
use Rattle.mon_words.specs.declared.argument.Kind.{Kind}
use Rattle.mon_words.specs.declared.argument.Kind.TheVariants.{Workers, Generate, Seed}
use Rattle.mon_words.specs.Options.{least, most}
use Rattle.mon_words.specs.Reading.{takes, number_where, number_of}
use Rattle.std.proofs.lemmas.Bool.{and_parts, and_from}

pub by_cases : {P : Type 0} (b : Bool) → (b ≡ true → P) → (b ≡ false → P) → P
by_cases true t f = t refl
by_cases false t f = f refl

at_most : (a b : ℕ) → nat_le a b ≡ true → a ≤ b
at_most a b e = grind (arith, leb_tells a b)

pub is_at_most : (a b : ℕ) → a ≤ b → nat_le a b ≡ true
is_at_most a b e = grind (arith, leb_tells a b)

pub takes_is : (kind : Kind) (n : ℕ) → takes kind n ≡ true → (least kind ≤ n) × (n ≤ most kind)
takes_is kind n e = let p = and_parts _ _ e in (at_most _ _ p.0, at_most _ _ p.1)

below : (kind : Kind) (n : ℕ) → n ≤ most kind → n < 2 ^ 32
below Workers n h = omega arith
below Generate n h = omega arith
below Seed n h = omega arith

takes_below : (kind : Kind) (n : ℕ) → takes kind n ≡ true → n < 2 ^ 32
takes_below kind n e = below kind n (takes_is kind n e).1

-- what it means that the number is found
pub tested : (kind : Kind) (n : ℕ) (text : List ℕ) → (takes kind n && bytes_eq (decimal n) text) ≡ true → (takes kind n ≡ true) × (text ≡ decimal n)
tested kind n text e = let p = and_parts _ _ e in (p.0, sym ((bytes_eq-Decides (decimal n) text).0 p.1))

test_true : (kind : Kind) (n : ℕ) (text : List ℕ) → takes kind n ≡ true → text ≡ decimal n → (takes kind n && bytes_eq (decimal n) text) ≡ true
test_true kind n text t e = and_from _ _ t ((bytes_eq-Decides (decimal n) text).1 (sym e))

pub number_found : (kind : Kind) (n : ℕ) (text : List ℕ) → takes kind n ≡ true → text ≡ decimal n → number_of kind text ≡ Some n
number_found kind n text t e =
    let w : n < 2 ^ 32 = takes_below kind n t in
    let v : digits_value 10 text ≡ n = ap (digits_value 10) e ∙ (decimal_is_IsNumeral n (omega arith)).1 in
    ap (number_where kind text) v ∙ ap (λ b. if b then Some n else None) (test_true kind n text t e)

-- the number of a text, where there is one
pub number_is : (kind : Kind) (text : List ℕ) (n : ℕ) → number_of kind text ≡ Some n → (takes kind n ≡ true) × (text ≡ decimal n)
number_is kind text n e = where_is kind text (digits_value 10 text) n e
  where
    chosen : (b : Bool) (m n : ℕ) → (if b then Some m else None) ≡ Some n → (b ≡ true) × (m ≡ n)
    chosen true m n e = (refl, cc)
    chosen false m n e = cc

    where_is : (kind : Kind) (text : List ℕ) (m n : ℕ) → number_where kind text m ≡ Some n → (takes kind n ≡ true) × (text ≡ decimal n)
    where_is kind text m n e =
        let c = chosen _ m n e in
        let p = tested kind m text c.0 in
        (ap (λ k. takes kind k) (sym c.1) ∙ p.0, p.1 ∙ ap decimal c.1)

none_where : (kind : Kind) (text : List ℕ) (m : ℕ) → ((n : ℕ) → takes kind n ≡ true → text ≡ decimal n → ⊥) → number_where kind text m ≡ None
none_where kind text m h =
    by_cases (takes kind m && bytes_eq (decimal m) text)
    (λ e. let p = tested kind m text e in absurd (h m p.0 p.1))
    (λ e. ap (λ b. if b then Some m else None) e)

pub no_number : {E : Type 0} (kind : Kind) (text : List ℕ) (r : Result ℕ E) (x : E) → r ≡ Err x → ParsesUnsigned 32 10 text r → None ≡ number_of kind text
no_number {E} kind text r x is parsed = sym (none_where kind text (digits_value 10 text) (λ n t e.
    let w : n < 2 ^ 32 = takes_below kind n t in
    let q : r ≡ Ok n = parse-decimal {E = E} 32 n text r w (omega arith) e parsed in cc))

pub other_number : {E : Type 0} (kind : Kind) (text : List ℕ) (r : Result ℕ E) (m : ℕ) → r ≡ Ok m → ParsesUnsigned 32 10 text r
    → (takes kind m && bytes_eq (decimal m) text) ≡ false → None ≡ number_of kind text
other_number {E} kind text r m is parsed f = sym (none_where kind text (digits_value 10 text) (λ n t e.
    let w : n < 2 ^ 32 = takes_below kind n t in
    let q : r ≡ Ok n = parse-decimal {E = E} 32 n text r w (omega arith) e parsed in
    let same : m ≡ n = cc in
    let v = test_true kind m text (ap (λ k. takes kind k) same ∙ t) (e ∙ ap decimal (sym same)) in cc))
