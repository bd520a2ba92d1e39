-- The order of matches is strict and total, as a sorted table needs.
use Rattle.std.proofs.Common.{◌≡◌, ℕ, ◌↔◌, Bool, true, false, IsTrue, List, [], ◌∷◌, length, refl, sym, ap, subst, ◌∙◌, arith}
use Rattle.std.specs.Prelude.{◌==◌, nat_lt, ◌&&◌, ◌||◌}
use Rattle.std.proofs.lemmas.Bool.Decides.{nat_tests}
use Rattle.mon_header.specs.declared.header.Header.{Header}
use Rattle.mon_header.specs.Wild.{packed}
use Rattle.mon_header.specs.Matching.{Matching, IsNormal}
use Rattle.mon_header.specs.Order.{key, is_less, match_before}
use Rattle.mon_header.proofs.Packing.{packed-same}
use Rattle.mon_header.proofs.Made.{numbers-of}

-- one place of two lists that are compared
pub step-self : (x : ℕ) (rest : Bool) → rest ≡ false → (nat_lt x x || ((x == x) && rest)) ≡ false
step-self x rest e = grind (arith, nat_tests)

step-more : (x y z : ℕ) (p q r : Bool) → (p ≡ true → q ≡ true → r ≡ true)
    → (nat_lt x y || ((x == y) && p)) ≡ true → (nat_lt y z || ((y == z) && q)) ≡ true → (nat_lt x z || ((x == z) && r)) ≡ true
step-more x y z p q r h a b = grind (arith, nat_tests)

step-first : (x y : ℕ) (p q : Bool)
    → (nat_lt x y || ((x == y) && p)) ≡ false → (nat_lt y x || ((y == x) && q)) ≡ false → x ≡ y
step-first x y p q a b = grind (arith, nat_tests)

step-rest : (x : ℕ) (p : Bool) → (nat_lt x x || ((x == x) && p)) ≡ false → p ≡ false
step-rest x p a = grind (arith, nat_tests)

pub less-self : (xs : List ℕ) → is_less xs xs ≡ false
less-self [] = refl
less-self (x ∷ xs) = step-self x (is_less xs xs) (less-self xs)

pub less-more : (xs ys zs : List ℕ) → is_less xs ys ≡ true → is_less ys zs ≡ true → is_less xs zs ≡ true
less-more [] ys zs a b = cc
less-more (x ∷ xs) [] zs a b = cc
less-more (x ∷ xs) (y ∷ ys) [] a b = cc
less-more (x ∷ xs) (y ∷ ys) (z ∷ zs) a b =
    step-more x y z (is_less xs ys) (is_less ys zs) (is_less xs zs) (less-more xs ys zs) a b

pub less-neither : (xs ys : List ℕ) → length xs ≡ length ys → is_less xs ys ≡ false → is_less ys xs ≡ false → xs ≡ ys
less-neither [] [] e a b = refl
less-neither [] (y ∷ ys) e a b = absurd (omega arith)
less-neither (x ∷ xs) [] e a b = absurd (omega arith)
less-neither (x ∷ xs) (y ∷ ys) e a b =
    let first : x ≡ y = step-first x y (is_less xs ys) (is_less ys xs) a b in
    let P : ℕ → Type 0 = λ n. (nat_lt x n || ((x == n) && is_less xs ys)) ≡ false in
    let Q : ℕ → Type 0 = λ n. (nat_lt n x || ((n == x) && is_less ys xs)) ≡ false in
    let rest : xs ≡ ys = less-neither xs ys (omega arith) (step-rest x _ (subst P (sym first) a)) (step-rest x _ (subst Q (sym first) b)) in
    cc

-- matches with the same numbers are equal
key-same : (a b : Matching) → packed a.wild ≡ packed b.wild → a.fields ≡ b.fields → IsNormal a → IsNormal b → a ≡ b
key-same a b e f p q =
    let w : a.wild ≡ b.wild = packed-same a.wild b.wild p.nw_src_count p.nw_dst_count q.nw_src_count q.nw_dst_count e in
    cc

pub numbers-same : (a b : Matching) → key a ≡ key b → IsNormal a → IsNormal b → a ≡ b
unfolding key
numbers-same a b e p q =
    let w : packed a.wild ≡ packed b.wild = cc in
    let f : a.fields ≡ b.fields = cc (numbers-of a.fields, numbers-of b.fields) in
    key-same a b w f p q

keys-long : (a b : Matching) → length (key a) ≡ length (key b)
unfolding key
keys-long a b = refl

pub before-self : (a : Matching) → match_before a a ≡ false
before-self a = less-self (key a)

pub before-more : (a b c : Matching) → match_before a b ≡ true → match_before b c ≡ true → match_before a c ≡ true
before-more a b c = less-more (key a) (key b) (key c)

-- two matches do not stand before each other
pub before-once : (a b : Matching) → match_before a b ≡ true → match_before b a ≡ false
before-once a b e =
    elim (match_before b a) as (λ r. match_before b a ≡ r → r ≡ false) [
      | true ↦ λ f. sym (before-more a b a e f) ∙ before-self a
      | false ↦ λ f. refl
    ] refl

-- of two different matches one stands before the other
pub before-neither : (a b : Matching) → IsNormal a → IsNormal b → match_before a b ≡ false → match_before b a ≡ false → a ≡ b
before-neither a b p q e f = numbers-same a b (less-neither (key a) (key b) (keys-long a b) e f) p q

pub same-by-numbers : (a b : Matching) (m n : ℕ) (f g : Header) (test : Bool) → IsNormal a → IsNormal b
    → m ≡ packed a.wild → n ≡ packed b.wild → m ≡ n → f ≡ a.fields → g ≡ b.fields
    → (IsTrue test ↔ (f ≡ g)) → IsTrue test ↔ (a ≡ b)
same-by-numbers a b m n f g test p q am bn e af bg t = (
  λ (h : IsTrue test). key-same a b (sym am ∙ (e ∙ bn)) (sym af ∙ (t.0 h ∙ bg)) p q,
  λ (s : a ≡ b). t.1 (af ∙ (ap (λ (m : Matching). m.fields) s ∙ sym bg)),
)

-- the law, but for its last clause
pub ruleset ordering = (before-self, before-more)
