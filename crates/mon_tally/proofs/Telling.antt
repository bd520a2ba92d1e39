-- Values that are told apart by their codes.
use Rattle.std.proofs.Common.{◌≡◌, ◌≢◌, ◌&&◌, ◌==◌, Bool, true, false, true≢false, refl, sym, ap, eq-eqb}
use Rattle.std.proofs.lemmas.Bool.{eqb-true}
use base.Stored.{Gv, gnil, gnum, gcons}

abbrev pub same : Gv → Gv → Bool
same gnil gnil = true
same gnil (gnum n) = false
same gnil (gcons a b) = false
same (gnum n) gnil = false
same (gnum n) (gnum m) = n == m
same (gnum n) (gcons a b) = false
same (gcons a b) gnil = false
same (gcons a b) (gnum n) = false
same (gcons a b) (gcons c d) = same a c && same b d

both : (a b : Bool) → a ≡ true → b ≡ true → (a && b) ≡ true
both true b x y = y
both false b x y = absurd (true≢false (sym x))

first : (a b : Bool) → (a && b) ≡ true → a ≡ true
first true b h = refl
first false b h = absurd (true≢false (sym h))

second : (a b : Bool) → (a && b) ≡ true → b ≡ true
second true b h = h
second false b h = absurd (true≢false (sym h))

pub same_self : (g : Gv) → same g g ≡ true
same_self gnil = refl
same_self (gnum n) = eq-eqb n n refl
same_self (gcons a b) = both (same a a) (same b b) (same_self a) (same_self b)

pub same_means : (g k : Gv) → same g k ≡ true → g ≡ k
same_means gnil gnil h = refl
same_means gnil (gnum n) h = absurd (true≢false (sym h))
same_means gnil (gcons a b) h = absurd (true≢false (sym h))
same_means (gnum n) gnil h = absurd (true≢false (sym h))
same_means (gnum n) (gnum m) h = ap gnum (eqb-true n m h)
same_means (gnum n) (gcons a b) h = absurd (true≢false (sym h))
same_means (gcons a b) gnil h = absurd (true≢false (sym h))
same_means (gcons a b) (gnum n) h = absurd (true≢false (sym h))
same_means (gcons a b) (gcons c d) h =
    let x : a ≡ c = same_means a c (first (same a c) (same b d) h) in
    let y : b ≡ d = same_means b d (second (same a c) (same b d) h) in
    λ i. gcons (x i) (y i)
