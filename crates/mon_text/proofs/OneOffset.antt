-- A text has at most one first bad line.
use Rattle.std.proofs.Common.{◌≡◌, ◌≢◌, ℕ, true, false, List, [], ◌∷◌, ◌++◌, length, refl, sym, ap, subst, ◌∙◌, ◌⊎◌, ⊎_elim, inl, inr, append_assoc}
use Rattle.std.specs.Prelude.{◌==◌}
use Rattle.std.proofs.lemmas.Bool.{false≢true, cases_Bool, eqb-true, eq-eqb}
use Rattle.std.proofs.lemmas.List.{append-nil}
use Rattle.mon_text.specs.Parts.{feed}
use Rattle.mon_text.specs.BadLines.{NoFeed, AreLines, Begins, IsFirstBadLine}
use Rattle.mon_text.proofs.Stopping.{heads, tails, feed_behind}

-- the first goes on where the second ends
record GoesOn (a b r s : List ℕ) : Type 0 where
  more : List ℕ
  longer : a ≡ b ++ more
  behind : s ≡ more ++ r

goes_cons : (x y : ℕ) (a b r s : List ℕ) → x ≡ y → GoesOn a b r s → GoesOn (x ∷ a) (y ∷ b) r s
goes_cons x y a b r s e g = record { more = g.more; longer = let l = g.longer in cc; behind = g.behind }

split : (a b r s : List ℕ) → a ++ r ≡ b ++ s → GoesOn a b r s ⊎ GoesOn b a s r
split [] b r s e = inr (record { more = b; longer = refl; behind = e })
split (x ∷ a) [] r s e = inl (record { more = x ∷ a; longer = refl; behind = sym e })
split (x ∷ a) (y ∷ b) r s e =
    let same = heads x y _ _ e in
    ⊎_elim (λ g. inl (goes_cons x y a b r s same g)) (λ g. inr (goes_cons y x b a s r (sym same) g)) (split a b r s (tails x y _ _ e))

lines_last : (b : ℕ) (x : List ℕ) → AreLines (b ∷ x) → AreLines x
lines_last b [] l = tt
lines_last b (c ∷ x) l = l

lines_behind : (a x : List ℕ) → AreLines (a ++ x) → AreLines x
lines_behind [] x l = l
lines_behind (b ∷ a) x l = lines_behind a x (lines_last b (a ++ x) l)

record FirstLine (x : List ℕ) : Type 0 where
  line : List ℕ
  more : List ℕ
  one : NoFeed line
  is : x ≡ line ++ (10 ∷ more)

longer_line : (b : ℕ) (x : List ℕ) → b ≢ 10 → FirstLine x → FirstLine (b ∷ x)
longer_line b x n f = record { line = b ∷ f.line; more = f.more; one = (n, f.one); is = ap (λ s. b ∷ s) f.is }

line_from : (b : ℕ) (x : List ℕ) → AreLines (b ∷ x) → b ≢ 10 → AreLines x × (x ≢ [])
line_from b [] l n = absurd (n l)
line_from b (c ∷ x) l n = (l, λ e. cc)

first_line : (x : List ℕ) → AreLines x → x ≢ [] → FirstLine x
first_line [] l n = absurd (n refl)
first_line (b ∷ x) l n =
    ⊎_elim
    (λ (e : (b == 10) ≡ true). record { line = []; more = x; one = tt; is = ap (λ c. c ∷ x) (eqb-true b 10 e) })
    (λ (e : (b == 10) ≡ false).
    let other : b ≢ 10 = λ g. false≢true (sym e ∙ eq-eqb b 10 g) in
    let p = line_from b x l other in
    longer_line b x other (first_line x p.0 p.1))
    (cases_Bool (b == 10))

-- no text in the form goes on
no_longer : (Form : List ℕ → Type 0) (a x back behind : List ℕ) → AreLines x → x ≢ [] → back ≡ x ++ behind → Begins Form (a ++ x)
    → ((line rest : List ℕ) → NoFeed line → back ≡ line ++ (10 ∷ rest) → Begins Form (a ++ (line ++ feed)) → ⊥) → ⊥
no_longer Form a x back behind l n e b ends =
    let f = first_line x l n in
    ends f.line (f.more ++ behind) f.one (e ∙ ap (λ s. s ++ behind) f.is ∙ append_assoc f.line (10 ∷ f.more) behind) (
      f.more ++ b.0,
      subst Form (ap (λ s. (a ++ s) ++ b.0) f.is ∙ append_assoc a (f.line ++ (10 ∷ f.more)) b.0 ∙ ap (λ s. a ++ s) (append_assoc f.line (10 ∷ f.more) b.0 ∙ sym (feed_behind f.line (f.more ++ b.0)))
          ∙ sym (append_assoc a (f.line ++ feed) (f.more ++ b.0))) b.1,
    )

same_end : (Form : List ℕ → Type 0) (front longer back behind more : List ℕ) → longer ≡ front ++ more → back ≡ more ++ behind → AreLines longer → Begins Form longer
    → ((line rest : List ℕ) → NoFeed line → back ≡ line ++ (10 ∷ rest) → Begins Form (front ++ (line ++ feed)) → ⊥) → length longer ≡ length front
same_end Form front longer back behind [] e f l b ends = ap length (e ∙ append-nil front)
same_end Form front longer back behind (x ∷ xs) e f l b ends =
    absurd (no_longer Form front (x ∷ xs) back behind (lines_behind front (x ∷ xs) (subst AreLines e l)) (λ g. cc) f (subst (Begins Form) e b) ends)

pub one_offset : (Form : List ℕ → Type 0) (text : List ℕ) (a b : ℕ) → IsFirstBadLine Form text a → IsFirstBadLine Form text b → a ≡ b
one_offset Form text a b f g =
    ⊎_elim
    (λ (s : GoesOn f.front g.front f.back g.back). sym f.at ∙ same_end Form g.front f.front g.back f.back s.more s.longer s.behind f.whole f.begins g.ends ∙ g.at)
    (λ (s : GoesOn g.front f.front g.back f.back). sym f.at ∙ sym (same_end Form f.front g.front f.back g.back s.more s.longer s.behind g.whole g.begins f.ends) ∙ g.at)
    (split f.front g.front f.back g.back (sym f.is ∙ g.is))
