-- What comes is fixed by what came and by what is shown: so whole moments that show one history are equal.
use Rattle.std.proofs.Common.{◌≡◌, ℕ, Bool, true, List, [], ◌∷◌, Option, Some, None, refl, sym, ap, subst, inl, inr, ◌∙◌}
use Rattle.std.specs.Prelude.{◌⊎◌}
use Rattle.std.proofs.lemmas.Bool.{false≢true}
use Rattle.mon_legal.specs.Runs.{Run}
use Rattle.mon_legal.specs.Moments.{Moment, shown, begins}
use Rattle.mon_legal.specs.Moments.Moment.{Is, Went, Came, Broke, Did}
use Rattle.mon_world.specs.declared.history.Entry.{Entry}
use Rattle.mon_world.specs.declared.history.Entry.TheVariants.{Put}
use Rattle.mon_legal.proofs.Coming.{some-same}
use Rattle.mon_legal.specs.Directly.Due.{Ending, Frame, Going, Probing, Tells}
use Rattle.mon_legal.specs.Passing.{Comes, FramesGoInOrder, NothingIsLeft}
use Rattle.mon_legal.specs.Ordering.Next.{Breaks_off, Handles, Loses, Meets, Nothing, Takes, Wants}
use Rattle.mon_legal.specs.Ordering.{Next, next}
use Rattle.mon_world.specs.declared.event.Side.TheVariants.{Switch}

-- what a moment shows
abbrev entry : Moment → Option Entry
entry (Is e) = Some e
entry (Went s serial near frame lost) = Some (Put near Switch frame lost)
entry m = None

abbrev with_entry : Option Entry → List Entry → List Entry
with_entry None h = h
with_entry (Some e) h = e ∷ h

shown-of : (m : Moment) (f : List Moment) → shown (m ∷ f) ≡ with_entry (entry m) (shown f)
shown-of (Is e) f = refl
shown-of (Went s serial near frame lost) f = refl
shown-of (Came s side frame) f = refl
shown-of (Broke s side fault) f = refl
shown-of (Did s act) f = refl

begins-shows : (m : Moment) → begins m ≡ true → (e : Entry) × (m ≡ Is e)
begins-shows (Is e) b = (e, refl)
begins-shows (Went s serial near frame lost) b = absurd (false≢true b)
begins-shows (Came s side frame) b = absurd (false≢true b)
begins-shows (Broke s side fault) b = absurd (false≢true b)
begins-shows (Did s act) b = absurd (false≢true b)

-- of a moment that shows nothing and one that shows an entry only one comes
none-some : {A : Type 0} (m : Moment) (e : Entry) → entry m ≡ None → entry m ≡ Some e → A
none-some m e n y = absurd (let g : None ≡ Some e = sym n ∙ y in cc)

silent-same : (run : Run) (f : List Moment) (n : Next) (m p : Moment) → Comes run f n m → Comes run f n p → entry m ≡ None → entry p ≡ None → m ≡ p
silent-same run f (Meets s (Frame to frame)) m p c d x y = none-some m _ x (ap entry c.1)
silent-same run f (Meets s (Tells line)) m p c d x y = none-some m _ x (ap entry c)
silent-same run f (Meets s (Ending why)) m p c d x y = none-some m _ x (ap entry c)
silent-same run f (Meets s (Probing job k)) m p c d x y = none-some m _ x (ap entry c.1)
silent-same run f (Meets s (Going serial)) m p c d x y = none-some m _ x (ap entry c.3)
silent-same run f (Takes s act) m p c d x y = c ∙ sym d
silent-same run f (Loses s) m p c d x y = none-some m _ x (ap entry c)
silent-same run f (Handles s side frame) m p c d x y = c ∙ sym d
silent-same run f (Breaks_off s side fault) m p c d x y = c ∙ sym d
silent-same run f (Wants s k) m p c d x y = none-some m _ x (ap entry c)
silent-same run f Nothing m p c d x y = let b = begins-shows m c in none-some m b.0 x (ap entry b.1)

no-both : {A : Type 0} (run : Run) (f : List Moment) (n : Next) (m p : Moment) (e : Entry) → Comes run f n m → Comes run f n p → entry m ≡ None → entry p ≡ Some e → A
no-both run f (Meets s (Frame to frame)) m p e c d x y = none-some m _ x (ap entry c.1)
no-both run f (Meets s (Tells line)) m p e c d x y = none-some m _ x (ap entry c)
no-both run f (Meets s (Ending why)) m p e c d x y = none-some m _ x (ap entry c)
no-both run f (Meets s (Probing job k)) m p e c d x y = none-some m _ x (ap entry c.1)
no-both run f (Meets s (Going serial)) m p e c d x y = none-some m _ x (ap entry c.3)
no-both run f (Takes s act) m p e c d x y = none-some p e (ap entry d) y
no-both run f (Loses s) m p e c d x y = none-some m _ x (ap entry c)
no-both run f (Handles s side frame) m p e c d x y = none-some p e (ap entry d) y
no-both run f (Breaks_off s side fault) m p e c d x y = none-some p e (ap entry d) y
no-both run f (Wants s k) m p e c d x y = none-some m _ x (ap entry c)
no-both run f Nothing m p e c d x y = let b = begins-shows m c in none-some m b.0 x (ap entry b.1)

-- two moments that are entries are the same where these are
same-is : (m p : Moment) (a b : Entry) → m ≡ Is a → p ≡ Is b → entry m ≡ entry p → m ≡ p
same-is m p a b c d e = c ∙ ap Is (some-same a b (sym (ap entry c) ∙ e ∙ ap entry d)) ∙ sym d

went-same : (s serial near near₂ : ℕ) (frame frame₂ : List ℕ) (lost lost₂ : Bool) → Put near Switch frame lost ≡ Put near₂ Switch frame₂ lost₂
    → Went s serial near frame lost ≡ Went s serial near₂ frame₂ lost₂
went-same s serial near near₂ frame frame₂ lost lost₂ e = cc

visible-same : (run : Run) (f : List Moment) (n : Next) (m p : Moment) (e : Entry) → Comes run f n m → Comes run f n p → entry m ≡ Some e → entry p ≡ Some e → m ≡ p
visible-same run f (Meets s (Frame to frame)) m p e c d x y = same-is m p _ _ c.1 d.1 (x ∙ sym y)
visible-same run f (Meets s (Tells line)) m p e c d x y = c ∙ sym d
visible-same run f (Meets s (Ending why)) m p e c d x y = c ∙ sym d
visible-same run f (Meets s (Probing job k)) m p e c d x y = same-is m p _ _ c.1 d.1 (x ∙ sym y)
visible-same run f (Meets s (Going serial)) m p e c d x y =
    c.3 ∙ went-same s serial c.0 d.0 c.1 d.1 c.2 d.2
    (some-same (Put c.0 Switch c.1 c.2) (Put d.0 Switch d.1 d.2) (sym (ap entry c.3) ∙ x ∙ sym y ∙ ap entry d.3)) ∙ sym d.3
visible-same run f (Takes s act) m p e c d x y = none-some m e (ap entry c) x
visible-same run f (Loses s) m p e c d x y = c ∙ sym d
visible-same run f (Handles s side frame) m p e c d x y = none-some m e (ap entry c) x
visible-same run f (Breaks_off s side fault) m p e c d x y = none-some m e (ap entry c) x
visible-same run f (Wants s k) m p e c d x y = c ∙ sym d
visible-same run f Nothing m p e c d x y =
    let a = begins-shows m c in let b = begins-shows p d in same-is m p a.0 b.0 a.1 b.1 (x ∙ sym y)

-- one list of moments is reached from another by moments that show nothing
data Reached (run : Run) (g : List Moment) : List Moment → Type 0 where
  Here : (f : List Moment) → f ≡ g → Reached run g f
  There : (f : List Moment) (n : Moment) → Comes run f (next run f) n → entry n ≡ None → Reached run g (n ∷ f) → Reached run g f

one-more : (run : Run) (g : List Moment) (n : Moment) → Comes run g (next run g) n → entry n ≡ None → (f : List Moment) → Reached run g f → Reached run (n ∷ g) f
one-more run g n c x f (Here _ e) = subst (λ (h : List Moment). Reached run (n ∷ g) h) (sym e) (There g n c x (Here (n ∷ g) refl))
one-more run g n c x f (There _ p d y r) = There f p d y (one-more run g n c x (p ∷ f) r)

abbrev Agree : Run → List Moment → List Moment → Type 0
Agree run f g = Reached run g f ⊎ Reached run f g

-- a moment that shows nothing goes on top
silent-on : (run : Run) (m : Moment) (f g : List Moment) → Comes run f (next run f) m → entry m ≡ None → Agree run f g → Agree run (m ∷ f) g
silent-on run m f g c x (inl (Here _ e)) = inr (subst (λ (h : List Moment). Reached run (m ∷ f) h) e (There f m c x (Here (m ∷ f) refl)))
silent-on run m f g c x (inl (There _ n d y r)) = inl (subst (λ (q : Moment). Reached run g (q ∷ f)) (sym (silent-same run f (next run f) m n c d x y)) r)
silent-on run m f g c x (inr r) = inr (one-more run f m c x g r)

flipped : (run : Run) (f g : List Moment) → Agree run f g → Agree run g f
flipped run f g (inl r) = inr r
flipped run f g (inr r) = inl r

-- two that show the same entry go on top of lists that agree
shown-on : (run : Run) (m n : Moment) (f g : List Moment) (e : Entry) → Comes run f (next run f) m → Comes run g (next run g) n → entry m ≡ Some e → entry n ≡ Some e
    → Agree run f g → Agree run (m ∷ f) (n ∷ g)
shown-on run m n f g e c d x y (inl (Here _ q)) =
    let d₂ : Comes run f (next run f) n = subst (λ (h : List Moment). Comes run h (next run h) n) (sym q) d in
    inl (Here (m ∷ f) (ap (λ (k : Moment). k ∷ f) (visible-same run f (next run f) m n e c d₂ x y) ∙ ap (λ (h : List Moment). n ∷ h) q))
shown-on run m n f g e c d x y (inl (There _ p k z r)) = no-both run f (next run f) p m e k c z x
shown-on run m n f g e c d x y (inr (Here _ q)) =
    let c₂ : Comes run g (next run g) m = subst (λ (h : List Moment). Comes run h (next run h) m) (sym q) c in
    inl (Here (m ∷ f) (ap (λ (h : List Moment). m ∷ h) (sym q) ∙ ap (λ (k : Moment). k ∷ g) (visible-same run g (next run g) m n e c₂ d x y)))
shown-on run m n f g e c d x y (inr (There _ p k z r)) = no-both run g (next run g) p n e k d z y

abbrev head_of : Entry → List Entry → Entry
head_of e [] = e
head_of e (x ∷ h) = x

abbrev tail_of : List Entry → List Entry
tail_of [] = []
tail_of (x ∷ h) = h

-- an entry on top meets the same entry in the other list
meets-entry : (run : Run) (m : Moment) (f : List Moment) (e : Entry) → Comes run f (next run f) m → entry m ≡ Some e
    → ((g : List Moment) → FramesGoInOrder run g → shown f ≡ shown g → Agree run f g)
    → (g : List Moment) → FramesGoInOrder run g → e ∷ shown f ≡ shown g → Agree run (m ∷ f) g
meets-entry run m f e c x k [] order s = absurd (let g : e ∷ shown f ≡ [] = s in cc)
meets-entry run m f e c x k (n ∷ g) order s =
    elim (entry n) as (λ o. entry n ≡ o → Agree run (m ∷ f) (n ∷ g)) [
      | None ↦ λ y.
          let same : e ∷ shown f ≡ shown g = s ∙ shown-of n g ∙ ap (λ (o : Option Entry). with_entry o (shown g)) y in
          flipped run (n ∷ g) (m ∷ f) (silent-on run n g (m ∷ f) order.1 y (flipped run (m ∷ f) g (meets-entry run m f e c x k g order.2 same)))
      | Some e₂ ↦ λ y.
          let same : e ∷ shown f ≡ e₂ ∷ shown g = s ∙ shown-of n g ∙ ap (λ (o : Option Entry). with_entry o (shown g)) y in
          let es : e ≡ e₂ = ap (head_of e) same in
          shown-on run m n f g e c order.1 x (y ∙ ap Some (sym es)) (k g order.2 (ap tail_of same))
    ] refl

silent-none : (run : Run) (g : List Moment) → FramesGoInOrder run g → shown g ≡ [] → Reached run g []
silent-none run [] order s = Here [] refl
silent-none run (n ∷ g) order s =
    elim (entry n) as (λ o. entry n ≡ o → Reached run (n ∷ g) []) [
      | None ↦ λ y. one-more run g n order.1 y [] (silent-none run g order.2 (ap (λ (o : Option Entry). with_entry o (shown g)) (sym y) ∙ sym (shown-of n g) ∙ s))
      | Some e ↦ λ y. absurd (let q : e ∷ shown g ≡ [] = ap (λ (o : Option Entry). with_entry o (shown g)) (sym y) ∙ sym (shown-of n g) ∙ s in cc)
    ] refl

agree : (run : Run) (f : List Moment) → FramesGoInOrder run f → (g : List Moment) → FramesGoInOrder run g → shown f ≡ shown g → Agree run f g
agree run [] order g order₂ s = inl (silent-none run g order₂ (sym s))
agree run (m ∷ f) order g order₂ s =
    elim (entry m) as (λ o. entry m ≡ o → Agree run (m ∷ f) g) [
      | None ↦ λ x.
          silent-on run m f g order.1 x (agree run f order.2 g order₂ (ap (λ (o : Option Entry). with_entry o (shown f)) (sym x) ∙ sym (shown-of m f) ∙ s))
      | Some e ↦ λ x.
          meets-entry run m f e order.1 x (agree run f order.2) g order₂ (ap (λ (o : Option Entry). with_entry o (shown f)) (sym x) ∙ sym (shown-of m f) ∙ s)
    ] refl

-- nothing shows nothing where a turn has ended
whole-same : (run : Run) (f g : List Moment) → NothingIsLeft run f → Reached run g f → f ≡ g
whole-same run f g nothing (Here _ e) = e
whole-same run f g nothing (There _ n c x r) =
    let b = begins-shows n (subst (λ (q : Next). Comes run f q n) nothing c) in none-some n b.0 x (ap entry b.1)

of-agree : (run : Run) (f g : List Moment) → NothingIsLeft run f → NothingIsLeft run g → Agree run f g → f ≡ g
of-agree run f g nothing nothing₂ (inl r) = whole-same run f g nothing r
of-agree run f g nothing nothing₂ (inr r) = sym (whole-same run g f nothing₂ r)

pub one-witness : (run : Run) (f g : List Moment) → FramesGoInOrder run f → FramesGoInOrder run g → NothingIsLeft run f → NothingIsLeft run g → shown f ≡ shown g → f ≡ g
one-witness run f g order order₂ nothing nothing₂ s = of-agree run f g nothing nothing₂ (agree run f order g order₂ s)
