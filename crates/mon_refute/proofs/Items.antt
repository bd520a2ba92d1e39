-- Lists of words that a 0 ends: there is one way to read them.
use Rattle.std.proofs.Common.{◌≡◌, ◌≢◌, ℕ, ◌+◌, ◌<◌, refl, sym, ap, ◌∙◌, subst, List, [], ◌∷◌, ◌++◌, length, Option, Some, None, arith, append_assoc, length-append}
use Rattle.std.specs.List.{flat_map, AllByRecursion}
use Rattle.mon_refute.specs.declared.number.Word.{Word}
use Rattle.mon_text.specs.Numbers.{NoDigit, NoneAt, FoundAt}
use Rattle.mon_refute.specs.Reading.{word_text, FitsWord, word_item, FitsSome}
use Rattle.mon_refute.proofs.Words.{word_once, no_space}
use Rattle.mon_text.proofs.Growing.{all_push, flat_push}

some_is : {Y : Type 0} (x y : Y) → ◌≡◌ {A = Option Y} (Some x) (Some y) → x ≡ y
some_is x y e = cc

none_some : {Y : Type 0} (y : Y) → ◌≡◌ {A = Option Y} None (Some y) → ⊥
none_some y e = cc

pub cons_parts : {Y : Type 0} (x y : Y) (xs ys : List Y) → x ≡ y → xs ≡ ys → x ∷ xs ≡ y ∷ ys
cons_parts x y xs ys e f = cc

-- nothing is read yet, or no digit comes next
abbrev pub Behind : {Y : Type 0} → List Y → List ℕ → Type 0
Behind [] rest = Unit {0}
Behind (x ∷ xs) rest = NoDigit rest

pub behind_push : {Y : Type 0} (xs : List Y) (y : Y) (rest : List ℕ) → NoDigit rest → Behind (xs ++ (y ∷ [])) rest
behind_push [] y rest n = n
behind_push (x ∷ xs) y rest n = n

-- what is read so far, and the rest
pub record SoFar {Y : Type 0} (text : Y → List ℕ) (Fits : Y → Type 0) (whole : List ℕ) (front : List Y) (rest : List ℕ) : Type 0 where
  pub is : whole ≡ flat_map text front ++ rest
  pub fit : AllByRecursion Fits front
  pub behind : Behind front rest

pub so_far_start : {Y : Type 0} (text : Y → List ℕ) (Fits : Y → Type 0) (whole : List ℕ) → SoFar text Fits whole [] whole
so_far_start text Fits whole = record { is = refl; fit = tt; behind = tt }

pub so_far_push : {Y : Type 0} (text : Y → List ℕ) (Fits : Y → Type 0) (whole : List ℕ) (front new : List Y) (rest after : List ℕ) (y : Y) → SoFar text Fits whole front rest
    → Fits y → rest ≡ text y ++ after → NoDigit after → new ≡ front ++ (y ∷ []) → SoFar text Fits whole new after
so_far_push text Fits whole front new rest after y s f e n g = subst (λ ys. SoFar text Fits whole ys after) (sym g) (record {
  is = s.is ∙ ap (λ xs. flat_map text front ++ xs) e ∙ flat_push text front y after;
  fit = all_push Fits front y s.fit f;
  behind = behind_push front y after n;
})

module _ (Y : Type 0) (word : Option Y → Word) (Fits : Y → Type 0)
    (fits_word : (x : Option Y) → FitsSome Fits x → FitsWord (word x))
    (same : (x y : Option Y) → FitsSome Fits x → FitsSome Fits y → word x ≡ word y → x ≡ y) where
  abbrev item : Y → List ℕ
  item y = word_text (word (Some y))

  abbrev stop : List ℕ
  stop = word_text (word None)

  abbrev list_text : List Y → List ℕ
  list_text ys = flat_map item ys ++ stop

  pub item_once : (x y : Option Y) (r s : List ℕ) → FitsSome Fits x → FitsSome Fits y → NoDigit r → NoDigit s → word_item word x ++ r ≡ word_item word y ++ s → (x ≡ y) × (r ≡ s)
  item_once x y r s f g a b e = let d = word_once (word x) (word y) r s (fits_word x f) (fits_word y g) a b e in (same x y f g d.0, d.1)

  -- a word that stands for nothing
  pub no_item : (bytes rest : List ℕ) (w : Word) → FoundAt word_text FitsWord bytes w rest → ((x : Option Y) → FitsSome Fits x → word x ≢ w) → NoneAt (word_item word) (FitsSome Fits) bytes
  no_item bytes rest w h f x after k = f x k.0 (word_once (word x) w after rest (fits_word x k.0) h.0 k.1.ends h.1.ends (sym k.1.is ∙ h.1.is)).0

  pub next : (ys : List Y) (r : List ℕ) → NoDigit (list_text ys ++ r)
  next [] r = no_space
  next (y ∷ ys) r = no_space

  next_rest : (ys : List Y) (rest : List ℕ) → NoDigit rest → NoDigit (flat_map item ys ++ rest)
  next_rest [] rest n = n
  next_rest (y ∷ ys) rest n = no_space

  first_of : (y : Y) (ys : List Y) (r : List ℕ) → list_text (y ∷ ys) ++ r ≡ item y ++ (list_text ys ++ r)
  first_of y ys r = ap (λ xs. xs ++ r) (append_assoc (item y) (flat_map item ys) stop) ∙ append_assoc (item y) (list_text ys) r

  pub list_once : (ys zs : List Y) (r s : List ℕ) → AllByRecursion Fits ys → AllByRecursion Fits zs → NoDigit r → NoDigit s → list_text ys ++ r ≡ list_text zs ++ s → (ys ≡ zs) × (r ≡ s)
  list_once [] [] r s f g a b e = (refl, (item_once None None r s tt tt a b e).1)
  list_once [] (z ∷ zs) r s f g a b e = absurd (none_some z (item_once None (Some z) r _ tt g.0 a (next zs s) (e ∙ first_of z zs s)).0)
  list_once (y ∷ ys) [] r s f g a b e = absurd (none_some y (item_once None (Some y) s _ tt f.0 b (next ys r) (sym e ∙ first_of y ys r)).0)
  list_once (y ∷ ys) (z ∷ zs) r s f g a b e =
      let d = item_once (Some y) (Some z) _ _ f.0 g.0 (next ys r) (next zs s) (sym (first_of y ys r) ∙ e ∙ first_of z zs s) in
      let k = list_once ys zs r s f.1 g.1 a b d.1 in
      (cons_parts y z ys zs (some_is y z d.0) k.0, k.1)

  behind_tail : (xs : List Y) (rest : List ℕ) → NoDigit rest → Behind xs rest
  behind_tail [] rest n = tt
  behind_tail (x ∷ xs) rest n = n

  none_behind : (front ys : List Y) (rest after : List ℕ) → AllByRecursion Fits front → Behind front rest → AllByRecursion Fits ys → NoneAt (word_item word) (FitsSome Fits) rest → NoDigit after
      → flat_map item front ++ rest ≡ list_text ys ++ after → ⊥
  none_behind [] [] rest after f b g n a e = n None after (tt, record { is = e; ends = a })
  none_behind [] (y ∷ ys) rest after f b g n a e = n (Some y) (list_text ys ++ after) (g.0, record { is = e ∙ first_of y ys after; ends = next ys after })
  none_behind (x ∷ xs) [] rest after f b g n a e =
      none_some x (item_once None (Some x) after (flat_map item xs ++ rest) tt f.0 a (next_rest xs rest b) (sym e ∙ append_assoc (item x) (flat_map item xs) rest)).0
  none_behind (x ∷ xs) (y ∷ ys) rest after f b g n a e =
      let d = item_once (Some x) (Some y) (flat_map item xs ++ rest) _ f.0 g.0 (next_rest xs rest b) (next ys after) (sym (append_assoc (item x) (flat_map item xs) rest) ∙ e ∙ first_of y ys after) in
      none_behind xs ys rest after f.1 (behind_tail xs rest b) g.1 n a d.1

  pub list_none : (whole : List ℕ) (front : List Y) (rest : List ℕ) → SoFar item Fits whole front rest → NoneAt (word_item word) (FitsSome Fits) rest → NoneAt list_text (AllByRecursion Fits) whole
  list_none whole front rest s n ys after h = none_behind front ys rest after s.fit s.behind h.0 n h.1.ends (sym s.is ∙ h.1.is)

  pub list_found : (whole : List ℕ) (front : List Y) (rest after : List ℕ) → SoFar item Fits whole front rest → FoundAt (word_item word) (FitsSome Fits) rest None after → FoundAt list_text (AllByRecursion Fits) whole front after
  list_found whole front rest after s h = (s.fit, record { is = s.is ∙ ap (λ xs. flat_map item front ++ xs) h.1.is ∙ sym (append_assoc (flat_map item front) stop after); ends = h.1.ends })

  -- reading goes on with less
  pub shorter : (bytes rest : List ℕ) (x : Option Y) → bytes ≡ word_item word x ++ rest → length rest < length bytes
  shorter bytes rest x e = let k : length bytes ≡ length (word_item word x) + length rest = ap length e ∙ length-append (word_item word x) rest in omega arith
