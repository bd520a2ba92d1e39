-- The rules of one chunk: what an edit of it keeps.
use Rattle.std.proofs.Common.{◌≡◌, ℕ, zero, suc, ◌+◌, ◌-◌, ◌<◌, ◌≤◌, Bool, true, cond, List, [], ◌∷◌, ◌++◌, length, get_or, set, take, drop, refl, sym, ap, subst, ◌∙◌, arith}
use Rattle.std.specs.Prelude.{min, IsOk, Result}
use Rattle.std.specs.Result.{is_ok}
use Rattle.std.specs.List.{insert, AllByRecursion}
use Rattle.std.proofs.lemmas.Bool.{and_parts}
use Rattle.std.proofs.lemmas.List.{length-set, length-take, length-drop, take-append-drop}
use Rattle.std.proofs.lemmas.List.Edits.{length-insert}
use Rattle.mon_header.specs.Matching.{Matching, overlaps}
use Rattle.mon_table.specs.declared.rule.Rule.{Rule}
use Rattle.mon_table.specs.Rules.{Identity, identity_of, comes_before}
use Rattle.mon_table.specs.Tables.{slice}
use Rattle.mon_table.specs.Covers.{TakesAll, IsCover}
use Rattle.mon_table.specs.Chunks.{ends_before, all_overlap}
use Rattle.mon_table.proofs.Keeping.{all-filter, filter-short}

-- what holds of each rule of a list, and of one more
all-set : (P : Rule → Type 0) (t : List Rule) (n : ℕ) (r : Rule) → P r → AllByRecursion P t → AllByRecursion P (set t n r)
all-set P [] n r p a = tt
all-set P (s ∷ t) zero r p a = (p, a.1)
all-set P (s ∷ t) (suc n) r p a = (a.0, all-set P t n r p a.1)

all-insert : (P : Rule → Type 0) (t : List Rule) (n : ℕ) (r : Rule) → P r → AllByRecursion P t → AllByRecursion P (insert t n r)
all-insert P [] zero r p a = (p, tt)
all-insert P [] (suc n) r p a = (p, tt)
all-insert P (s ∷ t) zero r p a = (p, a)
all-insert P (s ∷ t) (suc n) r p a = (a.0, all-insert P t n r p a.1)

-- covers
cover-wider : (m w : Matching) (t : List Rule) → TakesAll w m → IsCover m t → IsCover w t
cover-wider m w [] f a = tt
cover-wider m w (r ∷ t) f a = (λ h e. f h (a.0 h e), cover-wider m w t f a.1)

cover-set : (m w : Matching) (t : List Rule) (n : ℕ) (r : Rule) → TakesAll w m → TakesAll w r.matching → IsCover m t → IsCover w (set t n r)
cover-set m w t n r f g a = all-set (λ s. TakesAll w s.matching) t n r g (cover-wider m w t f a)

pub cover-replaced : (m w : Matching) (t : List Rule) (n : ℕ) (r x : Rule) → x ≡ r → TakesAll w m → TakesAll w r.matching → IsCover m t → IsCover w (set t n x)
cover-replaced m w t n r x e f g a = subst (λ (y : Rule). IsCover w (set t n y)) (sym e) (cover-set m w t n r f g a)

pub cover-insert : (m w : Matching) (t new : List Rule) (n : ℕ) (r : Rule) → new ≡ insert t n r → TakesAll w m → TakesAll w r.matching → IsCover m t → IsCover w new
cover-insert m w t new n r e f g a = subst (IsCover w) (sym e) (all-insert (λ s. TakesAll w s.matching) t n r g (cover-wider m w t f a))

pub set-length : (t now : List Rule) (n : ℕ) (r : Rule) → t ≡ now → 0 < length t → length t ≤ 64 → (0 < length (set t n r)) × (length (set t n r) ≤ 64)
set-length t now n r e some few = let f = length-set t n r in (omega arith, omega arith)

pub insert-length : (t now new : List Rule) (n : ℕ) (r : Rule) → new ≡ insert t n r → t ≡ now → n ≤ length now → length now < 64 → (0 < length new) × (length new ≤ 64)
insert-length t now new n r e f place room =
    let g : length t ≡ length now = ap length f in
    let h : length new ≡ length t + 1 = ap length e ∙ length-insert t n r (omega arith) in
    (omega arith, omega arith)

pub cover-slice : (k m : Matching) (t new : List Rule) → new ≡ slice m t → IsCover k t → IsCover k new
cover-slice k m t new e a = subst (IsCover k) (sym e) (all-filter (λ r. TakesAll k r.matching) (λ r. overlaps m r.matching) t a)

pub slice-few : (m : Matching) (t new : List Rule) → new ≡ slice m t → length t ≤ 64 → length new ≤ 64
slice-few m t new e few = let f = filter-short (λ r. overlaps m r.matching) t in let g = ap length e in omega arith

-- the last rule
ends-last : (i : Identity) (t : List Rule) (d : Rule) → 0 < length t → ends_before i t ≡ comes_before (identity_of (get_or t (length t - 1) d)) i
ends-last i [] d lt = absurd (omega arith)
ends-last i (r ∷ []) d lt = refl
ends-last i (r ∷ s ∷ t) d lt =
    let e : suc (suc (length t)) - 1 ≡ suc (suc (length t) - 1) = omega arith in
    ends-last i (s ∷ t) d (omega arith) ∙ ap (λ (n : ℕ). comes_before (identity_of (get_or (r ∷ s ∷ t) n d)) i) (sym e)

pub ends-is : (i : Identity) (t : List Rule) (n : ℕ) (r : Rule) → 0 < length t → n ≡ length t - 1 → r ≡ get_or t n r → comes_before (identity_of r) i ≡ ends_before i t
ends-is i t n r lt e f = ap (λ (s : Rule). comes_before (identity_of s) i) (f ∙ ap (λ (k : ℕ). get_or t k r) e) ∙ sym (ends-last i t r lt)

-- a chunk of which each rule overlaps is its slice
pub whole-slice : (m : Matching) (t : List Rule) → all_overlap m t ≡ true → slice m t ≡ t
whole-slice m [] e = refl
whole-slice m (r ∷ t) e =
    let p = and_parts (overlaps m r.matching) _ e in
    rw p.0 (ap (λ (s : List Rule). r ∷ s) (whole-slice m t p.1))

-- the halves of a full chunk
all-take : (P : Rule → Type 0) (n : ℕ) (t : List Rule) → AllByRecursion P t → AllByRecursion P (take n t)
all-take P zero t a = tt
all-take P (suc n) [] a = tt
all-take P (suc n) (r ∷ t) a = (a.0, all-take P n t a.1)

all-drop : (P : Rule → Type 0) (n : ℕ) (t : List Rule) → AllByRecursion P t → AllByRecursion P (drop n t)
all-drop P zero t a = a
all-drop P (suc n) [] a = tt
all-drop P (suc n) (r ∷ t) a = all-drop P n t a.1

abbrev pub IsChunk : Matching → List Rule → Type 0
IsChunk m t = IsCover m t × (0 < length t) × (length t ≤ 64)

pub lower-half : (m : Matching) (t now new : List Rule) → new ≡ take 32 t → t ≡ now → length now ≡ 64 → IsCover m t → IsChunk m new
lower-half m t now new e f full a =
    let g : length t ≡ length now = ap length f in
    let h : length new ≡ min 32 (length t) = ap length e ∙ length-take 32 t in
    (subst (IsCover m) (sym e) (all-take (λ r. TakesAll m r.matching) 32 t a), omega arith, omega arith)

pub upper-half : (m : Matching) (t now new : List Rule) → new ≡ drop 32 t → t ≡ now → length now ≡ 64 → IsCover m t → IsChunk m new
upper-half m t now new e f full a =
    let g : length t ≡ length now = ap length f in
    let h : length new ≡ length t - 32 = ap length e ∙ length-drop 32 t in
    (subst (IsCover m) (sym e) (all-drop (λ r. TakesAll m r.matching) 32 t a), omega arith, omega arith)

joined-again : (t lower upper back : List Rule) → lower ≡ take 32 t → upper ≡ drop 32 t → back ≡ upper → lower ++ back ≡ t
joined-again t lower upper back e f g = ap (λ (x : List Rule). x ++ back) e ∙ (ap (λ (x : List Rule). take 32 t ++ x) (g ∙ f) ∙ take-append-drop 32 t)

pub rejoined : {A E : Type 0} (r : Result A E) (t now lower upper back new : List Rule) → IsOk r → lower ≡ take 32 t → upper ≡ drop 32 t → back ≡ upper
    → new ≡ cond (is_ok r) (lower ++ back) lower → t ≡ now → new ≡ now
rejoined r t now lower upper back new ok e f g n s =
    n ∙ (ap (λ (b : Bool). cond b (lower ++ back) lower) ok ∙ (joined-again t lower upper back e f g ∙ s))

pub chunk-again : (m : Matching) (t now new : List Rule) → new ≡ now → t ≡ now → IsChunk m t → IsChunk m new
chunk-again m t now new e f h = subst (IsChunk m) (f ∙ sym e) h
