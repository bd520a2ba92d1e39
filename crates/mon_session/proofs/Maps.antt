-- A list changed element by element, in place.
use Rattle.std.specs.Prelude.{◌≡◌, ℕ, zero, suc, ◌+◌, ◌-◌, ◌<◌, ◌≤◌, List, [], ◌∷◌, ◌++◌, length, take, drop, map, filter, slice_index_or, slice_set, Bool, true, false, refl}
use Rattle.std.specs.List.{AllByRecursion, remove}
use Rattle.std.proofs.Common.{arith, ap, sym, ◌∙◌, subst}

set-mapped : {A : Type 0} (f : A → A) (ys : List A) (i : ℕ) (d : A) → i < length ys
    → slice_set (map f (take i ys) ++ drop i ys) i (f (slice_index_or ys i d)) ≡ map f (take (suc i) ys) ++ drop (suc i) ys
set-mapped f [] i d lt = absurd (omega (arith, lt))
set-mapped f (y ∷ ys) zero d lt = refl
set-mapped f (y ∷ ys) (suc i) d lt =
    let less : i < length ys = omega (arith, lt) in
    ap (λ zs. f y ∷ zs) (set-mapped f ys i d less)

index-mapped : {A : Type 0} (f : A → A) (ys : List A) (i : ℕ) (d : A) → slice_index_or (map f (take i ys) ++ drop i ys) i d ≡ slice_index_or ys i d
index-mapped f [] zero d = refl
index-mapped f [] (suc i) d = refl
index-mapped f (y ∷ ys) zero d = refl
index-mapped f (y ∷ ys) (suc i) d = index-mapped f ys i d

mapped-at : {A : Type 0} (f : A → A) (ys : List A) (i : ℕ) (d y : A) → i < length ys → y ≡ f (slice_index_or ys i d)
    → slice_set (map f (take i ys) ++ drop i ys) i y ≡ map f (take (i + 1) ys) ++ drop (i + 1) ys
mapped-at f ys i d y lt e =
    let more : i + 1 ≡ suc i = omega arith in
    rw e (rw more (set-mapped f ys i d lt))

-- one element more is changed
pub mapped_more : {A : Type 0} (f : A → A) (xs ys : List A) (i : ℕ) (d y : A) → xs ≡ map f (take i ys) ++ drop i ys → i < length ys → y ≡ f (slice_index_or xs i d)
    → slice_set xs i y ≡ map f (take (i + 1) ys) ++ drop (i + 1) ys
mapped_more f xs ys i d y e less made =
    let at : y ≡ f (slice_index_or ys i d) = made ∙ ap f (ap (λ zs. slice_index_or zs i d) e ∙ index-mapped f ys i d) in
    subst (λ zs. slice_set zs i y ≡ map f (take (i + 1) ys) ++ drop (i + 1) ys) (sym e) (mapped-at f ys i d y less at)

length-mapped : {A : Type 0} (f : A → A) (ys : List A) (i : ℕ) → length (map f (take i ys) ++ drop i ys) ≡ length ys
length-mapped f [] zero = refl
length-mapped f [] (suc i) = refl
length-mapped f (y ∷ ys) zero = refl
length-mapped f (y ∷ ys) (suc i) = ap suc (length-mapped f ys i)

pub as_long : {A : Type 0} (f : A → A) (xs ys : List A) (i : ℕ) → xs ≡ map f (take i ys) ++ drop i ys → length xs ≡ length ys
as_long f xs ys i e = ap length e ∙ length-mapped f ys i

-- what holds of all elements holds of one, and goes on where one is replaced
pub all_at : {A : Type 0} (P : A → Type 0) (xs : List A) (i : ℕ) (d : A) → AllByRecursion P xs → i < length xs → P (slice_index_or xs i d)
all_at P [] i d a lt = absurd (omega (arith, lt))
all_at P (x ∷ xs) zero d a lt = a.0
all_at P (x ∷ xs) (suc i) d a lt =
    let less : i < length xs = omega (arith, lt) in
    all_at P xs i d a.1 less

pub all_set : {A : Type 0} (P : A → Type 0) (xs : List A) (i : ℕ) (y : A) → AllByRecursion P xs → P y → AllByRecursion P (slice_set xs i y)
all_set P [] i y a p = tt
all_set P (x ∷ xs) zero y a p = (p, a.1)
all_set P (x ∷ xs) (suc i) y a p = (a.0, all_set P xs i y a.1 p)

-- from the end on, those that pass a test are kept, and the others are taken out
kept-at : {A : Type 0} (test : A → Bool) (ys : List A) (i : ℕ) (d : A) → i < length ys
    → test (slice_index_or (take (suc i) ys ++ filter test (drop (suc i) ys)) i d) ≡ true
    → take (suc i) ys ++ filter test (drop (suc i) ys) ≡ take i ys ++ filter test (drop i ys)
kept-at test [] i d lt e = absurd (omega (arith, lt))
kept-at test (y ∷ ys) zero d lt e = rw e refl
kept-at test (y ∷ ys) (suc i) d lt e =
    let less : i < length ys = omega (arith, lt) in
    ap (λ zs. y ∷ zs) (kept-at test ys i d less e)

pub filtered_kept : {A : Type 0} (test : A → Bool) (xs ys : List A) (i : ℕ) (d : A) → xs ≡ take (i + 1) ys ++ filter test (drop (i + 1) ys) → i < length ys
    → test (slice_index_or xs i d) ≡ true → xs ≡ take i ys ++ filter test (drop i ys)
filtered_kept test xs ys i d e lt passes =
    let more : i + 1 ≡ suc i = omega arith in
    let at : xs ≡ take (suc i) ys ++ filter test (drop (suc i) ys) = subst (λ n. xs ≡ take n ys ++ filter test (drop n ys)) more e in
    at ∙ kept-at test ys i d lt (subst (λ zs. test (slice_index_or zs i d) ≡ true) at passes)

out-at : {A : Type 0} (test : A → Bool) (ys : List A) (i : ℕ) (d : A) → i < length ys
    → test (slice_index_or (take (suc i) ys ++ filter test (drop (suc i) ys)) i d) ≡ false
    → remove (take (suc i) ys ++ filter test (drop (suc i) ys)) i ≡ take i ys ++ filter test (drop i ys)
out-at test [] i d lt e = absurd (omega (arith, lt))
out-at test (y ∷ ys) zero d lt e = rw e refl
out-at test (y ∷ ys) (suc i) d lt e =
    let less : i < length ys = omega (arith, lt) in
    ap (λ zs. y ∷ zs) (out-at test ys i d less e)

pub filtered_out : {A : Type 0} (test : A → Bool) (xs ys : List A) (i : ℕ) (d : A) → xs ≡ take (i + 1) ys ++ filter test (drop (i + 1) ys) → i < length ys
    → test (slice_index_or xs i d) ≡ false → remove xs i ≡ take i ys ++ filter test (drop i ys)
filtered_out test xs ys i d e lt fails =
    let more : i + 1 ≡ suc i = omega arith in
    let at : xs ≡ take (suc i) ys ++ filter test (drop (suc i) ys) = subst (λ n. xs ≡ take n ys ++ filter test (drop n ys)) more e in
    ap (λ zs. remove zs i) at ∙ out-at test ys i d lt (subst (λ zs. test (slice_index_or zs i d) ≡ false) at fails)

pub kept_before : {A : Type 0} (test : A → Bool) (xs ys : List A) (n : ℕ) (d : A) → 0 < n → n ≤ length ys → xs ≡ take n ys ++ filter test (drop n ys)
    → test (slice_index_or xs (n - 1) d) ≡ true → xs ≡ take (n - 1) ys ++ filter test (drop (n - 1) ys)
kept_before test xs ys n d more le e passes =
    let same : n - 1 + 1 ≡ n = omega (arith, more) in
    let lt : n - 1 < length ys = omega (arith, more, le) in
    filtered_kept test xs ys (n - 1) d (subst (λ k. xs ≡ take k ys ++ filter test (drop k ys)) (sym same) e) lt passes
