-- What a list has, and what it has once an element was taken out.
use Rattle.std.proofs.Common.{◌≡◌, ◌≢◌, ℕ, zero, suc, ◌+◌, ◌<◌, cond, Bool, true, false, List, [], ◌∷◌, ◌++◌, length, map, get_or, All, sym, refl, ap, subst, arith, ◌⊎◌, ⊎_elim, inl, inr, length-append}
use Rattle.std.specs.List.{remove, filter}
use Rattle.mon_list.specs.Has.{Has}
use Rattle.mon_tally.specs.Tallies.{weigh, AsOften, Apart}
use Rattle.mon_tally.proofs.Counts.{weigh-append}

module _ {P : Type 0} where
  pub weigh_remove : (h : P → ℕ) (xs : List P) (k : ℕ) (d : P) → k < length xs → weigh h (remove xs k) + h (get_or xs k d) ≡ weigh h xs
  weigh_remove h [] k d lt = absurd (omega arith)
  weigh_remove h (x ∷ xs) zero d lt = omega arith
  weigh_remove h (x ∷ xs) (suc k) d lt = omega (arith, weigh_remove h xs k d (omega arith))

  pub has_at : (xs : List P) (k : ℕ) (d : P) → k < length xs → Has xs (get_or xs k d)
  has_at [] k d lt = absurd (omega arith)
  has_at (x ∷ xs) zero d lt = inl refl
  has_at (x ∷ xs) (suc k) d lt = inr (has_at xs k d (omega arith))

  -- what stands at no place is not there
  pub none_has : (xs : List P) (x : P) → ((k : ℕ) (d : P) → k < length xs → get_or xs k d ≢ x) → Has xs x → ⊥
  none_has [] x none has = elim has [ ]
  none_has (y ∷ ys) x none (inl e) = none 0 x (omega arith) (sym e)
  none_has (y ∷ ys) x none (inr has) = none_has ys x (λ k d lt. none (suc k) d (omega arith)) has

  pub has_left : (xs ys : List P) (x : P) → Has xs x → Has (xs ++ ys) x
  has_left [] ys x has = elim has [ ]
  has_left (z ∷ zs) ys x (inl e) = inl e
  has_left (z ∷ zs) ys x (inr has) = inr (has_left zs ys x has)

  pub has_either : (xs ys : List P) (x : P) → Has (xs ++ ys) x → Has xs x ⊎ Has ys x
  has_either [] ys x has = inr has
  has_either (z ∷ zs) ys x (inl e) = inl (inl e)
  has_either (z ∷ zs) ys x (inr has) = ⊎_elim (λ l. inl (inr l)) (λ r. inr r) (has_either zs ys x has)

  pub has_filter : (test : P → Bool) (xs : List P) (x : P) → Has (filter test xs) x → Has xs x
  has_filter test [] x has = elim has [ ]
  has_filter test (y ∷ ys) x has = by_test test y ys x (test y) has (has_filter test ys x)
    where
      by_test : (test : P → Bool) (y : P) (ys : List P) (x : P) (b : Bool) → Has (cond b (y ∷ filter test ys) (filter test ys)) x → (Has (filter test ys) x → Has ys x) → Has (y ∷ ys) x
      by_test test y ys x true (inl e) rest = inl e
      by_test test y ys x true (inr has) rest = inr (rest has)
      by_test test y ys x false has rest = inr (rest has)

  -- fewer on the right stay apart
  pub apart_less : (xs ys : List P) (test : P → Bool) → Apart xs ys → Apart xs (filter test ys)
  apart_less xs ys test apart x here there = apart x here (has_filter test ys x there)

  pub apart_snoc : (xs ys : List P) (y : P) → Apart xs ys → (Has ys y → ⊥) → Apart (xs ++ y ∷ []) ys
  apart_snoc xs ys y apart none x here there =
      ⊎_elim (λ (l : Has xs x). apart x l there) (λ (r : Has (y ∷ []) x). last r) (has_either xs (y ∷ []) x here)
    where
      last : Has (y ∷ []) x → ⊥
      last (inl e) = none (subst (λ (z : P). Has ys z) e there)
      last (inr none') = none'

  pub apart_none : (xs ys : List P) → xs ≡ [] → Apart xs ys
  apart_none xs ys none x here there = subst (λ (l : List P). Has l x) none here

  last_of : (xs : List P) (x d : P) → get_or (xs ++ x ∷ []) (length xs) d ≡ x
  last_of [] x d = refl
  last_of (y ∷ ys) x d = last_of ys x d

  -- what holds of all holds of the last
  pub all_last : (Q : P → Type 0) (ys xs : List P) (x : P) → ys ≡ xs ++ x ∷ [] → All Q ys → Q x
  all_last Q ys xs x is all =
      let lt : length xs < length (xs ++ x ∷ []) = omega (arith, length-append xs (x ∷ [])) in
      let all' : All Q (xs ++ x ∷ []) = subst (λ (l : List P). All Q l) is all in
      subst Q (last_of xs x x) (all' (length xs) x lt)

  pub often_append : (xs ys zs : List P) → AsOften xs ys → AsOften (xs ++ zs) (ys ++ zs)
  often_append xs ys zs e h = let a : weigh h xs ≡ weigh h ys = e h in omega (arith, weigh-append h xs zs, weigh-append h ys zs)

  -- one more answered, and one less out
  pub often_moved : (offered answered out less : List P) (x : P) → AsOften offered (answered ++ out) → AsOften out (x ∷ less) → AsOften offered ((answered ++ x ∷ []) ++ less)
  often_moved offered answered out less x e f h =
      let a : weigh h offered ≡ weigh h (answered ++ out) = e h in
      let b : weigh h out ≡ weigh h (x ∷ less) = f h in
      omega (arith, weigh-append h answered out, weigh-append h (answered ++ x ∷ []) less, weigh-append h answered (x ∷ []))

  -- one more offered, and one more out
  pub often_more : (put waiting answered out : List P) (x : P) → AsOften (put ++ waiting) (answered ++ out) → AsOften (put ++ (waiting ++ x ∷ [])) (answered ++ (out ++ x ∷ []))
  often_more put waiting answered out x e h =
      let a : weigh h (put ++ waiting) ≡ weigh h (answered ++ out) = e h in
      omega (arith, weigh-append h put waiting, weigh-append h answered out, weigh-append h put (waiting ++ x ∷ []), weigh-append h waiting (x ∷ []), weigh-append h answered (out ++ x ∷ []), weigh-append h out (x ∷ []))

module _ {A B : Type 0} where
  pub map_remove : (f : A → B) (xs : List A) (k : ℕ) → map f (remove xs k) ≡ remove (map f xs) k
  map_remove f [] zero = refl
  map_remove f [] (suc k) = refl
  map_remove f (x ∷ xs) zero = refl
  map_remove f (x ∷ xs) (suc k) = ap (λ l. f x ∷ l) (map_remove f xs k)

  pub get_or_map : (f : A → B) (xs : List A) (k : ℕ) (d : A) (e : B) → k < length xs → get_or (map f xs) k e ≡ f (get_or xs k d)
  get_or_map f [] k d e lt = absurd (omega arith)
  get_or_map f (x ∷ xs) zero d e lt = refl
  get_or_map f (x ∷ xs) (suc k) d e lt = get_or_map f xs k d e (omega arith)

module _ {P : Type 0} where
  front_at : (xs ys : List P) (k : ℕ) (d : P) → k < length xs → get_or (xs ++ ys) k d ≡ get_or xs k d
  front_at [] ys k d lt = absurd (omega arith)
  front_at (x ∷ xs) ys zero d lt = refl
  front_at (x ∷ xs) ys (suc k) d lt = front_at xs ys k d (omega arith)

  -- what holds of all holds of those before the last
  pub all_front : (Q : P → Type 0) (ys xs : List P) (x : P) → ys ≡ xs ++ x ∷ [] → All Q ys → All Q xs
  all_front Q ys xs x is all k d lt =
      let all' : All Q (xs ++ x ∷ []) = subst (λ (l : List P). All Q l) is all in
      let more : k < length (xs ++ x ∷ []) = omega (arith, length-append xs (x ∷ [])) in
      subst Q (front_at xs (x ∷ []) k d lt) (all' k d more)
