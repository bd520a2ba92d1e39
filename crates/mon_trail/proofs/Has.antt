-- Which literals a clause has.
use Rattle.std.proofs.Common.{◌≡◌, ℕ, ◌+◌, ◌<◌, refl, sym, subst, List, [], ◌∷◌, ◌++◌, length, get_or, take, ◌⊎◌, ⊎_elim, inl, inr, arith, zero, suc}
use Rattle.std.proofs.lemmas.List.{take_more}
use Rattle.mon_list.specs.Has.{Has}
use Rattle.mon_cnf.specs.declared.clause.Lit.{Lit}

pub has_left : (xs ys : List Lit) (k : Lit) → Has xs k → Has (xs ++ ys) k
has_left [] ys k h = absurd h
has_left (x ∷ xs) ys k h = ⊎_elim (λ e. inl e) (λ i. inr (has_left xs ys k i)) h

pub has_last : (xs : List Lit) (y : Lit) → Has (xs ++ (y ∷ [])) y
has_last [] y = inl refl
has_last (x ∷ xs) y = inr (has_last xs y)

pub has_push : (xs : List Lit) (y k : Lit) → Has (xs ++ (y ∷ [])) k → Has xs k ⊎ (k ≡ y)
has_push [] y k h = ⊎_elim (λ e. inr e) (λ i. absurd i) h
has_push (x ∷ xs) y k h = ⊎_elim (λ e. inl (inl e)) (λ i. ⊎_elim (λ j. inl (inr j)) (λ e. inr e) (has_push xs y k i)) h

pub has_at : (xs : List Lit) (i : ℕ) (d k : Lit) → i < length xs → k ≡ get_or xs i d → Has xs k
has_at [] i d k w e = absurd (omega arith)
has_at (x ∷ xs) zero d k w e = inl e
has_at (x ∷ xs) (suc i) d k w e = inr (has_at xs i d k (omega arith) e)

pub has_more : (c : List Lit) (i : ℕ) (d k : Lit) → i < length c → Has (take (i + 1) c) k → Has (take i c) k ⊎ (k ≡ get_or c i d)
has_more c i d k w h = has_push (take i c) (get_or c i d) k (subst (λ xs. Has xs k) (take_more c i d w) h)

pub more_has : (c : List Lit) (i : ℕ) (d k : Lit) → i < length c → Has (take i c) k → Has (take (i + 1) c) k
more_has c i d k w h = subst (λ xs. Has xs k) (sym (take_more c i d w)) (has_left (take i c) (get_or c i d ∷ []) k h)

pub last_has : (c : List Lit) (i : ℕ) (d : Lit) → i < length c → Has (take (i + 1) c) (get_or c i d)
last_has c i d w = subst (λ xs. Has xs (get_or c i d)) (sym (take_more c i d w)) (has_last (take i c) (get_or c i d))
