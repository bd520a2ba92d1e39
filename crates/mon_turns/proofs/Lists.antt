-- Lists of lists' parts.
use Rattle.std.proofs.Common.{◌≡◌, Bool, true, false, ◌||◌, List, [], ◌∷◌, map, filter, refl, sym, ap, ◌∙◌, cond}
use Rattle.std.specs.List.{list_any}

pub list_any_map : {A B : Type 0} (g : A → B) (p : B → Bool) (xs : List A) → list_any p (map g xs) ≡ list_any (λ x. p (g x)) xs
list_any_map g p [] = refl
list_any_map g p (x ∷ xs) = ap (λ b. p (g x) || b) (list_any_map g p xs)

pub map_id : {A : Type 0} (xs : List A) → map (λ x. x) xs ≡ xs
map_id [] = refl
map_id (x ∷ xs) = ap (λ ys. x ∷ ys) (map_id xs)

abbrev kept : {A : Type 0} → Bool → A → List A → List A
kept b x xs = cond b (x ∷ xs) xs

map_kept : {A B : Type 0} (h : A → B) (b : Bool) (x : A) (xs : List A) → map h (kept b x xs) ≡ kept b (h x) (map h xs)
map_kept h true x xs = refl
map_kept h false x xs = refl

-- what is shown of those parts of a list that pass a test
pub map_filter_map : {A B C : Type 0} (g : A → B) (p : B → Bool) (h : B → C) (xs : List A)
    → map h (filter p (map g xs)) ≡ map (λ x. h (g x)) (filter (λ x. p (g x)) xs)
map_filter_map g p h [] = refl
map_filter_map g p h (x ∷ xs) =
    map_kept h (p (g x)) (g x) (filter p (map g xs))
    ∙ ap (kept (p (g x)) (h (g x))) (map_filter_map g p h xs)
    ∙ sym (map_kept (λ y. h (g y)) (p (g x)) x (filter (λ y. p (g y)) xs))
