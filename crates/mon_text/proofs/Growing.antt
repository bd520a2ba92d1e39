-- Lists that grow by an item, and their texts.
use Rattle.std.proofs.Common.{◌≡◌, ℕ, sym, ap, ◌∙◌, List, [], ◌∷◌, ◌++◌, append_assoc}
use Rattle.std.specs.List.{flat_map, AllByRecursion}
use Rattle.std.proofs.lemmas.List.{flat_map_more}

pub all_push : {X : Type 0} (P : X → Type 0) (xs : List X) (y : X) → AllByRecursion P xs → P y → AllByRecursion P (xs ++ (y ∷ []))
all_push P [] y a p = (p, tt)
all_push P (x ∷ xs) y a p = (a.0, all_push P xs y a.1 p)

pub flat_push : {X : Type 0} (text : X → List ℕ) (front : List X) (y : X) (after : List ℕ) → flat_map text front ++ (text y ++ after) ≡ flat_map text (front ++ (y ∷ [])) ++ after
flat_push text front y after = sym (append_assoc (flat_map text front) (text y) after) ∙ ap (λ xs. xs ++ after) (flat_map_more text [] front y)
