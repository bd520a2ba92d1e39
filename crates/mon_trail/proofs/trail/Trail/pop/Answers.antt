use Rattle.std.proofs.Common.{◌≡◌, ℕ, ◌-◌, ◌∙◌, ◌++◌, refl, ap, List, [], ◌∷◌, take}
use Rattle.mon_trail.specs.declared.trail.Entry.{Entry}
use Rattle.mon_trail.proofs.trail.Trail.pop.Goals as goal

take_none : (xs : List Entry) → take (0 - 1) xs ≡ []
take_none [] = refl
take_none (x ∷ xs) = refl

nothing : (xs ys : List Entry) (n : ℕ) → n ≡ 0 → ys ≡ take (n - 1) xs → ys ≡ []
nothing xs ys n e t = t ∙ ap (λ k. take (k - 1) xs) e ∙ take_none xs

pub returns-in_default : goal.returns-in_default
returns-in_default c =
    let n = nothing c.args.self.now.entries.items c.pop.new.self.items _ c.in_default.ensures.cases.0 c.in_default.ensures.rest in
    (refl, c.in_default.ensures.items ∙ ap (λ xs. xs ++ []) n, n)
