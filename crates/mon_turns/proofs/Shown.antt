-- Nothing is shown past the end of a list.
use Rattle.std.proofs.Common.{◌≡◌, ℕ, ◌≤◌, List, [], length, Some, subst, ◌∙◌, inl, inr}
use Rattle.std.specs.Prelude.{slice_get}
use Rattle.std.proofs.lemmas.Option.{slice_get_cases}

-- none is left once all were looked at
pub all-seen : {A : Type 0} (all rest : List A) (ahead place : ℕ) → rest ≡ [] → slice_get rest ahead ≡ slice_get all place → length all ≤ place
all-seen {A} all rest ahead place none same =
    elim (slice_get_cases all place).1 as (λ _. length all ≤ place) [
      | inl there ↦
          let nowhere : List A = [] in
          absurd (let e : slice_get nowhere ahead ≡ Some there.0 = subst (λ (r : List A). slice_get r ahead ≡ Some there.0) none (same ∙ there.2) in cc)
      | inr past ↦ past.0
    ]
