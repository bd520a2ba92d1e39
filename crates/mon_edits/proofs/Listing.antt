-- Looking rules up by their place.
use Rattle.std.proofs.Common.{◌≡◌, ℕ, ◌<◌, Bool, true, false, List, length, get_or, Some, None, refl, sym, ap, subst, ◌∙◌, cond}
use Rattle.std.specs.Prelude.{nat_lt}
use Rattle.std.specs.List.{find, position, position_or_len, slice_get}
use Rattle.std.proofs.lemmas.Bool.{ltb-true, ltb-false}
use Rattle.std.proofs.lemmas.List.Folds.{find_at}
use Rattle.std.proofs.lemmas.Option.{slice_get_read, slice_get_past, cond_some}
use Rattle.mon_table.specs.declared.rule.Rule.{Rule}

-- the rule at the first place that passes is the first that does
pub found : (p : Rule → Bool) (t : List Rule) (k : ℕ) (r : Rule) → Some k ≡ position p t → r ≡ get_or t k r → Some r ≡ find p t
found p t k r e read =
    let f = cond_some (nat_lt (position_or_len p t) (length t)) (position_or_len p t) k (sym e) in
    let within : k < length t = subst (λ n. n < length t) f.1 (ltb-true _ _ f.0) in
    sym (find_at p t ∙ (ap (slice_get t) f.1 ∙ slice_get_read t (length t) k r refl within read))

-- where no place passes, no rule does
pub missing : (p : Rule → Bool) (t : List Rule) → None ≡ position p t → None ≡ find p t
missing p t e =
    sym (find_at p t ∙ (elim (nat_lt (position_or_len p t) (length t)) as (λ b. nat_lt (position_or_len p t) (length t) ≡ b → None ≡ cond b (Some (position_or_len p t)) None → slice_get t (position_or_len p t) ≡ None) [
      | true ↦ λ y f. absurd (let g : ⊥ = cc in g)
      | false ↦ λ n f. slice_get_past t (position_or_len p t) (ltb-false _ _ n)
    ] refl e))
