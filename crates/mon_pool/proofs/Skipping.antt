-- What is no skip, and what is none.
use Rattle.std.proofs.Common.{◌≡◌, ℕ, Option, Some, None, refl, sym, subst}
use Rattle.std.specs.Prelude.{IfNone}
use Rattle.mon_job.specs.declared.verdict.Says.{Says}
use Rattle.mon_job.specs.declared.verdict.Says.TheVariants.{Probe, Indistinguishable, Skipped, NoMemory}
use Rattle.mon_solve.specs.Answers.{seen_in}
use Rattle.mon_world.specs.Crews.{SkipsRightly}

abbrev IsNone : Option ℕ → Type 0
IsNone None = Unit {0}
IsNone (Some n) = ⊥

-- where no version was seen, nothing was skipped
pub no_skip : (says : Says) (shown : Option ℕ) (version published : ℕ) → shown ≡ seen_in says → shown ≡ None → SkipsRightly says version published
no_skip (Probe h e) shown version published is none = tt
no_skip Indistinguishable shown version published is none = tt
no_skip (Skipped seen) shown version published is none = absurd (subst IsNone is (subst IsNone (sym none) tt))
no_skip NoMemory shown version published is none = tt

pub if_none : {T : Type 0} (r : Option T) (P : Type 0) → ((x : T) → r ≡ Some x → ⊥) → IfNone r P → P
if_none None P n h = h
if_none (Some x) P n h = absurd (n x refl)
