-- The last version of each slot, as one more is published.
use Rattle.std.proofs.Common.{◌≡◌, ◌≢◌, ℕ, ◌<◌, ◌≤◌, List, [], ◌∷◌, ◌++◌, set, length, get_or, replicate, sym, ap, ◌∙◌, subst, arith}
use Rattle.std.proofs.lemmas.List.{get_or-set_same, get_or-set_other}
use mathlib.Core.Logic.{dite}
use native.Mathlib.Decide.{ℕ_discrete}
use Rattle.mon_board.specs.Versions.{Marks, last}
use Rattle.mon_board.proofs.Steps.{last_from_here, last_from_else, zeros}
use Rattle.mon_pool.specs.Sides.{AreLast}

pub none_yet : (marks : Marks) → marks ≡ [] → AreLast (replicate 64 0) marks
none_yet marks none slot lt = zeros 64 slot ∙ sym (ap (λ (m : Marks). last m slot) none)

pub one_more : (versions : List ℕ) (marks : Marks) (slot version : ℕ) → slot < length versions → AreLast versions marks → AreLast (set versions slot version) (marks ++ (slot, version) ∷ [])
one_more versions marks slot version room are k lt = dite (ℕ_discrete slot k)
    (λ (e : slot ≡ k). subst (λ (j : ℕ). get_or (set versions slot version) j 0 ≡ last (marks ++ (slot, version) ∷ []) j) e
    (get_or-set_same versions slot version 0 room ∙ sym (last_from_here 0 marks slot version)))
    (λ (ne : slot ≢ k). get_or-set_other versions slot k version 0 (λ e. ne (sym e)) ∙ (are k lt ∙ sym (last_from_else 0 marks slot version k ne)))

pub end_more : (versions : List ℕ) (marks : Marks) → AreLast versions marks → AreLast versions (marks ++ (64, 1) ∷ [])
end_more versions marks are k lt = are k lt ∙ sym (last_from_else 0 marks 64 1 k (λ (e : 64 ≡ k). absurd (omega arith)))

-- the slot of the end is no slot of a job
pub end_stays : (marks : Marks) (slot version : ℕ) → slot < 64 → last marks 64 ≤ 1 → last (marks ++ (slot, version) ∷ []) 64 ≤ 1
end_stays marks slot version lt le = subst (λ (n : ℕ). n ≤ 1) (sym (last_from_else 0 marks slot version 64 (λ (e : slot ≡ 64). absurd (omega arith)))) le

pub end_is : (marks : Marks) → last (marks ++ (64, 1) ∷ []) 64 ≤ 1
end_is marks = subst (λ (n : ℕ). n ≤ 1) (sym (last_from_here 0 marks 64 1)) (omega arith)
