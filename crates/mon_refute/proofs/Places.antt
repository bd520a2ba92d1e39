-- Which clause a hint names.
use Rattle.std.proofs.Common.{◌≡◌, ℕ, ◌+◌, ◌-◌, ◌<◌, ◌≤◌, refl, sym, ap, ◌∙◌, subst, List, [], ◌∷◌, ◌++◌, length, get_or, Some, None, arith, zero, suc, length-append}
use Rattle.std.specs.Prelude.{◌==◌}
use Rattle.std.proofs.lemmas.Option.{slice_get-get_or, slice_get_past}
use Rattle.std.proofs.lemmas.List.{get_or-append-add}
use Rattle.std.proofs.lemmas.Bool.{ne_eqb, cond-false}
use Rattle.mon_cnf.specs.declared.clause.Lit.{Lit}
use Rattle.mon_cnf.specs.Truth.{Within, WithinAll}
use Rattle.mon_refute.specs.declared.lines.LogLine.{LogLine}
use Rattle.mon_refute.specs.Follow.{named, literals_of}
use Rattle.mon_refute.proofs.Growing.{length_lines}

pub named_at : (cs : List (List Lit)) (h : ℕ) (d : List Lit) → 0 < h → h - 1 < length cs → named cs h ≡ Some (get_or cs (h - 1) d)
named_at cs h d p l = cond-false (h == 0) None _ (ne_eqb h 0 (λ e. omega arith)) ∙ slice_get-get_or cs (h - 1) d l

pub named_past : (cs : List (List Lit)) (h : ℕ) → 0 < h → length cs ≤ h - 1 → named cs h ≡ None
named_past cs h p l = cond-false (h == 0) None _ (ne_eqb h 0 (λ e. omega arith)) ∙ slice_get_past cs (h - 1) l

literals_at : (log : List LogLine) (k : ℕ) (d : LogLine) (e : List Lit) → k < length log → get_or (literals_of log) k e ≡ (get_or log k d).literals
literals_at [] k d e w = absurd (omega arith)
literals_at (m ∷ ms) zero d e w = refl
literals_at (m ∷ ms) (suc k) d e w = literals_at ms k d e (omega arith)

pub named_later : (cs : List (List Lit)) (log : List LogLine) (h : ℕ) (d : LogLine) (c : List Lit) → 0 < h → length cs ≤ h - 1 → h - 1 - length cs < length log
    → c ≡ (get_or log (h - 1 - length cs) d).literals → named (cs ++ literals_of log) h ≡ Some c
named_later cs log h d c p q w e =
    let k = h - 1 - length cs in
    let x : h - 1 ≡ length cs + k = omega arith in
    named_at (cs ++ literals_of log) h [] p (omega (arith, length-append cs (literals_of log), length_lines log))
    ∙ ap Some (ap (λ n. get_or (cs ++ literals_of log) n []) x ∙ get_or-append-add cs (literals_of log) k [] ∙ literals_at log k d [] w ∙ sym e)

pub named_beyond : (cs : List (List Lit)) (log : List LogLine) (h : ℕ) → 0 < h → length cs + length log ≤ h - 1 → named (cs ++ literals_of log) h ≡ None
named_beyond cs log h p w = named_past (cs ++ literals_of log) h p (omega (arith, length-append cs (literals_of log), length_lines log))

pub within_front : (n : ℕ) (cs ds : List (List Lit)) → WithinAll n (cs ++ ds) → WithinAll n ds
within_front n [] ds w = w
within_front n (c ∷ cs) ds w = within_front n cs ds w.1

pub within_later : (n : ℕ) (log : List LogLine) (k : ℕ) (d : LogLine) (c : List Lit) → WithinAll n (literals_of log) → k < length log → c ≡ (get_or log k d).literals → Within n c
within_later n [] k d c a w e = absurd (omega arith)
within_later n (m ∷ ms) zero d c a w e = subst (Within n) (sym e) a.0
within_later n (m ∷ ms) (suc k) d c a w e = within_later n ms k d c a.1 (omega arith) e
