-- What is found in the cases of a job so far.
use Rattle.std.proofs.Common.{◌≡◌, ◌≢◌, ℕ, ◌+◌, ◌<◌, ◌≤◌, Bool, true, false, ◌&&◌, refl, sym, ap, ◌∙◌, subst, List, [], ◌∷◌, ◌++◌, length, take, drop, get_or, suc, arith, Option, Some, None, option_map}
use Rattle.std.specs.Prelude.{All, min}
use Rattle.std.specs.Bool.{OnTrue}
use Rattle.std.proofs.lemmas.List.{take_all, take_more, at_drop_more}
use Rattle.std.proofs.lemmas.List.Elements.{All-more, All-contains}
use Rattle.mon_header.specs.declared.header.Header.{Header}
use Rattle.mon_outcome.specs.declared.emission.Emission.{Emission}
use Rattle.mon_refute.specs.declared.lines.LogLine.{LogLine}
use Rattle.mon_shows.specs.Separation.{separates}
use Rattle.mon_job.specs.Jobs.{Task}
use Rattle.mon_encode.specs.declared.case.Case.{Case}
use Rattle.mon_encode.specs.Cases.{cases_of, IsCaseOf, BelongsTo}
use Rattle.mon_solve.specs.Answers.{HasNone, IsFound, AskedAtLeast, counted}
use Rattle.mon_solve.specs.declared.found.Found.{Found}
use Rattle.mon_solve.specs.declared.found.Found.TheVariants as found
use Rattle.mon_solve.specs.Accepting.{is_refuted, are_refuted, NothingSeparates}
use Rattle.std.proofs.lemmas.Bool.{and_parts, and_from}

-- each header and emission that separate belong to a case
abbrev pub AllBelong : Task → Type 0
AllBelong j = (h : Header) (e : Emission) → separates j.view j.table j.target h e ≡ true → (c : Case) × IsCaseOf j c × BelongsTo j c h e

by_truth : (b : Bool) → (b ≡ true → b ≡ false) → b ≡ false
by_truth true f = f refl
by_truth false f = refl

pub nothing_separates : (j : Task) → AllBelong j → All (HasNone j) (cases_of j) → NothingSeparates j
nothing_separates j belong none h e = by_truth _ (λ s. let b = belong h e s in All-contains (HasNone j) (cases_of j) b.0 none b.1 h e b.2)

-- the cases before the end are all cases
pub all_none : (j : Task) (cases : List Case) (i : ℕ) → cases ≡ cases_of j → length cases ≤ i → All (HasNone j) (take i cases) → All (HasNone j) (cases_of j)
all_none j cases i e l none = subst (λ cs. All (HasNone j) cs) (take_all i cases l ∙ e) none

pub none_more : (j : Task) (cases : List Case) (i : ℕ) (d : Case) → i < length cases → All (HasNone j) (take i cases) → HasNone j (get_or cases i d)
    → All (HasNone j) (take (i + 1) cases)
none_more j cases i d l none one = All-more (HasNone j) cases i d l none one

-- what was found in a case is no probe
pub nothing_found : (j : Task) (c : Case) (f : Found) (log : List LogLine) → f ≡ found.Nothing log → IsFound j c f → HasNone j c
nothing_found j c f log e i = let is : IsFound j c (found.Nothing log) = subst (IsFound j c) e i in is.1

pub none_if : (j : Task) (c : Case) (b : Bool) → b ≡ true → OnTrue b (HasNone j c) → HasNone j c
none_if j c true e h = h
none_if j c false e h = cc

pub none_given : (o : Option ℕ) → ((n : ℕ) → o ≡ Some n → ⊥) → o ≡ None
none_given None f = refl
none_given (Some n) f = absurd (f n refl)

-- one ask more
more : (least b n last : ℕ) → min (b + least) last ≤ n → min (b + (least + 1)) last ≤ min (n + 1) last
more least b n last a = omega (arith, a)

pub asked_more : (least : ℕ) (before now next : Option ℕ) → AskedAtLeast least before now → next ≡ option_map (λ n. counted (n + 1)) now → AskedAtLeast (least + 1) before next
asked_more least None now next a e = tt
asked_more least (Some b) None next a e = absurd a
asked_more least (Some b) (Some n) next a e = subst (λ o. AskedAtLeast (least + 1) (Some b) o) (sym e) (more least b n _ a)

-- logs that refute cases, read from the front

pub next_refuted : (j : Task) (cases : List Case) (logs : List (List LogLine)) (i : ℕ) (d : Case) (l : List LogLine) → i < length cases → i < length logs
    → are_refuted j (drop i cases) (drop i logs) ≡ (is_refuted j (get_or cases i d) (get_or logs i l) && are_refuted j (drop (i + 1) cases) (drop (i + 1) logs))
next_refuted j cases logs i d l a b =
    at_drop_more (λ cs. are_refuted j cs (drop i logs)) cases i d a
    ∙ at_drop_more (λ ls. are_refuted j (get_or cases i d ∷ drop (i + 1) cases) ls) logs i l b

-- a log refutes its case
pub step_refuted : (j : Task) (cases : List Case) (logs : List (List LogLine)) (i : ℕ) (d : Case) (log : List LogLine) (whole : Bool) → i < length cases → i < length logs
    → log ≡ get_or logs i log → true ≡ is_refuted j (get_or cases i d) log → are_refuted j (drop i cases) (drop i logs) ≡ whole
    → are_refuted j (drop (i + 1) cases) (drop (i + 1) logs) ≡ whole
step_refuted j cases logs i d log whole a b is r e =
    ap (λ t. t && are_refuted j (drop (i + 1) cases) (drop (i + 1) logs)) (r ∙ ap (is_refuted j (get_or cases i d)) is)
    ∙ sym (next_refuted j cases logs i d log a b) ∙ e

pub too_few : (j : Task) (cases : List Case) (logs : List (List LogLine)) → length cases ≢ length logs → are_refuted j cases logs ≡ false
too_few j [] [] h = absurd (h refl)
too_few j [] (x ∷ xs) h = refl
too_few j (c ∷ cs) [] h = refl
too_few j (c ∷ cs) (x ∷ xs) h = ap (λ b. is_refuted j c x && b) (too_few j cs xs (λ e. h (ap (λ n. suc n) e))) ∙ never _
  where
    never : (b : Bool) → (b && false) ≡ false
    never true = refl
    never false = refl

pub more_refuted : (j : Task) (cases : List Case) (logs : List (List LogLine)) (c : Case) (log : List LogLine)
    → are_refuted j cases logs ≡ true → is_refuted j c log ≡ true → are_refuted j (cases ++ c ∷ []) (logs ++ log ∷ []) ≡ true
more_refuted j [] [] c log e f = ap (λ b. b && true) f
more_refuted j [] (x ∷ xs) c log e f = cc
more_refuted j (x ∷ xs) [] c log e f = cc
more_refuted j (x ∷ xs) (y ∷ ys) c log e f =
    let p = and_parts _ _ e in and_from _ _ p.0 (more_refuted j xs ys c log p.1 f)

-- a case more is refuted
pub refuted_more : (j : Task) (cases : List Case) (logs more : List (List LogLine)) (i : ℕ) (d : Case) (f : Found) (log : List LogLine) → i < length cases
    → are_refuted j (take i cases) logs ≡ true → f ≡ found.Nothing log → IsFound j (get_or cases i d) f → more ≡ logs ++ log ∷ []
    → are_refuted j (take (i + 1) cases) more ≡ true
refuted_more j cases logs more i d f log l e g h p =
    let is : IsFound j (get_or cases i d) (found.Nothing log) = subst (IsFound j (get_or cases i d)) g h in
    ap (λ cs. are_refuted j cs more) (take_more cases i d l)
    ∙ ap (are_refuted j (take i cases ++ get_or cases i d ∷ [])) p
    ∙ more_refuted j (take i cases) logs (get_or cases i d) log e is.0
