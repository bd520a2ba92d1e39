-- What was seen of the slots of jobs, as more is seen.
use Rattle.std.proofs.Common.{◌≡◌, ℕ, ◌<◌, ◌==◌, List, [], ◌∷◌, ◌++◌, Bool, true, false, if◌then◌else◌, refl, sym, subst, ap, ◌∙◌, Some, append_assoc, append-nil, arith}
use Rattle.std.proofs.lemmas.Bool.Decides.{nat_tests}
use Rattle.std.proofs.lemmas.List.{map-append}
use Rattle.mon_board.specs.Versions.{Marks, Has}
use Rattle.mon_board.proofs.Steps.{has_right, has_here, and_both, and_first, and_second}
use Rattle.mon_job.specs.Jobs.{Task}
use Rattle.mon_job.specs.Verdicts.{Ruling}
use Rattle.mon_solve.specs.Answers.{seen_in}
use Rattle.mon_pool.specs.Marks.{of_jobs, shows, marks_of, all_shown}
use Rattle.mon_pool.specs.Plain.{jobs_of, job_of}

keep_test : (b : Bool) (m : ℕ × ℕ) (ms ns rest : Marks) → ns ≡ ms ++ rest → (if b then ns else m ∷ ns) ≡ (if b then ms else m ∷ ms) ++ rest
keep_test true m ms ns rest e = e
keep_test false m ms ns rest e = ap (λ l. m ∷ l) e

pub of_jobs-append : (xs ys : Marks) → of_jobs (xs ++ ys) ≡ of_jobs xs ++ of_jobs ys
of_jobs-append [] ys = refl
of_jobs-append (m ∷ ms) ys = keep_test (m.0 == 64) m (of_jobs ms) (of_jobs (ms ++ ys)) (of_jobs ys) (of_jobs-append ms ys)

job_slot : (slot : ℕ) → slot < 64 → (slot == 64) ≡ false
job_slot slot lt = grind (arith, nat_tests)

one_of_jobs : (slot n : ℕ) → slot < 64 → of_jobs ((slot, n) ∷ []) ≡ (slot, n) ∷ []
one_of_jobs slot n lt = ap (λ (b : Bool). if b then [] else (slot, n) ∷ []) (job_slot slot lt)

-- one more look at the slot of a job
pub jobs_snoc : (marks old : Marks) (slot n : ℕ) → marks ≡ old ++ (slot, n) ∷ [] → slot < 64 → of_jobs old ≡ old → of_jobs marks ≡ marks
jobs_snoc marks old slot n is lt all =
    subst (λ (m : Marks). of_jobs m ≡ m) (sym is)
    (of_jobs-append old ((slot, n) ∷ []) ∙ (ap (λ l. l ++ of_jobs ((slot, n) ∷ [])) all ∙ ap (λ l. old ++ l) (one_of_jobs slot n lt)))

-- one more look for the end
pub end_snoc : (marks old : Marks) (n : ℕ) → marks ≡ old ++ (64, n) ∷ [] → of_jobs marks ≡ of_jobs old
end_snoc marks old n is = ap of_jobs is ∙ (of_jobs-append old ((64, n) ∷ []) ∙ append-nil (of_jobs old))

-- what was seen while one more job was decided
pub jobs_more : (marks old more : Marks) → marks ≡ old ++ more → of_jobs more ≡ more → of_jobs marks ≡ of_jobs old ++ more
jobs_more marks old more is all = ap of_jobs is ∙ (of_jobs-append old more ∙ ap (λ l. of_jobs old ++ l) all)

pub shows_new : (marks old : Marks) (slot n : ℕ) → marks ≡ old ++ (slot, n) ∷ [] → shows marks slot (Some n) ≡ true
shows_new marks old slot n is = subst (λ (m : Marks). Has m slot n) (sym is) (has_right old ((slot, n) ∷ []) slot n (has_here (slot, n) [] slot n refl refl))

pub saw_end : (marks old : Marks) (n : ℕ) → marks ≡ old ++ (64, n) ∷ [] → n ≡ 1 → Has marks 64 1
saw_end marks old n is one = subst (λ (m : Marks). Has m 64 1) (sym is) (has_right old ((64, n) ∷ []) 64 1 (has_here (64, n) [] 64 1 refl one))

pub marks_of-snoc : (ts : List (Ruling × Marks)) (t : Ruling × Marks) → marks_of (ts ++ t ∷ []) ≡ marks_of ts ++ t.1
marks_of-snoc [] t = append-nil t.1
marks_of-snoc (u ∷ us) t = ap (λ l. u.1 ++ l) (marks_of-snoc us t) ∙ sym (append_assoc u.1 (marks_of us) t.1)

pub all_shown-snoc : (ts : List (Ruling × Marks)) (t : Ruling × Marks) → all_shown ts ≡ true → shows t.1 t.0.job.slot (seen_in t.0.says) ≡ true → all_shown (ts ++ t ∷ []) ≡ true
all_shown-snoc [] t h last = and_both (shows t.1 t.0.job.slot (seen_in t.0.says)) true last refl
all_shown-snoc (u ∷ us) t h last =
    let here : Bool = shows u.1 u.0.job.slot (seen_in u.0.says) in
    and_both here (all_shown (us ++ t ∷ [])) (and_first here (all_shown us) h) (all_shown-snoc us t (and_second here (all_shown us) h) last)

-- one more was taken, and one more answered
pub tied_snoc : (put : List (Ruling × Marks)) (taken : List Task) (t : Ruling × Marks) (x : Task) → jobs_of put ≡ taken → t.0.job ≡ x → jobs_of (put ++ t ∷ []) ≡ taken ++ x ∷ []
tied_snoc put taken t x tied same = map-append job_of put (t ∷ []) ∙ (ap (λ l. l ++ t.0.job ∷ []) tied ∙ ap (λ y. taken ++ y ∷ []) same)

-- the marks of one more answer
pub saw_snoc : (marks old : Marks) (put : List (Ruling × Marks)) (t : Ruling × Marks) → marks ≡ old ++ t.1 → of_jobs t.1 ≡ t.1 → of_jobs old ≡ marks_of put → of_jobs marks ≡ marks_of (put ++ t ∷ [])
saw_snoc marks old put t is all saw = jobs_more marks old t.1 is all ∙ (ap (λ l. l ++ t.1) saw ∙ sym (marks_of-snoc put t))
