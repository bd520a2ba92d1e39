-- The closing of a stand-in: its frame and its report follow the step at once.
use Rattle.std.proofs.Common.{◌≡◌, ℕ, ◌+◌, Bool, true, false, cond, not, ◌&&◌, List, [], ◌∷◌, ◌++◌, drop, Option, Some, None, refl, sym, subst, ◌∙◌, inl, inr}
use Rattle.std.specs.Prelude.{◌⊎◌}
use Rattle.std.specs.List.{AllByRecursion}
use Rattle.std.proofs.lemmas.Bool.{false≢true}
use Rattle.std.proofs.lemmas.List.{append-nil}
use Rattle.mon_table.specs.declared.rule.Rule.{Rule}
use Rattle.mon_table.specs.declared.edit.Edit.{Edit}
use Rattle.mon_report.specs.declared.line.What.TheVariants as what
use Rattle.mon_world.specs.declared.event.Side.TheVariants.{Controller, Switch}
use Rattle.mon_legal.specs.Ties.{tie}
use Rattle.mon_legal.specs.Runs.{Run}
use Rattle.mon_legal.specs.Changing.{drop_if}
use Rattle.mon_legal.specs.Owns.{Own, Act}
use Rattle.mon_legal.specs.Owns.Own.{Begins, From_controller, From_switch, Breaks, Closes, Ticks, Returns, Judged, Neighbour, Acts, Offers, Probes, Goes_out, Sends, Carries, Reports, Ends}
use Rattle.mon_legal.specs.Owns.Act.{Closing, Reply, Plan, Step}
use Rattle.mon_legal.specs.Messages.{own_barrier}
use Rattle.mon_legal.specs.Barriers.{edit_out, is_edit, count}
use Rattle.mon_legal.specs.Datapaths.{catching}
use Rattle.mon_legal.specs.Edits.{expected, changes_nothing}
use Rattle.mon_legal.specs.Directly.{Due, owed, owes, on_edit, on_act, fact, is_closing, is_output}
use Rattle.mon_legal.specs.Directly.Due.{Frame}
use Rattle.mon_legal.specs.Ordering.{first_due}
use Rattle.mon_legal.proofs.Fitting.{AllFit}
use Rattle.mon_turns.proofs.Dues.{empty-of}
use Rattle.mon_turns.proofs.Leads.{Sort, sort_of, leads_to, AllFrom, leads}

-- what is told of a closing -----------------------------------------------------------------

abbrev pub is_told : Sort → Bool
is_told Sort.Was_closing = true
is_told x = false

abbrev pub first_told : List Due → Bool
first_told [] = false
first_told (d ∷ dues) = is_told (sort_of d)

abbrev pub NoneTold : List Due → Type 0
NoneTold dues = AllByRecursion (λ d. is_told (sort_of d) ≡ false) dues

none-append : (xs ys : List Due) → NoneTold xs → NoneTold ys → NoneTold (xs ++ ys)
none-append [] ys a b = b
none-append (x ∷ xs) ys a b = (a.0, none-append xs ys a.1 b)

pub none-drop : (dues : List Due) → NoneTold dues → NoneTold (drop 1 dues)
none-drop [] a = tt
none-drop (d ∷ dues) a = a.1

pub none-first : (dues : List Due) → NoneTold dues → first_told dues ≡ false
none-first [] a = refl
none-first (d ∷ dues) a = a.0

-- an entry that is no step leads to none
not-told : (test : Sort → Bool) (x : Sort) → test Sort.Was_closing ≡ false → test x ≡ true → is_told x ≡ false
not-told test Sort.Was_closing n e = absurd (false≢true (sym n ∙ e))
not-told test Sort.Frames n e = refl
not-told test Sort.Probes_out n e = refl
not-told test Sort.Notes n e = refl
not-told test Sort.Ends_now n e = refl
not-told test Sort.Armed n e = refl
not-told test Sort.Closed n e = refl
not-told test Sort.Confirmed n e = refl
not-told test Sort.Of_passing n e = refl
not-told test Sort.Indistinguishable n e = refl
not-told test Sort.Settled n e = refl
not-told test Sort.Rejected n e = refl
not-told test Sort.Silent n e = refl
not-told test Sort.Seen n e = refl
not-told test Sort.Unwatchable n e = refl
not-told test Sort.Missing n e = refl

all-untold : (test : Sort → Bool) (dues : List Due) → test Sort.Was_closing ≡ false → AllFrom test dues → NoneTold dues
all-untold test [] n a = tt
all-untold test (d ∷ dues) n a = (not-told test (sort_of d) n a.0, all-untold test dues n a.1)

pub untold : (run : Run) (s : ℕ) (o : Own) (before : List Own) → leads_to o Sort.Was_closing ≡ false → NoneTold (owes run s (owed run s before) before o)
untold run s o before n = all-untold (leads_to o) (owes run s (owed run s before) before o) n (leads run s (owed run s before) before o)

-- the frame of an edit leaves nothing else due --------------------------------------------------

abbrev passes : List Own → Bool
passes before = is_edit before && not (is_closing before)

pub edit-alone : (run : Run) (s : ℕ) (before : List Own) → AllFit run s before → passes before ≡ true → drop 1 (owed run s before) ≡ []
edit-alone run s (Acts (Step Switch frame (Some change)) ∷ before) fit e = empty-of (owed run s before) fit.0.2
edit-alone run s (Acts (Step Switch frame None) ∷ before) fit e = absurd (false≢true e)
edit-alone run s (Acts (Step Controller frame change) ∷ before) fit e = absurd (false≢true e)
edit-alone run s (Acts (Closing k close) ∷ before) fit e = absurd (false≢true e)
edit-alone run s (Acts (Reply frame) ∷ before) fit e = absurd (false≢true e)
edit-alone run s (Acts (Plan frame) ∷ before) fit e = absurd (false≢true e)
edit-alone run s [] fit e = absurd (false≢true e)
edit-alone run s (o ∷ before) fit e = absurd (false≢true e)

edit-untold : (s k : ℕ) (t : List Rule) (o : Option Edit) → NoneTold (on_edit s k t o)
edit-untold s k t None = tt
edit-untold s k t (Some x) =
    elim (changes_nothing x) as (λ b. NoneTold (cond b (fact s k what.NoChange ∷ []) (cond (tie t x) (fact s k what.Overlap ∷ Frame Switch own_barrier ∷ []) []))) [
      | true ↦ (refl, tt)
      | false ↦ elim (tie t x) as (λ b. NoneTold (cond b (fact s k what.Overlap ∷ Frame Switch own_barrier ∷ []) [])) [
        | true ↦ (refl, (refl, tt))
        | false ↦ tt
      ]
    ]

-- what a frame to the switch leaves due is what was due behind it, or of an edit alone
pub sends-leaves : (run : Run) (s : ℕ) (frame : List ℕ) (lost : Bool) (before : List Own) → AllFit run s before
    → (owed run s (Sends Switch frame lost ∷ before) ≡ drop 1 (owed run s before)) ⊎ NoneTold (owed run s (Sends Switch frame lost ∷ before))
sends-leaves run s frame lost before fit =
    let k = count before + 1 in
    let t = expected (catching run before) (Sends Switch frame lost ∷ before) in
    elim (passes before) as (λ b. passes before ≡ b → (cond b (on_edit s k t (edit_out before)) [] ++ drop 1 (owed run s before) ≡ drop 1 (owed run s before))
    ⊎ NoneTold (cond b (on_edit s k t (edit_out before)) [] ++ drop 1 (owed run s before))) [
      | false ↦ λ n. inl refl
      | true ↦ λ y.
          inr (subst (λ (rest : List Due). NoneTold (on_edit s k t (edit_out before) ++ rest)) (sym (edit-alone run s before fit y))
          (subst NoneTold (sym (append-nil (on_edit s k t (edit_out before)))) (edit-untold s k t (edit_out before))))
    ] refl

-- at most the second of what is due tells of a closing -----------------------------------------------

drop-two : (dues : List Due) → NoneTold (drop 2 dues) → NoneTold (drop 2 (drop 1 dues))
drop-two [] a = tt
drop-two (x ∷ []) a = tt
drop-two (x ∷ y ∷ dues) a = none-drop dues a

-- with one more in place of the first
pub drop-drop : (dues : List Due) → NoneTold (drop 2 dues) → NoneTold (drop 1 (drop 1 dues))
drop-drop [] a = tt
drop-drop (x ∷ []) a = tt
drop-drop (x ∷ y ∷ dues) a = a

none-two : (dues : List Due) → NoneTold dues → NoneTold (drop 2 dues)
none-two [] a = tt
none-two (x ∷ []) a = tt
none-two (x ∷ y ∷ dues) a = a.1.1

sends-late : (run : Run) (s : ℕ) (frame : List ℕ) (lost : Bool) (before : List Own) → NoneTold (drop 2 (owed run s before))
    → (owed run s (Sends Switch frame lost ∷ before) ≡ drop 1 (owed run s before)) ⊎ NoneTold (owed run s (Sends Switch frame lost ∷ before))
    → NoneTold (drop 2 (owed run s (Sends Switch frame lost ∷ before)))
sends-late run s frame lost before a (inl e) = subst (λ (ds : List Due). NoneTold (drop 2 ds)) (sym e) (drop-two (owed run s before) a)
sends-late run s frame lost before a (inr n) = none-two (owed run s (Sends Switch frame lost ∷ before)) n

act-late : (s : ℕ) (before : List Own) (act : Act) (dues : List Due) → dues ≡ [] → NoneTold (drop 2 (on_act s before act ++ dues))
act-late s before (Closing k close) dues e = subst (λ (ds : List Due). NoneTold (Frame Switch own_barrier ∷ ds)) (sym e) (refl, tt)
act-late s before (Reply frame) dues e = subst (λ (ds : List Due). NoneTold (drop 1 ds)) (sym e) tt
act-late s before (Plan frame) dues e = subst (λ (ds : List Due). NoneTold (drop 2 ds)) (sym e) tt
act-late s before (Step to frame change) dues e = subst (λ (ds : List Due). NoneTold (drop 1 ds)) (sym e) tt

pub quiet-untold : (run : Run) (s : ℕ) (o : Own) (before : List Own) → leads_to o Sort.Was_closing ≡ false → first_due (owed run s before) ≡ None → is_output o ≡ false
    → NoneTold (owed run s (o ∷ before))
quiet-untold run s o before n q e =
    subst (λ (b : Bool). NoneTold (owes run s (owed run s before) before o ++ drop_if b (owed run s before))) (sym e)
    (none-append (owes run s (owed run s before) before o) (owed run s before) (untold run s o before n) (subst NoneTold (sym (empty-of (owed run s before) q)) tt))

quiet-late : (run : Run) (s : ℕ) (o : Own) (before : List Own) → leads_to o Sort.Was_closing ≡ false → first_due (owed run s before) ≡ None → is_output o ≡ false
    → NoneTold (drop 2 (owed run s (o ∷ before)))
quiet-late run s o before n q e = none-two (owed run s (o ∷ before)) (quiet-untold run s o before n q e)

pub late-untold : (run : Run) (s : ℕ) (seen : List Own) → AllFit run s seen → NoneTold (drop 2 (owed run s seen))
late-untold run s [] fit = tt
late-untold run s (Sends Controller frame lost ∷ before) fit = drop-two (owed run s before) (late-untold run s before fit.1)
late-untold run s (Sends Switch frame lost ∷ before) fit = sends-late run s frame lost before (late-untold run s before fit.1) (sends-leaves run s frame lost before fit.1)
late-untold run s (Goes_out serial near frame ∷ before) fit = drop-two (owed run s before) (late-untold run s before fit.1)
late-untold run s (Reports l ∷ before) fit = drop-two (owed run s before) (late-untold run s before fit.1)
late-untold run s (Probes serial k version x shows ∷ before) fit = drop-drop (owed run s before) (late-untold run s before fit.1)
late-untold run s (Ends ∷ before) fit = drop-drop (owed run s before) (late-untold run s before fit.1)
late-untold run s (Carries lost ∷ before) fit = late-untold run s before fit.1
late-untold run s (Neighbour ∷ before) fit = late-untold run s before fit.1
late-untold run s (Acts act ∷ before) fit = act-late s before act (owed run s before) (empty-of (owed run s before) fit.0.2)
late-untold run s (Begins slot ∷ before) fit = quiet-late run s (Begins slot) before refl fit.0 refl
late-untold run s (From_controller frame ∷ before) fit = quiet-late run s (From_controller frame) before refl fit.0 refl
late-untold run s (From_switch frame others ∷ before) fit = quiet-late run s (From_switch frame others) before refl fit.0 refl
late-untold run s (Breaks fault ∷ before) fit = quiet-late run s (Breaks fault) before refl fit.0 refl
late-untold run s (Closes ∷ before) fit = quiet-late run s Closes before refl fit.0 refl
late-untold run s (Ticks version ∷ before) fit = quiet-late run s (Ticks version) before refl fit.0 refl
late-untold run s (Returns serial seen ∷ before) fit = quiet-late run s (Returns serial seen) before refl fit.0 refl
late-untold run s (Judged job k kind fresh ∷ before) fit = quiet-late run s (Judged job k kind fresh) before refl fit.0 refl
late-untold run s (Offers job k ∷ before) fit = quiet-late run s (Offers job k) before refl fit.0 refl
