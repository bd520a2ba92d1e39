-- An edit goes out in its frame, and what is told of it follows.
use Rattle.std.specs.Prelude.{◌≡◌, ℕ, ◌+◌, Bool, true, false, List, [], ◌∷◌, ◌++◌, Some}
use Rattle.std.proofs.Common.{ap, sym, ◌∙◌, subst}
use Rattle.std.proofs.lemmas.List.{append_assoc}
use Rattle.mon_table.specs.declared.edit.Edit.{Edit}
use Rattle.mon_table.specs.Tables.{tied}
use Rattle.mon_table.specs.Edits.{after, edited}
use Rattle.mon_report.specs.declared.line.What.TheVariants as what
use Rattle.mon_report.specs.declared.line.Line.TheVariants.{Fact}
use Rattle.mon_world.specs.declared.event.Side.{Side}
use Rattle.mon_world.specs.declared.event.Side.TheVariants.{Controller, Switch}
use Rattle.mon_world.specs.declared.event.Note.TheVariants.{Report}
use Rattle.mon_world.specs.declared.event.Out.TheVariants.{Send}
use Rattle.mon_legal.specs.Runs.{Run}
use Rattle.mon_legal.specs.Owns.Own.{Sends, Reports}
use Rattle.mon_legal.specs.Messages.{own_barrier}
use Rattle.mon_legal.specs.Ties.{tie}
use Rattle.mon_legal.specs.Edits.{changes_nothing}
use Rattle.mon_legal.specs.Directly.{Due, on_edit}
use Rattle.mon_session.specs.declared.step.Step.{Step}
use Rattle.mon_session.specs.declared.step.Step.TheVariants as step
use Rattle.mon_session.specs.declared.change.Output.{Output}
use Rattle.mon_session.specs.declared.change.Output.TheVariants.{Plain}
use Rattle.mon_session.specs.Now.{Now, made_if}
use Rattle.mon_session.specs.Walks.{Known, takes, walks, steps_of}
use Rattle.mon_session.specs.UnderWay.{HasItsOld}
use Rattle.mon_session.specs.Outputs.{act_of, dues_of, passing, steps_out, behind_act}
use Rattle.mon_session.specs.Dues.{met}
use Rattle.mon_session.specs.Entries.{with_now, forgotten}
use Rattle.mon_session.proofs.Tying.{tie_behind}

-- an edit is told to overlap, and an own barrier follows
pub overlap_walk : (run : Run) (k l m : Known) (edit : ℕ) (barrier : List ℕ) → barrier ≡ own_barrier → l ≡ takes run k (Reports (Fact k.number edit what.Overlap))
    → m ≡ takes run l (Sends Switch barrier false) → m ≡ walks run k (met (dues_of k.number edit false true))
overlap_walk run k l m edit barrier b e w =
    w ∙ (ap (λ (f : List ℕ). takes run l (Sends Switch f false)) b ∙ ap (λ (x : Known). takes run x (Sends Switch own_barrier false)) e)

pub overlap_steps : (s r edit : ℕ) (barrier : List ℕ) (before mid after : List Step) → r ≡ s → barrier ≡ own_barrier
    → mid ≡ before ++ step.Note (Report (Fact s edit what.Overlap)) ∷ [] → after ≡ mid ++ step.Out (Send r Switch barrier) ∷ []
    → after ≡ before ++ steps_of s (met (dues_of s edit false true))
overlap_steps s r edit barrier before mid after e b m a =
    a ∙ (ap (λ (x : ℕ). mid ++ step.Out (Send x Switch barrier) ∷ []) e
    ∙ (ap (λ (f : List ℕ). mid ++ step.Out (Send s Switch f) ∷ []) b
    ∙ (ap (λ (xs : List Step). xs ++ step.Out (Send s Switch own_barrier) ∷ []) m
    ∙ append_assoc before (step.Note (Report (Fact s edit what.Overlap)) ∷ []) (step.Out (Send s Switch own_barrier) ∷ []))))

-- by what is known of the edit
pub told_walk : (run : Run) (k l : Known) (edit : ℕ) (nothing tie b t : Bool) → nothing ≡ b → tie ≡ t → l ≡ walks run k (met (dues_of k.number edit b t))
    → l ≡ walks run k (met (dues_of k.number edit nothing tie))
told_walk run k l edit nothing tie b t e f w =
    w ∙ (ap (λ (x : Bool). walks run k (met (dues_of k.number edit x t))) (sym e) ∙ ap (λ (x : Bool). walks run k (met (dues_of k.number edit nothing x))) (sym f))

-- what is due of an edit that goes out
pub passed_dues : (s number : ℕ) (n : Now) (x : Edit) (nothing tie : Bool) → HasItsOld x → nothing ≡ changes_nothing x → tie ≡ tied n.table (edited x) → number ≡ n.count + 1
    → dues_of s number nothing tie ≡ on_edit s (n.count + 1) (made_if (Some x) n.table) (Some x)
passed_dues s number n x nothing tied h e f k =
    ap (λ (b : Bool). dues_of s number b tied) e
    ∙ (ap (λ (b : Bool). dues_of s number (changes_nothing x) b) (f ∙ sym (tie_behind n.table x h))
    ∙ ap (λ (c : ℕ). dues_of s c (changes_nothing x) (tie (after n.table x) x)) k)

pub edit_walk : (run : Run) (k l m : Known) (number : ℕ) (frame : List ℕ) (x : Edit) (nothing tie : Bool)
    → dues_of k.number number nothing tie ≡ on_edit k.number (k.now.count + 1) (made_if (Some x) k.now.table) (Some x)
    → l ≡ takes run (with_now k (record k.now { out = Some x })) (Sends Switch frame false) → m ≡ walks run l (met (dues_of l.number number nothing tie))
    → m ≡ walks run (with_now k (record k.now { out = Some x })) (passing k.number k.now frame x)
edit_walk run k l m number frame x nothing tie d w v =
    v ∙ (ap (λ (y : Known). walks run y (met (dues_of y.number number nothing tie))) w
    ∙ ap (λ (ds : List Due). walks run (takes run (with_now k (record k.now { out = Some x })) (Sends Switch frame false)) (met ds)) d)

pub edit_steps : (s r number : ℕ) (n : Now) (frame : List ℕ) (x : Edit) (nothing tie : Bool) (before mid after : List Step) → r ≡ s
    → dues_of s number nothing tie ≡ on_edit s (n.count + 1) (made_if (Some x) n.table) (Some x)
    → mid ≡ before ++ step.Out (Send s Switch frame) ∷ [] → after ≡ mid ++ steps_of r (met (dues_of r number nothing tie))
    → after ≡ before ++ steps_of s (passing s n frame x)
edit_steps s r number n frame x nothing tie before mid after e d m a =
    a ∙ (ap (λ (q : ℕ). mid ++ steps_of q (met (dues_of q number nothing tie))) e
    ∙ (ap (λ (ds : List Due). mid ++ steps_of s (met ds)) d
    ∙ (ap (λ (xs : List Step). xs ++ steps_of s (met (on_edit s (n.count + 1) (made_if (Some x) n.table) (Some x)))) m
    ∙ append_assoc before (step.Out (Send s Switch frame) ∷ []) (steps_of s (met (on_edit s (n.count + 1) (made_if (Some x) n.table) (Some x)))))))

-- a frame goes out that is no edit's
pub plain_walk : (run : Run) (k l m : Known) (o : Output) (to : Side) (frame : List ℕ) → o ≡ Plain to frame → l ≡ with_now k (forgotten k.now)
    → m ≡ takes run l (Sends to frame false) → m ≡ walks run (with_now k (steps_out (act_of o) k.now)) (behind_act k.number k.now o)
plain_walk run k l m o Controller frame e f w =
    subst (λ (q : Output). m ≡ walks run (with_now k (steps_out (act_of q) k.now)) (behind_act k.number k.now q)) (sym e)
    (w ∙ ap (λ (x : Known). takes run x (Sends Controller frame false)) f)
plain_walk run k l m o Switch frame e f w =
    subst (λ (q : Output). m ≡ walks run (with_now k (steps_out (act_of q) k.now)) (behind_act k.number k.now q)) (sym e)
    (w ∙ ap (λ (x : Known). takes run x (Sends Switch frame false)) f)
