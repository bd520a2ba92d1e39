-- What the frames of a session let it do.
use Rattle.std.specs.Prelude.{◌≡◌, ℕ, Bool, true, false, if◌then◌else◌, List, [], ◌∷◌, drop, slice_get, Option, Some, None, is_some, refl}
use Rattle.std.proofs.Common.{ap, sym, ◌∙◌}
use Rattle.std.proofs.lemmas.Bool.{false≢true}
use Rattle.mon_world.specs.declared.event.Side.TheVariants.{Controller, Switch}
use Rattle.mon_legal.specs.Runs.{Run}
use Rattle.mon_legal.specs.Owns.{Act}
use Rattle.mon_legal.specs.Owns.Act.{Plan}
use Rattle.mon_legal.specs.Edits.{cuts}
use Rattle.mon_legal.specs.Held.{Part, is_empty, awaited, may_if, planned_if, due_reply, or_else}
use Rattle.mon_session.specs.declared.change.Output.{Output}
use Rattle.mon_session.specs.declared.change.Output.TheVariants.{Plain, Edited}
use Rattle.mon_session.specs.Now.{Now}
use Rattle.mon_session.specs.Walks.{Known, walks, steps_of}
use Rattle.mon_session.specs.Ordered.{Ordering, awaited_in, output_of, planned_over}
use Rattle.mon_session.specs.Entries.{with_now}
use Rattle.mon_session.specs.Outputs.{act_of, act_if, steps_out, behind_act}
use Rattle.mon_session.specs.Acting.{due_in, frames_due, entries_of, entries_if, plans}

due-parts : (n : Now) (parts : List Part) → n.under_way ≡ parts → is_empty parts ≡ false
    → frames_due n ≡ (if may_if (awaited_in parts) n.unsettled then output_of parts else None)
due-parts n [] e some = absurd (false≢true (sym some))
due-parts n (part ∷ later) e some = rw e refl

pub due_some : (n : Now) → is_empty n.under_way ≡ false → may_if (awaited_in n.under_way) n.unsettled ≡ true → frames_due n ≡ output_of n.under_way
due_some n some free = due-parts n n.under_way refl some ∙ rw free refl

pub due_none : (n : Now) → is_empty n.under_way ≡ false → may_if (awaited_in n.under_way) n.unsettled ≡ false → frames_due n ≡ None
due_none n some free = due-parts n n.under_way refl some ∙ rw free refl

went : (run : Run) (k : Known) (o : Output)
    → walks run (with_now k (steps_out (act_of o) (record k.now { under_way = drop 1 k.now.under_way }))) (behind_act k.number (record k.now { under_way = drop 1 k.now.under_way }) o)
    ≡ walks run k (entries_of k.number k.now (act_of o))
went run k (Plain Controller frame) = refl
went run k (Plain Switch frame) = refl
went run k (Edited frame x) = refl

pub went_on : (run : Run) (k : Known) (o : Output) → frames_due k.now ≡ act_if (Some o)
    → walks run (with_now k (steps_out (act_of o) (record k.now { under_way = drop 1 k.now.under_way }))) (behind_act k.number (record k.now { under_way = drop 1 k.now.under_way }) o)
    ≡ walks run k (entries_if k.number k.now (frames_due k.now))
went_on run k o e = went run k o ∙ ap (λ (due : Option Act). walks run k (entries_if k.number k.now due)) (sym e)

pub went_at : (run : Run) (k view m : Known) (left : Ordering) (o : Output) → view ≡ k
    → left ≡ record { waiting = view.now.waiting; parts = drop 1 view.now.under_way; planned = view.now.planned } → frames_due k.now ≡ act_if (Some o)
    → m ≡ walks run (with_now view (steps_out (act_of o) (record view.now { waiting = left.waiting; under_way = left.parts; planned = left.planned })))
    (behind_act view.number (record view.now { waiting = left.waiting; under_way = left.parts; planned = left.planned }) o)
    → m ≡ walks run k (entries_if k.number k.now (frames_due k.now))
went_at run k view m left o p e due w =
    w ∙ (ap (λ (q : Ordering). walks run (with_now view (steps_out (act_of o) (record view.now { waiting = q.waiting; under_way = q.parts; planned = q.planned })))
    (behind_act view.number (record view.now { waiting = q.waiting; under_way = q.parts; planned = q.planned }) o)) e
    ∙ (ap (λ (x : Known). walks run (with_now x (steps_out (act_of o) (record x.now { under_way = drop 1 x.now.under_way }))) (behind_act x.number (record x.now { under_way = drop 1 x.now.under_way }) o)) p
    ∙ went_on run k o due))

stepped : (s : ℕ) (n : Now) (o : Output) → steps_of s (behind_act s (record n { under_way = drop 1 n.under_way }) o) ≡ steps_of s (entries_of s n (act_of o))
stepped s n (Plain to frame) = refl
stepped s n (Edited frame x) = refl

pub steps_on_due : (s : ℕ) (n : Now) (o : Output) → frames_due n ≡ act_if (Some o)
    → steps_of s (behind_act s (record n { under_way = drop 1 n.under_way }) o) ≡ steps_of s (entries_if s n (frames_due n))
steps_on_due s n o e = stepped s n o ∙ ap (λ (due : Option Act). steps_of s (entries_if s n due)) (sym e)

some-is : (w frame : List ℕ) → Some w ≡ Some frame → w ≡ frame
some-is w frame e = cc

waits-by : (parts : List Part) (frame : List ℕ) (waits : List (List ℕ)) (n : Now) → n.waiting ≡ waits → n.under_way ≡ parts → is_empty parts ≡ true → slice_get waits 0 ≡ Some frame
    → frames_due n ≡ planned_if (may_if (awaited frame) n.unsettled) frame
waits-by [] frame [] n e p idle first = absurd (let g : None ≡ Some frame = first in cc)
waits-by [] frame (w ∷ later) n e p idle first =
    let same : w ≡ frame = some-is w frame first in
    rw e (rw p (ap (λ (f : List ℕ). planned_if (may_if (awaited f) n.unsettled) f) same))
waits-by (part ∷ parts) frame waits n e p idle first = absurd (false≢true idle)

none-by : (parts : List Part) (waits : List (List ℕ)) (n : Now) → n.waiting ≡ waits → n.under_way ≡ parts → is_empty parts ≡ true → slice_get waits 0 ≡ None → frames_due n ≡ None
none-by [] [] n e p idle none = rw e (rw p refl)
none-by [] (w ∷ later) n e p idle none = absurd (let g : Some w ≡ None = none in cc)
none-by (part ∷ parts) waits n e p idle none = absurd (false≢true idle)

planned-by : (run : Run) (k : Known) (frame : List ℕ) (waits : List (List ℕ)) → k.now.waiting ≡ waits → is_empty k.now.under_way ≡ true → slice_get waits 0 ≡ Some frame
    → may_if (awaited frame) k.now.unsettled ≡ true
    → with_now k (plans k.now (planned_over k.now.catching k.now.table (cuts k.now.unsettled) (record { waiting = k.now.waiting; parts = k.now.under_way; planned = k.now.planned }) waits))
    ≡ walks run k (entries_if k.number k.now (frames_due k.now))
planned-by run k frame [] e idle first free = absurd (let g : None ≡ Some frame = first in cc)
planned-by run k frame (w ∷ later) e idle first free =
    let same : w ≡ frame = some-is w frame first in
    let due : frames_due k.now ≡ Some (Plan frame) =
    waits-by k.now.under_way frame (w ∷ later) k.now e refl idle first ∙ ap (λ (b : Bool). planned_if b frame) free in
    rw due (rw (sym same) (rw e refl))

-- the frame that waits at the front
waits-first : (n : Now) (frame : List ℕ) (waits : List (List ℕ)) → n.waiting ≡ waits → is_empty n.under_way ≡ true → slice_get waits 0 ≡ Some frame
    → frames_due n ≡ planned_if (may_if (awaited frame) n.unsettled) frame
waits-first n frame waits e idle first = waits-by n.under_way frame waits n e refl idle first

pub plan_due : (n : Now) (frame : List ℕ) → is_empty n.under_way ≡ true → slice_get n.waiting 0 ≡ Some frame
    → frames_due n ≡ planned_if (may_if (awaited frame) n.unsettled) frame
plan_due n frame idle first = waits-first n frame n.waiting refl idle first

pub none_waits : (n : Now) → is_empty n.under_way ≡ true → slice_get n.waiting 0 ≡ None → frames_due n ≡ None
none_waits n idle none = none-by n.under_way n.waiting n refl refl idle none

pub planned_is : (run : Run) (k : Known) (frame : List ℕ) → is_empty k.now.under_way ≡ true → slice_get k.now.waiting 0 ≡ Some frame
    → may_if (awaited frame) k.now.unsettled ≡ true
    → with_now k (plans k.now (planned_over k.now.catching k.now.table (cuts k.now.unsettled) (record { waiting = k.now.waiting; parts = k.now.under_way; planned = k.now.planned }) k.now.waiting))
    ≡ walks run k (entries_if k.number k.now (frames_due k.now))
planned_is run k frame idle first free = planned-by run k frame k.now.waiting refl idle first free

-- what is due of the three
pub unarmed_due : (n : Now) → n.armed ≡ false → due_in n ≡ None
unarmed_due n e = rw e refl

or-first : (a b : Option Act) → is_some a ≡ true → or_else a b ≡ a
or-first None b e = absurd (false≢true e)
or-first (Some x) b e = refl

or-last : (a b : Option Act) → is_some a ≡ false → or_else a b ≡ b
or-last None b e = refl
or-last (Some x) b e = absurd (false≢true (sym e))

pub reply_first : (n : Now) → n.armed ≡ true → n.postponed ≡ [] → is_some (due_reply n.unsettled n.kept) ≡ true → due_in n ≡ due_reply n.unsettled n.kept
reply_first n e p some = rw e (rw p (or-first (due_reply n.unsettled n.kept) (frames_due n) some))

pub frames_last : (n : Now) → n.armed ≡ true → n.postponed ≡ [] → is_some (due_reply n.unsettled n.kept) ≡ false → due_in n ≡ frames_due n
frames_last n e p none = rw e (rw p (or-last (due_reply n.unsettled n.kept) (frames_due n) none))
