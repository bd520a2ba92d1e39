-- Replies wait, because what comes is what is due.
use Rattle.std.proofs.Common.{◌≡◌, ℕ, ◌<◌, Bool, true, false, cond, List, [], ◌∷◌, Option, Some, None, option_map, refl, sym, ap, ◌∙◌, arith}
use Rattle.std.specs.Prelude.{nat_lt, find, not, ◌==◌}
use Rattle.std.specs.List.{AllByRecursion, list_any}
use Rattle.std.proofs.lemmas.Bool.{false≢true}
use Rattle.mon_table.specs.declared.rule.Rule.{Rule}
use Rattle.mon_table.specs.declared.edit.Edit.{Edit}
use Rattle.of_msgs.specs.declared.flow_mod.FlowMod.{FlowMod}
use Rattle.mon_shows.specs.Views.{Viewing}
use Rattle.mon_barriers.specs.declared.barriers.Reply.{Reply as Kept}
use Rattle.mon_barriers.specs.Barriers.{may_go, released}
use Rattle.mon_legal.specs.Runs.{Run}
use Rattle.mon_legal.specs.Owns.{Act}
use Rattle.mon_legal.specs.Owns.Act.{Closing, Reply, Plan, Step}
use Rattle.mon_legal.specs.Barriers.{kept, is_armed}
use Rattle.mon_legal.specs.Edits.{Passed, expected, unsettled, oldest}
use Rattle.mon_legal.specs.Datapaths.{catching}
use Rattle.mon_legal.specs.Postponing.{stand_in_for}
use Rattle.mon_legal.specs.Held.{Part, Postponed, act_due, due_closing, due_reply, due_plan, due_step, planned_if, step_of, change_of, may_if, awaited, awaited_by, or_else, waiting, under_way, postponed}
use Rattle.mon_legal.specs.Held.Part.{Whole, Refused, Changed}
use Rattle.mon_legal.specs.Moments.{Moment, begins}
use Rattle.mon_legal.specs.Moments.Moment.{Is, Went, Came, Broke, Did}
use Rattle.mon_legal.specs.Sessions.{part, view}
use Rattle.mon_legal.specs.Ordering.{next}
use Rattle.mon_legal.specs.Ordering.Next.{Nothing}
use Rattle.mon_legal.specs.Lines.{AtTurn}
use Rattle.mon_legal.specs.Passing.{Comes, FramesGoInOrder, NothingIsLeft}
use Rattle.mon_legal.specs.Replying.{GoesWhenDue, NoneIsDue, RepliesWait}
use Rattle.mon_legal.proofs.Numbers.{numbers, Falls, unsettled-fall}
use Rattle.mon_legal.proofs.Coming.{did-is-due, none-due}

abbrev is_reply : Option Act → Bool
is_reply (Some (Reply frame)) = true
is_reply o = false

abbrev frame_in : Option Act → List ℕ
frame_in (Some (Reply frame)) = frame
frame_in o = []

closing-none : (o : Option Postponed) → is_reply (option_map (λ p. Closing p.edit p.close) o) ≡ false
closing-none None = refl
closing-none (Some p) = refl

change-none : (r : Option Rule) (frame : List ℕ) (m : FlowMod) (x : Edit) (first : Bool) → is_reply (Some (change_of r frame m x first)) ≡ false
change-none None frame m x first = refl
change-none (Some r) frame m x first = refl

step-none : (v : Viewing) (t : List Rule) (p : Part) → is_reply (Some (step_of v t p)) ≡ false
step-none v t (Whole frame) = refl
step-none v t (Refused error) = refl
step-none v t (Changed frame m x first) = change-none (stand_in_for v t x) frame m x first

if-none : (b : Bool) (o : Option Act) → is_reply o ≡ false → is_reply (cond b o None) ≡ false
if-none true o n = n
if-none false o n = refl

planned-none : (b : Bool) (frame : List ℕ) → is_reply (planned_if b frame) ≡ false
planned-none true frame = refl
planned-none false frame = refl

plan-none : (edits : List Passed) (waits : List (List ℕ)) → is_reply (due_plan edits waits) ≡ false
plan-none edits [] = refl
plan-none edits (frame ∷ later) = planned-none (may_if (awaited frame) edits) frame

steps-none : (v : Viewing) (t : List Rule) (edits : List Passed) (waits : List (List ℕ)) (parts : List Part) → is_reply (due_step v t edits waits parts) ≡ false
steps-none v t edits waits [] = plan-none edits waits
steps-none v t edits waits (p ∷ parts) = if-none (may_if (awaited_by p) edits) (Some (step_of v t p)) (step-none v t p)

only-reply : (a b c : Option Act) (frame : List ℕ) → is_reply a ≡ false → is_reply c ≡ false → or_else a (or_else b c) ≡ Some (Reply frame) → b ≡ Some (Reply frame)
only-reply (Some x) b c frame n m e = absurd (false≢true (sym n ∙ ap is_reply e))
only-reply None (Some y) c frame n m e = e
only-reply None None c frame n m e = absurd (false≢true (sym m ∙ ap is_reply e))

pub reply-due : (b : Bool) (v : Viewing) (t : List Rule) (edits : List Passed) (closings : List Postponed) (replies : List Kept) (waits : List (List ℕ)) (parts : List Part)
    (frame : List ℕ) → act_due b v t edits closings replies waits parts ≡ Some (Reply frame) → due_reply edits replies ≡ Some (Reply frame)
reply-due false v t edits closings replies waits parts frame e = absurd (let g : None ≡ Some (Reply frame) = e in cc)
reply-due true v t edits closings replies waits parts frame e =
    only-reply (due_closing edits closings) (due_reply edits replies) (due_step v t edits waits parts) frame
    (closing-none (find (λ p. not (list_any (λ q. q.number == p.edit) edits)) closings)) (steps-none v t edits waits parts) e

-- the oldest kept reply may go
pub released-first : (o : Option ℕ) (replies : List Kept) (frame : List ℕ) → option_map Reply (released o replies) ≡ Some (Reply frame)
    → (reply : Kept) × (later : List Kept) × (replies ≡ reply ∷ later) × (frame ≡ reply.frame) × (may_go o reply.edits ≡ true)
released-first o [] frame e = absurd (let g : None ≡ Some (Reply frame) = e in cc)
released-first o (reply ∷ later) frame e =
    elim (may_go o reply.edits) as (λ b. may_go o reply.edits ≡ b → option_map Reply (cond b (Some reply.frame) None) ≡ Some (Reply frame)
    → (reply_ : Kept) × (later_ : List Kept) × (reply ∷ later ≡ reply_ ∷ later_) × (frame ≡ reply_.frame) × (may_go o reply_.edits ≡ true)) [
      | true ↦ λ y g. (reply, later, refl, sym (ap frame_in g), y)
      | false ↦ λ y g. absurd (let h : None ≡ Some (Reply frame) = g in cc)
    ] refl e

-- what is above none of the unsettled edits but the oldest is above none
less-of : (a b : ℕ) → nat_lt a b ≡ true → a < b
less-of a b e = grind (arith, e)

above-oldest : (edits : List Passed) (e : ℕ) → Falls (numbers edits) → may_go (oldest edits) e ≡ true → AllByRecursion (λ p. e < p.number) edits
above-oldest [] e f y = tt
above-oldest (p ∷ []) e f y = (less-of e p.number y, tt)
above-oldest (p ∷ q ∷ rest) e f y =
    let later = above-oldest (q ∷ rest) e f.1 y in
    ((let a : e < q.number = later.0 in let b : q.number < p.number = f.0.0 in omega arith), later)

second-none : (a b c : Option Act) → or_else a (or_else b c) ≡ None → b ≡ None
second-none (Some x) b c e = absurd (let g : Some x ≡ None = e in cc)
second-none None (Some y) c e = absurd (let g : Some y ≡ None = e in cc)
second-none None None c e = refl

goes : (run : Run) (s : ℕ) (frame : List ℕ) (f : List Moment) → Comes run f (next run f) (Did s (Reply frame)) → GoesWhenDue run f (Did s (Reply frame))
goes run s frame f c =
    let own = part run s f in
    let due = did-is-due run f s (Reply frame) c in
    let reply = reply-due (is_armed own) (view run s f) (expected (catching run own) own) (unsettled own) (postponed own) (kept own) (waiting own) (under_way run own) frame due.1 in
    let r = released-first (oldest (unsettled own)) (kept own) frame reply in
    (r.0, r.1, r.2, r.3, above-oldest (unsettled own) r.0.edits (unsettled-fall own) r.4)

-- where no step is due no reply is
no-reply : (v : Viewing) (t : List Rule) (b : Bool) (edits : List Passed) (closings : List Postponed) (replies : List Kept) (waits : List (List ℕ)) (parts : List Part)
    → act_due b v t edits closings replies waits parts ≡ None → b ≡ true → due_reply edits replies ≡ None
no-reply v t false edits closings replies waits parts e y = absurd (false≢true y)
no-reply v t true edits closings replies waits parts e y = second-none (due_closing edits closings) (due_reply edits replies) (due_step v t edits waits parts) e

none-left : (run : Run) (f : List Moment) → next run f ≡ Nothing → NoneIsDue run f
none-left run f e =
    none-due run f (λ s. is_armed (part run s f) ≡ true → due_reply (unsettled (part run s f)) (kept (part run s f)) ≡ None) e
    (λ s n y. let own = part run s f in
    no-reply (view run s f) (expected (catching run own) own) (is_armed own) (unsettled own) (postponed own) (kept own) (waiting own) (under_way run own) n y)

each-goes : (run : Run) (f : List Moment) (m : Moment) → Comes run f (next run f) m → GoesWhenDue run f m
each-goes run f (Did s (Reply frame)) c = goes run s frame f c
each-goes run f (Did s (Closing edit frame)) c = tt
each-goes run f (Did s (Plan frame)) c = tt
each-goes run f (Did s (Step to frame closing)) c = tt
each-goes run f (Is entry) c = tt
each-goes run f (Went s serial near frame lost) c = tt
each-goes run f (Came s side frame) c = tt
each-goes run f (Broke s side fault) c = tt

pub at-turn : (b : Bool) (A B : Type 0) → (A → B) → AtTurn b A → AtTurn b B
at-turn true A B f a = f a
at-turn false A B f a = tt

-- the line on replies follows from the order
pub replies-wait : (run : Run) (f : List Moment) → FramesGoInOrder run f → RepliesWait run f
replies-wait run [] order = tt
replies-wait run (m ∷ f) order =
    (at-turn (begins m) (NothingIsLeft run f) (NoneIsDue run f) (none-left run f) order.0, each-goes run f m order.1, replies-wait run f order.2)
