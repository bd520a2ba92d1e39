-- An opening makes nothing else come.
use Rattle.std.proofs.Common.{◌≡◌, ℕ, ◌<◌, Bool, true, false, cond, List, [], ◌∷◌, length, Option, Some, None, option_map, refl, ap, ◌∙◌}
use Rattle.std.specs.Prelude.{◌&&◌, nat_lt}
use Rattle.std.specs.List.{AllByRecursion}
use Rattle.std.proofs.lemmas.Bool.{false≢true}
use Rattle.mon_table.specs.declared.rule.Rule.{Rule}
use Rattle.mon_shows.specs.Views.{Viewing}
use Rattle.mon_barriers.specs.declared.barriers.Reply.{Reply as Kept}
use Rattle.mon_world.specs.declared.event.Event.TheVariants.{Opened}
use Rattle.mon_world.specs.declared.history.Entry.TheVariants.{Given}
use Rattle.mon_legal.specs.Runs.{Run}
use Rattle.mon_legal.specs.Owns.{Own, Act}
use Rattle.mon_legal.specs.Owns.Own.{Begins}
use Rattle.mon_legal.specs.Edits.{Passed}
use Rattle.mon_legal.specs.Barriers.{is_armed, kept}
use Rattle.mon_legal.specs.Edits.{unsettled}
use Rattle.mon_legal.specs.Held.{Part, Postponed, act_due, due_act, due_step, due_closing, due_reply, or_else, may_if, awaited_by, step_of, postponed, waiting, under_way}
use Rattle.mon_legal.specs.Probes.{or_own, wanting}
use Rattle.mon_legal.specs.Watching.{watch_wanted}
use Rattle.mon_legal.specs.Directly.{Due, owed}
use Rattle.mon_legal.specs.Moments.{Moment, cause}
use Rattle.mon_legal.specs.Moments.Moment.{Is}
use Rattle.mon_legal.specs.Jobs.{openings, unanswered}
use Rattle.mon_legal.specs.Sessions.{part, opened, is_open, view, slot_of, next_slot, has_lost, is_tick}
use Rattle.mon_legal.specs.Ordering.{Next, next, first_with, with_its, or_next, first_due, due_of, act_of, lost_of, want_of, jobs_in_slot, same_slot, piece_of, rest_of_piece}
use Rattle.mon_legal.specs.Ordering.Next.{Meets, Takes, Loses, Wants, Nothing}
use Rattle.mon_legal.specs.Offering.{JobsAreOffered}
use Rattle.mon_legal.proofs.Coming.{first-none}
use Rattle.mon_legal.proofs.Handled.{piece-done}
use Rattle.mon_turns.specs.Opening.{HasRoom}
use Rattle.mon_turns.proofs.Born.{all-push, all-weaker, apart, below, part-other, part-new}
use Rattle.mon_turns.proofs.Opened.{filter-same, jobs-below}

-- whether a step is due does not depend on the view
step-blind : (v w : Viewing) (t u : List Rule) (edits : List Passed) (waits : List (List ℕ)) (parts : List Part)
    → due_step v t edits waits parts ≡ None → due_step w u edits waits parts ≡ None
step-blind v w t u edits waits [] e = e
step-blind v w t u edits waits (part ∷ later) e =
    elim (may_if (awaited_by part) edits) as (λ b. cond b (Some (step_of v t part)) None ≡ None → cond b (Some (step_of w u part)) None ≡ None) [
      | true ↦ λ g. absurd (let q : Some (step_of v t part) ≡ None = g in cc)
      | false ↦ λ g. refl
    ] e

or-blind : (x a b : Option Act) → (a ≡ None → b ≡ None) → or_else x a ≡ None → or_else x b ≡ None
or-blind None a b k e = k e
or-blind (Some act) a b k e = absurd (let q : Some act ≡ None = e in cc)

pub act-blind : (armed : Bool) (v w : Viewing) (t u : List Rule) (edits : List Passed) (closings : List Postponed) (replies : List Kept) (waits : List (List ℕ)) (parts : List Part)
    → act_due armed v t edits closings replies waits parts ≡ None → act_due armed w u edits closings replies waits parts ≡ None
act-blind false v w t u edits closings replies waits parts e = refl
act-blind true v w t u edits closings replies waits parts e =
    or-blind (due_closing edits closings) (or_else (due_reply edits replies) (due_step v t edits waits parts)) (or_else (due_reply edits replies) (due_step w u edits waits parts))
    (or-blind (due_reply edits replies) (due_step v t edits waits parts) (due_step w u edits waits parts) (step-blind v w t u edits waits parts)) e

-- where a turn has ended nothing is due, nobody takes a step, nobody lost an output, and nobody wants a job
abbrev is_nothing : Next → Bool
is_nothing Nothing = true
is_nothing n = false

abbrev pub NoneOf : {A : Type 0} → (ℕ → Option A) → List ℕ → Type 0
NoneOf what ss = AllByRecursion (λ s. what s ≡ None) ss

pub record Rests (run : Run) (f : List Moment) : Type 0 where
  pub dues : NoneOf (due_of run f) (opened run f)
  pub acts : NoneOf (act_of run f) (opened run f)
  pub losses : NoneOf (lost_of run f) (opened run f)
  pub piece : rest_of_piece run f (piece_of f) ≡ None
  pub wants : NoneOf (want_of run f) (opened run f)

or-due : (x : Option (ℕ × Due)) (later : Next) → or_next (option_map (λ p. Meets p.0 p.1) x) later ≡ Nothing → (x ≡ None) × (later ≡ Nothing)
or-due None later e = (refl, e)
or-due (Some p) later e = absurd (false≢true (ap is_nothing e))

or-act : (x : Option (ℕ × Act)) (later : Next) → or_next (option_map (λ p. Takes p.0 p.1) x) later ≡ Nothing → (x ≡ None) × (later ≡ Nothing)
or-act None later e = (refl, e)
or-act (Some p) later e = absurd (false≢true (ap is_nothing e))

or-loss : (x : Option (ℕ × Unit {0})) (later : Next) → or_next (option_map (λ p. Loses p.0) x) later ≡ Nothing → (x ≡ None) × (later ≡ Nothing)
or-loss None later e = (refl, e)
or-loss (Some p) later e = absurd (false≢true (ap is_nothing e))

or-want : (x : Option (ℕ × ℕ)) (later : Next) → or_next (option_map (λ p. Wants p.0 p.1) x) later ≡ Nothing → (x ≡ None) × (later ≡ Nothing)
or-want None later e = (refl, e)
or-want (Some p) later e = absurd (false≢true (ap is_nothing e))

or-rest : (x : Option Next) (later : Next) → x ≡ None → or_next x later ≡ Nothing → later ≡ Nothing
or-rest None later n e = e
or-rest (Some m) later n e = absurd (let g : Some m ≡ None = n in cc)

pub rests : (run : Run) (f : List Moment) → next run f ≡ Nothing → Rests run f
unfolding next
rests run f e =
    let all = opened run f in
    let a = or-due (first_with (due_of run f) all) _ e in
    let b = or-act (first_with (act_of run f) all) _ a.1 in
    let c = or-loss (first_with (lost_of run f) all) _ b.1 in
    let piece = piece-done run f e in
    let d = or-want (first_with (want_of run f) all) Nothing (or-rest (rest_of_piece run f (piece_of f)) _ piece c.1) in
    record {
      dues = first-none (due_of run f) all a.0;
      acts = first-none (act_of run f) all b.0;
      losses = first-none (lost_of run f) all c.0;
      piece = piece;
      wants = first-none (want_of run f) all d.0;
    }

-- what comes next where nothing is due
abbrev pub behind_dues : Run → List Moment → Next
behind_dues run f =
    or_next (option_map (λ p. Takes p.0 p.1) (first_with (act_of run f) (opened run f)))
    (or_next (option_map (λ p. Loses p.0) (first_with (lost_of run f) (opened run f)))
    (or_next (rest_of_piece run f (piece_of f))
    (or_next (option_map (λ p. Wants p.0 p.1) (first_with (want_of run f) (opened run f)))
    Nothing)))

none-first : {A : Type 0} (what : ℕ → Option A) (ss : List ℕ) → NoneOf what ss → first_with what ss ≡ None
none-first what [] all = refl
none-first what (s ∷ ss) all = ap (λ o. with_its s o (first_with what ss)) all.0 ∙ none-first what ss all.1

pub rested : (run : Run) (f : List Moment) → Rests run f → next run f ≡ Nothing
unfolding next
rested run f r =
    let all = opened run f in
    let wants : Next = or_next (option_map (λ p. Wants p.0 p.1) (first_with (want_of run f) all)) Nothing in
    let losses : Next = or_next (option_map (λ p. Loses p.0) (first_with (lost_of run f) all)) (or_next (rest_of_piece run f (piece_of f)) wants) in
    let acts : Next = or_next (option_map (λ p. Takes p.0 p.1) (first_with (act_of run f) all)) losses in
    ap (λ o. or_next (option_map (λ p. Meets p.0 p.1) o) acts) (none-first (due_of run f) all r.dues)
    ∙ ap (λ o. or_next (option_map (λ p. Takes p.0 p.1) o) losses) (none-first (act_of run f) all r.acts)
    ∙ ap (λ o. or_next (option_map (λ p. Loses p.0) o) (or_next (rest_of_piece run f (piece_of f)) wants)) (none-first (lost_of run f) all r.losses)
    ∙ ap (λ o. or_next o wants) r.piece
    ∙ ap (λ o. or_next (option_map (λ p. Wants p.0 p.1) o) Nothing) (none-first (want_of run f) all r.wants)

-- an opening ---------------------------------------------------------------------

pub all-both : {A : Type 0} (P Q R : A → Type 0) (ss : List A) → ((s : A) → P s → Q s → R s) → AllByRecursion P ss → AllByRecursion Q ss → AllByRecursion R ss
all-both P Q R [] k p q = tt
all-both P Q R (s ∷ ss) k p q = (k s p.0 q.0, all-both P Q R ss k p.1 q.1)

pub act-other : (run : Run) (own : List Own) (v w : Viewing) → cond (is_open own) (due_act run v own) None ≡ None → cond (is_open own) (due_act run w own) None ≡ None
act-other run own v w e =
    elim (is_open own) as (λ b. cond b (due_act run v own) None ≡ None → cond b (due_act run w own) None ≡ None) [
      | true ↦ λ g. act-blind (is_armed own) v w _ _ (unsettled own) (postponed own) (kept own) (waiting own) (under_way run own) g
      | false ↦ λ g. refl
    ] e

pub want-less : (b : Bool) (x w : Option ℕ) → cond b (or_own x w) None ≡ None → cond b (or_own x None) None ≡ None
want-less true None w e = refl
want-less true (Some k) w e = absurd (let g : Some k ≡ None = e in cc)
want-less false x w e = refl

pub none-either : (b : Bool) (o : Option ℕ) → cond b o o ≡ o
none-either true o = refl
none-either false o = refl

and-shut : (c : Bool) (x : Option ℕ) → cond (false && c) x None ≡ None
and-shut c x = refl

pub jobs-same : (run : Run) (f : List Moment) (s : ℕ) → HasRoom run f → JobsAreOffered run f → s < openings run f
    → jobs_in_slot run s (Is (Given Opened) ∷ f) ≡ jobs_in_slot run s f
jobs-same run f s room offered lt =
    let g = Is (Given Opened) ∷ f in
    let slot-same : (r : ℕ) → r < openings run f → slot_of run r g ≡ slot_of run r f = λ r l. ap (λ (b : Bool). cond b (next_slot run f) (slot_of run r f)) (apart (openings run f) r l) in
    ap length (filter-same (λ j. same_slot (slot_of run j.session g) (slot_of run s g)) (λ j. same_slot (slot_of run j.session f) (slot_of run s f)) (unanswered f)
    (all-weaker (λ j. j.session < openings run f) (λ j. same_slot (slot_of run j.session g) (slot_of run s g) ≡ same_slot (slot_of run j.session f) (slot_of run s f)) (unanswered f)
    (λ j l. ap (λ (o : Option ℕ). same_slot o (slot_of run s g)) (slot-same j.session l) ∙ ap (λ (o : Option ℕ). same_slot (slot_of run j.session f) o) (slot-same s lt))
    (jobs-below run f room offered)))

wants-other : (run : Run) (f : List Moment) (s : ℕ) → HasRoom run f → JobsAreOffered run f → s < openings run f → want_of run f s ≡ None
    → want_of run (Is (Given Opened) ∷ f) s ≡ None
wants-other run f s room offered lt e =
    let own = part run s f in
    let test : Bool = is_open own && nat_lt (jobs_in_slot run s f) 16 in
    ap (λ (p : List Own). cond (is_open p && nat_lt (jobs_in_slot run s (Is (Given Opened) ∷ f)) 16) (or_own (wanting run p) None) None) (part-other run f s (apart (openings run f) s lt))
    ∙ ap (λ (n : ℕ). cond (is_open own && nat_lt n 16) (or_own (wanting run own) None) None) (jobs-same run f s room offered lt)
    ∙ want-less test (wanting run own) (option_map (λ r. 0) (watch_wanted run (is_tick (cause f)) own)) e

pub rests-opened : (run : Run) (f : List Moment) (free : ℕ) → HasRoom run f → JobsAreOffered run f → next_slot run f ≡ Some free → Rests run f
    → Rests run (Is (Given Opened) ∷ f)
rests-opened run f free room offered e r =
    let n = openings run f in
    let g = Is (Given Opened) ∷ f in
    let under : AllByRecursion (λ s. s < n) (opened run f) = below run f room in
    let seen : part run n g ≡ Begins (Some free) ∷ [] = part-new run f room ∙ ap (λ (o : Option ℕ). Begins o ∷ []) e in
    record {
      dues = all-push (λ s. due_of run g s ≡ None) (opened run f) n
          (all-both (λ s. s < n) (λ s. due_of run f s ≡ None) (λ s. due_of run g s ≡ None) (opened run f)
          (λ s lt x. ap (λ (own : List Own). first_due (owed run s own)) (part-other run f s (apart n s lt)) ∙ x) under r.dues)
          (ap (λ (own : List Own). first_due (owed run n own)) seen);
      acts = all-push (λ s. act_of run g s ≡ None) (opened run f) n
          (all-both (λ s. s < n) (λ s. act_of run f s ≡ None) (λ s. act_of run g s ≡ None) (opened run f)
          (λ s lt x. ap (λ (own : List Own). cond (is_open own) (due_act run (view run s g) own) None) (part-other run f s (apart n s lt))
          ∙ act-other run (part run s f) (view run s f) (view run s g) x) under r.acts)
          (ap (λ (own : List Own). cond (is_open own) (due_act run (view run n g) own) None) seen);
      losses = all-push (λ s. lost_of run g s ≡ None) (opened run f) n
          (all-both (λ s. s < n) (λ s. lost_of run f s ≡ None) (λ s. lost_of run g s ≡ None) (opened run f)
          (λ s lt x. ap (λ (own : List Own). cond (has_lost own) (Some tt) None) (part-other run f s (apart n s lt)) ∙ x) under r.losses)
          (ap (λ (own : List Own). cond (has_lost own) (Some tt) None) seen);
      piece = refl;
      wants = all-push (λ s. want_of run g s ≡ None) (opened run f) n
          (all-both (λ s. s < n) (λ s. want_of run f s ≡ None) (λ s. want_of run g s ≡ None) (opened run f)
          (λ s lt x. wants-other run f s room offered lt x) under r.wants)
          (ap (λ (own : List Own). cond (is_open own && nat_lt (jobs_in_slot run n g) 16) (or_own (wanting run own) None) None) seen
          ∙ none-either (nat_lt (jobs_in_slot run n g) 16) None);
    }
