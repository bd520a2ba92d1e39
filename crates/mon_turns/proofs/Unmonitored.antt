-- Updates that no probe is to show are reported as the line on them says, because what comes is what is due.
use Rattle.std.proofs.Common.{◌≡◌, ℕ, ◌+◌, Bool, true, false, cond, List, [], ◌∷◌, Some, None, refl, sym, ap, subst, ◌∙◌}
use Rattle.std.proofs.lemmas.Bool.{false≢true}
use Rattle.mon_report.specs.declared.line.Line.{Line as ReportLine}
use Rattle.mon_report.specs.declared.line.Line.TheVariants.{Fact}
use Rattle.mon_report.specs.declared.line.What.TheVariants as what
use Rattle.mon_world.specs.declared.event.Side.TheVariants.{Switch}
use Rattle.mon_world.specs.declared.event.Note.TheVariants.{Offer, Verdict, Probe, Report}
use Rattle.mon_world.specs.declared.history.Entry.TheVariants.{Given, Noted, Put, End}
use Rattle.mon_legal.specs.Runs.{Run}
use Rattle.mon_legal.specs.Barriers.{count}
use Rattle.mon_legal.specs.Directly.{Due, is_closing}
use Rattle.mon_legal.specs.Directly.Due.{Tells}
use Rattle.mon_legal.specs.Moments.{Moment, begins}
use Rattle.mon_legal.specs.Moments.Moment.{Is, Went, Came, Broke, Did}
use Rattle.mon_legal.specs.Sessions.{part}
use Rattle.mon_legal.specs.Ordering.{Next, next, due_of}
use Rattle.mon_legal.specs.Passing.{Comes, NothingIsLeft}
use Rattle.mon_legal.specs.Reports.{Exactly, is_report, is_what, is_closing as is_closing_line}
use Rattle.mon_legal.specs.Unmonitorable.{closing_line, ClosingsCame}
use Rattle.mon_legal.proofs.Coming.{some-same}
use Rattle.mon_legal.proofs.Fitting.{next-meets}
use Rattle.mon_legal.proofs.Waiting.{at-turn}
use Rattle.mon_turns.specs.Laws.{UnmonitorableFollow}
use Rattle.mon_turns.proofs.Leads.{sort_of}
use Rattle.mon_turns.proofs.Live.{room-before}
use Rattle.mon_turns.proofs.Asked.{asks-closing}
use Rattle.mon_turns.proofs.Causes.{Meeting, meeting, report-met}
use Rattle.mon_turns.proofs.Causes.Meeting.{By_due, By_loss}
use Rattle.mon_turns.proofs.Closings.{is_told}
use Rattle.mon_turns.proofs.Telling.{ClosedBy, AsFrame, both}
use Rattle.mon_turns.proofs.Lasts.{came_open, now-open}
use Rattle.mon_turns.proofs.Wholes.{closings-came}
use Rattle.mon_turns.proofs.Behind.{answers-are-followed, edits-are-followed, barriers-follow}

-- the report that is due behind the frame of a closing
closing-due : (run : Run) (f : List Moment) (l : ReportLine) → came_open run f → closing_line run f ≡ Some l → (s : ℕ) × (due_of run f s ≡ Some (Tells l)) × (is_told (sort_of (Tells l)) ≡ true)
closing-due run (Is (Put s Switch frame lost) ∷ f) l there e =
    let p = part run s f in
    let told = Fact s (count p + 1) what.Closing in
    elim (is_closing p) as (λ b. is_closing p ≡ b → cond b (Some told) None ≡ Some l
    → (q : ℕ) × (due_of run (Is (Put s Switch frame lost) ∷ f) q ≡ Some (Tells l)) × (is_told (sort_of (Tells l)) ≡ true)) [
      | true ↦ λ y g.
          let same : told ≡ l = some-same told l g in (
            s,
            asks-closing run f s frame lost there y ∙ ap (λ (x : ReportLine). Some (Tells x)) same,
            subst (λ (x : ReportLine). is_told (sort_of (Tells x)) ≡ true) same refl,
          )
      | false ↦ λ n g. absurd (let h : None ≡ Some l = g in cc)
    ] refl e
closing-due run [] l there e = absurd (let g : None ≡ Some l = e in cc)
closing-due run (m ∷ f) l there e = absurd (let g : None ≡ Some l = e in cc)

told-line : (l : ReportLine) → is_what is_closing_line l ≡ true → is_told (sort_of (Tells l)) ≡ true
told-line (Fact s k what.Closing) e = refl
told-line (Fact s k w) e = absurd (false≢true e)
told-line l e = absurd (false≢true e)

closed-line : (run : Run) (f : List Moment) (q : ℕ) → ClosedBy run f q → closing_line run f ≡ None → ⊥
closed-line run (Is (Put r Switch frame lost) ∷ f) q by e =
    let closing : is_closing (part run r f) ≡ true = subst (λ (n : ℕ). is_closing (part run n f) ≡ true) (sym by.0) by.1 in
    let g : Some (Fact r (count (part run r f) + 1) what.Closing) ≡ None =
    ap (λ (b : Bool). cond b (Some (Fact r (count (part run r f) + 1) what.Closing)) None) (sym closing) ∙ e in cc
closed-line run [] q by e = by
closed-line run (m ∷ f) q by e = by

no-line : (run : Run) (f : List Moment) (l : ReportLine) → ((q : ℕ) → AsFrame run f q) → Meeting run f (next run f) (Is (Noted (Report l))) → is_what is_closing_line l ≡ true → closing_line run f ≡ None → ⊥
no-line run f l k (By_due q due is c) y e =
    let told = report-met run f q due l c in
    let first : due_of run f q ≡ Some (Tells l) = next-meets run f q due is ∙ ap (λ (x : Due). Some x) told in
    closed-line run f q (k q (Tells l) first (told-line l y)).by e
no-line run f l k (By_loss q is c) y e = let g : Is (Noted (Report l)) ≡ Is (End q) = c in cc

no-report : (run : Run) (f : List Moment) (m : Moment) → ((q : ℕ) → AsFrame run f q) → Comes run f (next run f) m → closing_line run f ≡ None → is_report (is_what is_closing_line) m ≡ false
no-report run f (Is (Noted (Report l))) k c e =
    elim (is_what is_closing_line l) as (λ b. is_what is_closing_line l ≡ b → b ≡ false) [
      | true ↦ λ y. absurd (no-line run f l k (meeting run f (next run f) (Is (Noted (Report l))) refl c) y e)
      | false ↦ λ n. refl
    ] refl
no-report run f (Is (Noted (Offer job s j v))) k c e = refl
no-report run f (Is (Noted (Verdict job kind))) k c e = refl
no-report run f (Is (Noted (Probe serial job x))) k c e = refl
no-report run f (Is (Given event)) k c e = refl
no-report run f (Is (Put s to frame lost)) k c e = refl
no-report run f (Is (End s)) k c e = refl
no-report run f (Went s serial near frame lost) k c e = refl
no-report run f (Came s side frame) k c e = refl
no-report run f (Broke s side fault) k c e = refl
no-report run f (Did s act) k c e = refl

closing-told : (run : Run) (f : List Moment) (m : Moment) → came_open run f → ((q : ℕ) → AsFrame run f q) → Comes run f (next run f) m → Exactly (closing_line run f) (is_what is_closing_line) m
closing-told run f m there k c =
    elim (closing_line run f) as (λ o. closing_line run f ≡ o → Exactly o (is_what is_closing_line) m) [
      | None ↦ λ e. no-report run f m k c e
      | Some l ↦ λ e.
          let due = closing-due run f l there e in
          subst (λ (n : Next). Comes run f n m) (k due.0 (Tells l) due.1 due.2).next_is c
    ] refl

pub unmonitorable-follow : UnmonitorableFollow
unmonitorable-follow run [] room order probes goes = tt
unmonitorable-follow run (m ∷ f) room order probes goes =
    let before = room-before run m f room in
    let answers = answers-are-followed run f m room order probes in (
      at-turn (begins m) (NothingIsLeft run f) (ClosingsCame run f) (closings-came run f order.2 probes.2) order.0,
      record {
        answer = answers.0;
        probe = answers.2;
        passing = edits-are-followed run f m room order probes goes.2;
        closing = closing-told run f m (now-open run f before order.2 probes.2 goes.2) (λ q. (both run f before order.2 probes.2 q).1) order.1;
        barrier = barriers-follow run f m room order probes goes.2;
      },
      unmonitorable-follow run f before order.2 probes.2 goes.2,
    )
