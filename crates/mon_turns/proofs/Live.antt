-- What a session sees it sees while it is open, but for the report on its end.
use Rattle.std.proofs.Common.{◌≡◌, ℕ, Bool, true, false, not, ◌&&◌, List, [], ◌∷◌, ◌++◌, drop, Option, Some, None, refl, sym, ap, subst, ◌∙◌}
use Rattle.std.specs.Prelude.{◌==◌}
use Rattle.std.specs.List.{AllByRecursion}
use Rattle.std.proofs.lemmas.Bool.{false≢true}
use Rattle.std.proofs.lemmas.List.{append-nil}
use Rattle.mon_header.specs.declared.header.Header.{Header}
use Rattle.mon_packet.specs.declared.nonce.Nonce.{Nonce}
use Rattle.mon_packet.specs.Reading.{Read}
use Rattle.mon_outcome.specs.declared.emission.Emission.{Emission}
use Rattle.mon_report.specs.declared.line.Line.{Line}
use Rattle.mon_report.specs.declared.line.Line.TheVariants as line
use Rattle.mon_report.specs.declared.line.Cause.{Cause}
use Rattle.mon_world.specs.declared.event.Side.{Side}
use Rattle.mon_world.specs.declared.event.Side.TheVariants.{Controller, Switch}
use Rattle.mon_world.specs.declared.event.Event.TheVariants.{Opened, Closed, Tick}
use Rattle.mon_world.specs.declared.event.Kind.{Kind}
use Rattle.mon_world.specs.declared.event.Note.TheVariants.{Offer, Verdict, Probe, Report}
use Rattle.mon_world.specs.declared.history.Entry.TheVariants.{Given, Noted, Put, End}
use Rattle.mon_legal.specs.Runs.{Run}
use Rattle.mon_legal.specs.Changing.{only}
use Rattle.mon_legal.specs.Owns.{Own}
use Rattle.mon_legal.specs.Owns.Own.{Begins, Breaks, Closes, Returns, Neighbour, Acts, Offers, Goes_out, Sends, Carries, Reports, Ends}
use Rattle.mon_legal.specs.Directly.{Due, owed, cause_in}
use Rattle.mon_legal.specs.Directly.Due.{Frame, Tells, Ending, Probing, Going}
use Rattle.mon_legal.specs.Messages.{carried_in}
use Rattle.mon_legal.specs.Barriers.{is_armed}
use Rattle.mon_legal.specs.Datapaths.{datapath}
use Rattle.mon_legal.specs.Moments.{Moment}
use Rattle.mon_legal.specs.Moments.Moment.{Is, Went, Came, Broke, Did}
use Rattle.mon_legal.specs.Jobs.{Job, job_of, openings}
use Rattle.mon_legal.specs.Sessions.{Parts, part, parts_of, own, is_open, has_ended, sees, hears, session_in, if_open, neighbour_if, are_linked, returned, returns_in, returns_with, seen_at, of_frame, judged_as, judged_if, probed_as, probed_if, arms, next_slot}
use Rattle.mon_legal.specs.Ordering.{first_due}
use Rattle.mon_legal.proofs.Fitting.{AllFit, EndFits, same-of}
use Rattle.mon_legal.proofs.Handled.{open-all, open-none}
use Rattle.mon_turns.specs.Opening.{HasRoom}
use Rattle.mon_turns.proofs.Born.{less-room, unborn}
use Rattle.mon_turns.proofs.Dues.{Sole, well-owed}

abbrev pub Lives : Own → List Own → Type 0
Lives (Begins slot) before = before ≡ []
Lives (Reports line) before = hears line before ≡ true
Lives o before = is_open before ≡ true

abbrev pub AllLive : List Own → Type 0
AllLive [] = Unit {0}
AllLive (o ∷ before) = Lives o before × AllLive before

abbrev LiveOver : List Own → List Own → Type 0
LiveOver [] before = Unit {0}
LiveOver (o ∷ os) before = Lives o (os ++ before) × LiveOver os before

live-all : (os before : List Own) → LiveOver os before → AllLive before → AllLive (os ++ before)
live-all [] before g a = a
live-all (o ∷ os) before g a = (g.0, live-all os before g.1 a)

-- entries that neither begin nor end a session, and are no reports -------------------------

abbrev is_plain : Own → Bool
is_plain (Begins slot) = false
is_plain (Reports line) = false
is_plain Ends = false
is_plain o = true

abbrev AllPlain : List Own → Type 0
AllPlain os = AllByRecursion (λ o. is_plain o ≡ true) os

keeps-open : (o : Own) (before : List Own) → is_plain o ≡ true → is_open before ≡ true → is_open (o ∷ before) ≡ true
keeps-open Ends before p e = absurd (false≢true p)
keeps-open o [] p e = absurd (false≢true e)
keeps-open o (x ∷ before) p e = e

lives-plain : (o : Own) (before : List Own) → is_plain o ≡ true → is_open before ≡ true → Lives o before
lives-plain (Begins slot) before p e = absurd (false≢true p)
lives-plain (Reports line) before p e = absurd (false≢true p)
lives-plain o before p e = e

plain-over : (os before : List Own) → AllPlain os → is_open before ≡ true → LiveOver os before × (is_open (os ++ before) ≡ true)
plain-over [] before a e = (tt, e)
plain-over (o ∷ os) before a e =
    let rest = plain-over os before a.1 e in
    ((lives-plain o (os ++ before) a.0 rest.1, rest.0), keeps-open o (os ++ before) a.0 rest.1)

plain-open : (parts : Parts) (s : ℕ) (os : List Own) → AllPlain os → LiveOver (if_open parts s os) (parts s)
plain-open parts s os a =
    elim (is_open (parts s)) as (λ b. is_open (parts s) ≡ b → LiveOver (if_open parts s os) (parts s)) [
      | true ↦ λ y. subst (λ (xs : List Own). LiveOver xs (parts s)) (sym (open-all parts s os y)) (plain-over os (parts s) a y).0
      | false ↦ λ n. subst (λ (xs : List Own). LiveOver xs (parts s)) (sym (open-none parts s os n)) tt
    ] refl

plain-only : (b : Bool) (o : Own) → is_plain o ≡ true → AllPlain (only b (o ∷ []))
plain-only true o p = (p, tt)
plain-only false o p = tt

plain-append : (os ps : List Own) → AllPlain os → AllPlain ps → AllPlain (os ++ ps)
plain-append [] ps a b = b
plain-append (o ∷ os) ps a b = (a.0, plain-append os ps a.1 b)

plain-neighbour : (run : Run) (parts : Parts) (s r : ℕ) (b : Bool) → AllPlain (neighbour_if run parts s r b)
plain-neighbour run parts s r true = plain-only (not (s == r) && are_linked run.topology (datapath (parts s)) (datapath (parts r))) Neighbour refl
plain-neighbour run parts s r false = tt

plain-with : (key : ℕ) (d : Option ℕ) (frame : List ℕ) (h : Header) (n : Option Nonce) → AllPlain (returns_with key d frame h n)
plain-with key (Some d) frame h (Some n) = plain-only (n.key == key) (Returns n.serial (seen_at d frame h)) refl
plain-with key (Some d) frame h None = tt
plain-with key None frame h n = tt

plain-in : (key : ℕ) (parts : Parts) (r : ℕ) (frame : List ℕ) (o : Read) → AllPlain (returns_in key parts r frame o)
plain-in key parts r frame None = tt
plain-in key parts r frame (Some found) = plain-with key (datapath (parts r)) frame found.0 found.1

plain-returned : (run : Run) (parts : Parts) (r : ℕ) (side : Side) (frame : List ℕ) → AllPlain (returned run parts r side frame)
plain-returned run parts r Controller frame = tt
plain-returned run parts r Switch frame = plain-in run.key parts r frame (carried_in frame)

plain-frame : (b : Bool) (run : Run) (parts : Parts) (r : ℕ) (f : List Moment) (side : Side) (frame : List ℕ) → AllPlain (of_frame b run parts r f side frame)
plain-frame false run parts r f side frame = tt
plain-frame true run parts r f Controller frame = (refl, tt)
plain-frame true run parts r f Switch frame = (refl, tt)

plain-judged-if : (b : Bool) (run : Run) (parts : Parts) (f : List Moment) (job : Job) (kind : Kind) → AllPlain (judged_if b run parts f job kind)
plain-judged-if true run parts f job kind = (refl, tt)
plain-judged-if false run parts f job kind = tt

plain-judged : (run : Run) (parts : Parts) (s : ℕ) (f : List Moment) (o : Option Job) (kind : Kind) → AllPlain (judged_as run parts s f o kind)
plain-judged run parts s f None kind = tt
plain-judged run parts s f (Some job) kind = plain-judged-if (job.session == s) run parts f job kind

plain-probed-if : (b : Bool) (run : Run) (parts : Parts) (f : List Moment) (serial : ℕ) (job : Job) (x : Emission) → AllPlain (probed_if b run parts f serial job x)
plain-probed-if true run parts f serial job x = (refl, tt)
plain-probed-if false run parts f serial job x = tt

plain-probed : (run : Run) (parts : Parts) (s : ℕ) (f : List Moment) (serial : ℕ) (o : Option Job) (x : Emission) → AllPlain (probed_as run parts s f serial o x)
plain-probed run parts s f serial None x = tt
plain-probed run parts s f serial (Some job) x = plain-probed-if (job.session == s) run parts f serial job x

-- each moment ------------------------------------------------------------------------------

live-begins : (b : Bool) (slot : Option ℕ) (before : List Own) → (b ≡ true → before ≡ []) → LiveOver (only b (Begins slot ∷ [])) before
live-begins true slot before k = (k refl, tt)
live-begins false slot before k = tt

live-reports : (b h : Bool) (line : Line) (before : List Own) → hears line before ≡ h → LiveOver (only (b && h) (Reports line ∷ [])) before
live-reports true true line before e = (e, tt)
live-reports true false line before e = tt
live-reports false h line before e = tt

live-end-of : (parts : Parts) (s : ℕ) (b : Bool) (os : List Own) → AllPlain os → LiveOver (if_open parts s (only b (Ends ∷ []) ++ os)) (parts s)
live-end-of parts s true os a =
    elim (is_open (parts s)) as (λ x. is_open (parts s) ≡ x → LiveOver (only x (Ends ∷ os)) (parts s)) [
      | true ↦ λ y. let over = plain-over os (parts s) a y in (over.1, over.0)
      | false ↦ λ n. tt
    ] refl
live-end-of parts s false os a = plain-open parts s os a

over-nil : (os before : List Own) → LiveOver os before → LiveOver (os ++ []) before
over-nil [] before a = a
over-nil (o ∷ os) before a = (subst (λ (xs : List Own). Lives o (xs ++ before)) (sym (append-nil os)) a.0, over-nil os before a.1)

live-one : (run : Run) (s : ℕ) (f : List Moment) (m : Moment) → HasRoom run (m ∷ f) → LiveOver (own run (parts_of run f) s f m) (part run s f)
live-one run s f (Is (Given Opened)) room =
    over-nil (only (openings run f == s) (Begins (next_slot run f) ∷ [])) (part run s f)
    (live-begins (openings run f == s) (next_slot run f) (part run s f)
    (λ y. subst (λ (n : ℕ). part run n f ≡ []) (same-of (openings run f) s y) (unborn run f (less-room run f room))))
live-one run s f (Is (Given (Closed r))) room = plain-open (parts_of run f) s (only (r == s) (Closes ∷ [])) (plain-only (r == s) Closes refl)
live-one run s f (Is (Given Tick)) room = plain-open (parts_of run f) s (sees run (parts_of run f) s f (Is (Given Tick))) (refl, tt)
live-one run s f (Is (Given event)) room = tt
live-one run s f (Is (Noted (Offer job r k v))) room = plain-open (parts_of run f) s (only (r == s) (Offers job k ∷ [])) (plain-only (r == s) (Offers job k) refl)
live-one run s f (Is (Noted (Verdict job kind))) room =
    plain-open (parts_of run f) s (judged_as run (parts_of run f) s f (job_of job f) kind) (plain-judged run (parts_of run f) s f (job_of job f) kind)
live-one run s f (Is (Noted (Probe serial job x))) room =
    plain-open (parts_of run f) s (probed_as run (parts_of run f) s f serial (job_of job f) x) (plain-probed run (parts_of run f) s f serial (job_of job f) x)
live-one run s f (Is (Noted (Report line))) room =
    over-nil (only ((session_in line == s) && hears line (part run s f)) (Reports line ∷ [])) (part run s f)
    (live-reports (session_in line == s) (hears line (part run s f)) line (part run s f) refl)
live-one run s f (Is (Put r to frame lost)) room = plain-open (parts_of run f) s (only (r == s) (Sends to frame lost ∷ [])) (plain-only (r == s) (Sends to frame lost) refl)
live-one run s f (Is (End r)) room =
    live-end-of (parts_of run f) s (r == s) (neighbour_if run (parts_of run f) s r (is_armed (part run r f))) (plain-neighbour run (parts_of run f) s r (is_armed (part run r f)))
live-one run s f (Went r serial near frame lost) room =
    plain-open (parts_of run f) s (only (near == s) (Carries lost ∷ []) ++ only (r == s) (Goes_out serial near frame ∷ []))
    (plain-append (only (near == s) (Carries lost ∷ [])) (only (r == s) (Goes_out serial near frame ∷ [])) (plain-only (near == s) (Carries lost) refl)
    (plain-only (r == s) (Goes_out serial near frame) refl))
live-one run s f (Came r side frame) room =
    let P = parts_of run f in
    plain-open P s (sees run P s f (Came r side frame))
    (plain-append (neighbour_if run P s r (arms P r side frame)) (returned run P r side frame ++ of_frame (r == s) run P r f side frame) (plain-neighbour run P s r (arms P r side frame))
    (plain-append (returned run P r side frame) (of_frame (r == s) run P r f side frame) (plain-returned run P r side frame)
    (plain-frame (r == s) run P r f side frame)))
live-one run s f (Broke r side fault) room = plain-open (parts_of run f) s (only (r == s) (Breaks fault ∷ [])) (plain-only (r == s) (Breaks fault) refl)
live-one run s f (Did r act) room = plain-open (parts_of run f) s (only (r == s) (Acts act ∷ [])) (plain-only (r == s) (Acts act) refl)

pub room-before : (run : Run) (m : Moment) (f : List Moment) → HasRoom run (m ∷ f) → HasRoom run f
room-before run (Is (Given Opened)) f room = less-room run f room
room-before run m f room = room

pub all-live : (run : Run) (f : List Moment) → HasRoom run f → (s : ℕ) → AllLive (part run s f)
all-live run [] room s = tt
all-live run (m ∷ f) room s = live-all (own run (parts_of run f) s f m) (part run s f) (live-one run s f m room) (all-live run f (room-before run m f room) s)

-- what is due of a session that is not open: the report on its end, or nothing -----------------

pub data Shut (run : Run) (s : ℕ) (seen : List Own) : Type 0 where
  Rests : (none : owed run s seen ≡ []) → Shut run s seen
  Just : (why : Cause) (closed : owed run s seen ≡ Tells (line.Closed s why) ∷ []) → Shut run s seen

end-only : (dues : List Due) → EndFits (first_due dues) → Sole dues → drop 1 dues ≡ []
end-only [] fit sole = refl
end-only (Ending why ∷ rest) fit sole = sole
end-only (Frame to frame ∷ rest) fit sole = absurd fit
end-only (Tells l ∷ rest) fit sole = absurd fit
end-only (Probing job k ∷ rest) fit sole = absurd fit
end-only (Going serial ∷ rest) fit sole = absurd fit

reported : (run : Run) (s : ℕ) (l : Line) (before : List Own) → Shut run s before → first_due (owed run s before) ≡ Some (Tells l) → Shut run s (Reports l ∷ before)
reported run s l before (Rests e) fit = absurd (let g : None ≡ Some (Tells l) = sym (ap first_due e) ∙ fit in cc)
reported run s l before (Just why e) fit = Rests (ap (drop 1) e)

not-both : {A : Type 0} (b : Bool) → b ≡ true → b ≡ false → A
not-both true y n = absurd (false≢true (sym n))
not-both false y n = absurd (false≢true y)

ended-shut : (before : List Own) → has_ended before ≡ true → is_open before ≡ false
ended-shut [] e = refl
ended-shut (o ∷ before) e = ap not e

was-ended : (b : Bool) → not b ≡ false → b ≡ true
was-ended true e = refl
was-ended false e = absurd (false≢true (sym e))

-- an entry that lives over an open session leaves it open
plain-shut : {A : Type 0} (o : Own) (before : List Own) → is_plain o ≡ true → is_open before ≡ true → is_open (o ∷ before) ≡ false → A
plain-shut o before p y n = not-both (is_open (o ∷ before)) (keeps-open o before p y) n

abbrev pub line_is_closed : Line → Bool
line_is_closed (line.Closed s why) = true
line_is_closed l = false

pub shut : (run : Run) (s : ℕ) (seen : List Own) → AllFit run s seen → AllLive seen → is_open seen ≡ false → Shut run s seen
shut run s [] fit live e = Rests refl
shut run s (Ends ∷ before) fit live e =
    Just (cause_in (owed run s before)) (ap (λ (ds : List Due). Tells (line.Closed s (cause_in (owed run s before))) ∷ ds) (end-only (owed run s before) fit.0 (well-owed run s before fit.1).sole))
shut run s (Reports l ∷ before) fit live e =
    reported run s l before (shut run s before fit.1 live.1 (ended-shut before (was-ended (has_ended before) e))) fit.0
shut run s (Begins slot ∷ before) fit live e = absurd (let g : true ≡ false = sym (ap (λ (xs : List Own). not (has_ended xs)) live.0) ∙ e in cc)
shut run s (o ∷ before) fit live e = plain-shut o before refl live.0 e
