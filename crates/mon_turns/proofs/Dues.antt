-- What may stand in what is due of a session, and behind what.
use Rattle.std.proofs.Common.{◌≡◌, ℕ, ◌+◌, Bool, true, false, cond, not, ◌&&◌, List, [], ◌∷◌, ◌++◌, map, drop, Option, Some, None, refl, sym, ap, subst}
use Rattle.std.specs.Prelude.{◌==◌}
use Rattle.std.specs.List.{AllByRecursion}
use Rattle.std.proofs.lemmas.Bool.{false≢true}
use Rattle.std.proofs.lemmas.List.{append-nil}
use Rattle.mon_topo.specs.Tags.{tag_of}
use Rattle.of_msgs.specs.Layout.{datapath_of}
use Rattle.mon_barriers.specs.declared.barriers.Asker.{Asker}
use Rattle.mon_barriers.specs.declared.barriers.Asker.TheVariants as asker
use Rattle.mon_table.specs.declared.rule.Rule.{Rule}
use Rattle.mon_table.specs.declared.edit.Edit.{Edit}
use Rattle.mon_report.specs.declared.line.Line.TheVariants.{Fact, Watch, Confirmed as confirmed}
use Rattle.mon_report.specs.declared.line.What.{What}
use Rattle.mon_report.specs.declared.line.What.TheVariants as what
use Rattle.mon_report.specs.declared.line.WatchWhat.{WatchWhat}
use Rattle.mon_report.specs.declared.line.WatchWhat.TheVariants as watch_what
use Rattle.mon_report.specs.declared.line.Cause.{Cause}
use Rattle.mon_report.specs.declared.line.Cause.TheVariants as causes
use Rattle.mon_world.specs.declared.event.Kind.{Kind}
use Rattle.mon_world.specs.declared.event.Kind.TheVariants as kind
use Rattle.mon_world.specs.declared.event.Side.{Side}
use Rattle.mon_world.specs.declared.event.Side.TheVariants.{Controller, Switch}
use Rattle.mon_legal.specs.Runs.{Run}
use Rattle.mon_legal.specs.Owns.{Own, Act}
use Rattle.mon_legal.specs.Owns.Own.{Begins, From_controller, From_switch, Breaks, Closes, Ticks, Returns, Judged, Neighbour, Acts, Offers, Probes, Goes_out, Sends, Carries, Reports, Ends}
use Rattle.mon_legal.specs.Owns.Act.{Closing, Reply, Plan, Step}
use Rattle.mon_legal.specs.Messages.{is_light, is_barrier_reply, is_error, is_own_error, features_request, own_barrier, arming_frames}
use Rattle.mon_legal.specs.Barriers.{edit_out, is_edit, count, answered_by, is_armed, is_barriered}
use Rattle.mon_legal.specs.Datapaths.{from_switch, datapath, catching}
use Rattle.mon_legal.specs.Edits.{passed, expected, unsettled, is_unsettled, find_passed, changes_nothing, rejected_by}
use Rattle.mon_legal.specs.Ties.{tie}
use Rattle.mon_legal.specs.Probes.{live, again, silent, confirmed_by}
use Rattle.mon_legal.specs.Watching.{watch, watch_again, missing, seen_by}
use Rattle.mon_legal.specs.Directly.{Due, of_fault, owed, owes, on_switch, on_barrier, on_error, on_edit, on_judged, on_return, on_act, and_request, ends_in, ends_or_arms, arming_of, armed_line, armed_with, frames_to, fact, told, confirmed_with, is_over, is_closing, is_current, is_own_reply, is_return, refused_reply, rule_of_watch}
use Rattle.mon_legal.specs.Directly.Due.{Frame, Tells, Ending, Probing, Going}
use Rattle.mon_legal.specs.Ordering.{first_due}
use Rattle.mon_legal.proofs.Fitting.{AllFit}

-- the forms ----------------------------------------------------------------------

-- these lines may stand behind something, and the frames and probes
abbrev is_late_what : What → Bool
is_late_what what.Closing = true
is_late_what what.Rejected = true
is_late_what what.Silent = true
is_late_what w = false

abbrev is_late_watch : WatchWhat → Bool
is_late_watch watch_what.Seen = true
is_late_watch watch_what.Missing = true
is_late_watch w = false

abbrev pub is_late : Due → Bool
is_late (Frame to frame) = true
is_late (Going serial) = true
is_late (Tells (Fact s k w)) = is_late_what w
is_late (Tells (Watch s m p n w)) = is_late_watch w
is_late due = false

abbrev pub AllLate : List Due → Type 0
AllLate dues = AllByRecursion (λ d. is_late d ≡ true) dues

-- an end that is due is all that is
abbrev pub Sole : List Due → Type 0
Sole (Ending why ∷ rest) = rest ≡ []
Sole dues = Unit {0}

-- the own barrier stands behind each report that it has to follow
abbrev pub Behind : Bool → List Due → Type 0
Behind true rest = (later : List Due) × (rest ≡ Frame Switch own_barrier ∷ later)
Behind false rest = Unit {0}

abbrev pub Followed : List Due → Type 0
Followed [] = Unit {0}
Followed (Tells (Fact s k w) ∷ rest) = Behind (is_barriered w) rest × Followed rest
Followed (due ∷ rest) = Followed rest

pub record Well (dues : List Due) : Type 0 where
  pub late : AllLate (drop 1 dues)
  pub sole : Sole dues
  pub followed : Followed dues

-- lists --------------------------------------------------------------------------

late-sole : (dues : List Due) → AllLate dues → Sole dues
late-sole [] a = tt
late-sole (Ending why ∷ rest) a = absurd (false≢true a.0)
late-sole (Frame to frame ∷ rest) a = tt
late-sole (Tells line ∷ rest) a = tt
late-sole (Probing job k ∷ rest) a = tt
late-sole (Going serial ∷ rest) a = tt

late-drop : (dues : List Due) → AllLate dues → AllLate (drop 1 dues)
late-drop [] a = tt
late-drop (due ∷ dues) a = a.1

late-append : (xs ys : List Due) → AllLate xs → AllLate ys → AllLate (xs ++ ys)
late-append [] ys a b = b
late-append (x ∷ xs) ys a b = (a.0, late-append xs ys a.1 b)

followed-tail : (due : Due) (dues : List Due) → Followed (due ∷ dues) → Followed dues
followed-tail (Tells (Fact s k w)) dues a = a.1
followed-tail (Frame to frame) dues a = a
followed-tail (Ending why) dues a = a
followed-tail (Probing job k) dues a = a
followed-tail (Going serial) dues a = a
followed-tail (Tells line) dues a = a

behind-append : (b : Bool) (xs ys : List Due) → Behind b xs → Behind b (xs ++ ys)
behind-append true xs ys a = (a.0 ++ ys, ap (λ (zs : List Due). zs ++ ys) a.1)
behind-append false xs ys a = tt

followed-append : (xs ys : List Due) → Followed xs → Followed ys → Followed (xs ++ ys)
followed-append [] ys a b = b
followed-append (Tells (Fact s k w) ∷ xs) ys a b = (behind-append (is_barriered w) xs ys a.0, followed-append xs ys a.1 b)
followed-append (Frame to frame ∷ xs) ys a b = followed-append xs ys a b
followed-append (Ending why ∷ xs) ys a b = followed-append xs ys a b
followed-append (Probing job k ∷ xs) ys a b = followed-append xs ys a b
followed-append (Going serial ∷ xs) ys a b = followed-append xs ys a b
followed-append (Tells line ∷ xs) ys a b = followed-append xs ys a b

sole-append : (xs ys : List Due) → ends_in xs ≡ false → AllLate ys → Sole (xs ++ ys)
sole-append [] ys e a = late-sole ys a
sole-append (Ending why ∷ xs) ys e a = absurd (false≢true (sym e))
sole-append (Frame to frame ∷ xs) ys e a = tt
sole-append (Tells line ∷ xs) ys e a = tt
sole-append (Probing job k ∷ xs) ys e a = tt
sole-append (Going serial ∷ xs) ys e a = tt

drop-append : (xs ys : List Due) → AllLate (drop 1 xs) → AllLate ys → AllLate (drop 1 (xs ++ ys))
drop-append [] ys a b = late-drop ys b
drop-append (x ∷ xs) ys a b = late-append xs ys a b

well-nil : Well []
well-nil = record { late = tt; sole = tt; followed = tt }

well-cond : (b : Bool) (xs ys : List Due) → Well xs → Well ys → Well (cond b xs ys)
well-cond true xs ys a b = a
well-cond false xs ys a b = b

pub well-drop : (dues : List Due) → Well dues → Well (drop 1 dues)
well-drop [] w = well-nil
well-drop (due ∷ dues) w = record { late = late-drop dues w.late; sole = late-sole dues w.late; followed = followed-tail due dues w.followed }

well-append : (xs ys : List Due) → Well xs → ends_in xs ≡ false → AllLate ys → Followed ys → Well (xs ++ ys)
well-append xs ys w e a b = record { late = drop-append xs ys w.late a; sole = sole-append xs ys e a; followed = followed-append xs ys w.followed b }

pub empty-of : (dues : List Due) → first_due dues ≡ None → dues ≡ []
empty-of [] e = refl
empty-of (due ∷ dues) e = absurd (let g : Some due ≡ None = e in cc)

well-behind : (xs dues : List Due) → Well xs → first_due dues ≡ None → Well (xs ++ dues)
well-behind xs dues w e = subst (λ (ds : List Due). Well (xs ++ ds)) (sym (empty-of dues e)) (subst Well (sym (append-nil xs)) w)

-- lines of ticks and returns, frames and probes ---------------------------------------

abbrev is_mild_what : What → Bool
is_mild_what what.Rejected = true
is_mild_what what.Silent = true
is_mild_what w = false

abbrev is_mild : Due → Bool
is_mild (Frame to frame) = true
is_mild (Going serial) = true
is_mild (Tells (Fact s k w)) = is_mild_what w
is_mild (Tells (Watch s m p n w)) = is_late_watch w
is_mild due = false

abbrev AllMild : List Due → Type 0
AllMild dues = AllByRecursion (λ d. is_mild d ≡ true) dues

late-what : (w : What) → is_mild_what w ≡ true → is_late_what w ≡ true
late-what what.Rejected e = refl
late-what what.Silent e = refl
late-what w e = absurd (false≢true e)

mild-late : (due : Due) → is_mild due ≡ true → is_late due ≡ true
mild-late (Frame to frame) e = refl
mild-late (Going serial) e = refl
mild-late (Tells (Fact s k w)) e = late-what w e
mild-late (Tells (Watch s m p n w)) e = e
mild-late due e = absurd (false≢true e)

all-late : (dues : List Due) → AllMild dues → AllLate dues
all-late [] a = tt
all-late (due ∷ dues) a = (mild-late due a.0, all-late dues a.1)

mild-behind : (w : What) (rest : List Due) → is_mild_what w ≡ true → Behind (is_barriered w) rest
mild-behind what.Rejected rest e = tt
mild-behind what.Silent rest e = tt
mild-behind w rest e = absurd (false≢true e)

mild-followed : (dues : List Due) → AllMild dues → Followed dues
mild-followed [] a = tt
mild-followed (Tells (Fact s k w) ∷ dues) a = (mild-behind w dues a.0, mild-followed dues a.1)
mild-followed (Frame to frame ∷ dues) a = mild-followed dues a.1
mild-followed (Ending why ∷ dues) a = mild-followed dues a.1
mild-followed (Probing job k ∷ dues) a = mild-followed dues a.1
mild-followed (Going serial ∷ dues) a = mild-followed dues a.1
mild-followed (Tells line ∷ dues) a = mild-followed dues a.1

mild-well : (dues : List Due) → AllMild dues → Well dues
mild-well dues a = record { late = late-drop dues (all-late dues a); sole = late-sole dues (all-late dues a); followed = mild-followed dues a }

mild-append : (xs ys : List Due) → AllMild xs → AllMild ys → AllMild (xs ++ ys)
mild-append [] ys a b = b
mild-append (x ∷ xs) ys a b = (a.0, mild-append xs ys a.1 b)

mild-frames : (to : Side) (frames : List (List ℕ)) → AllMild (frames_to to frames)
mild-frames to [] = tt
mild-frames to (frame ∷ frames) = (refl, mild-frames to frames)

mild-going : (serials : List ℕ) → AllMild (map Going serials)
mild-going [] = tt
mild-going (n ∷ serials) = (refl, mild-going serials)

mild-silent : (s : ℕ) (edits : List ℕ) → AllMild (map (λ k. fact s k what.Silent) edits)
mild-silent s [] = tt
mild-silent s (k ∷ edits) = (refl, mild-silent s edits)

mild-told : (s : ℕ) (serial : Option ℕ) (w : WatchWhat) (r : Option Rule) → is_late_watch w ≡ true → AllMild (told s serial w r)
mild-told s serial w None e = tt
mild-told s serial w (Some r) e = (e, tt)

-- what each entry makes due ------------------------------------------------------

well-arming : (run : Run) (tag : Option ℕ) → Well (arming_of run tag)
well-arming run None = well-nil
well-arming run (Some tag) = mild-well (frames_to Switch (arming_frames tag run.in_use)) (mild-frames Switch (arming_frames tag run.in_use))

well-ends-or-arms : (run : Run) (d : Option ℕ) (why : Option Cause) → Well (ends_or_arms run d why)
well-ends-or-arms run d (Some why) = record { late = tt; sole = refl; followed = tt }
well-ends-or-arms run None None = well-nil
well-ends-or-arms run (Some d) None = well-arming run (tag_of d run.given)

well-armed-with : (s d : ℕ) (tag : Option ℕ) → Well (armed_with s d tag)
well-armed-with s d None = well-nil
well-armed-with s d (Some tag) = record { late = tt; sole = tt; followed = tt }

well-armed : (run : Run) (s : ℕ) (d : Option ℕ) → Well (armed_line run s d)
well-armed run s None = well-nil
well-armed run s (Some d) = well-armed-with s d (tag_of d run.given)

well-frame : (to : Side) (frame : List ℕ) → Well (Frame to frame ∷ [])
well-frame to frame = record { late = tt; sole = tt; followed = tt }

well-barrier : (run : Run) (s : ℕ) (before : List Own) (frame : List ℕ) (who : Option Asker) → Well (on_barrier run s before frame who)
well-barrier run s before frame None = well-frame Controller frame
well-barrier run s before frame (Some asker.Arming) = well-armed run s (datapath before)
well-barrier run s before frame (Some (asker.Own k)) = well-cond (is_unsettled before k) _ _ (record { late = tt; sole = tt; followed = (tt, tt) }) well-nil
well-barrier run s before frame (Some (asker.Controller edits)) = well-nil

well-error : (s : ℕ) (before : List Own) (frame : List ℕ) (k : Option ℕ) → Well (on_error s before frame k)
well-error s before frame (Some k) = record { late = (refl, tt); sole = tt; followed = (tt, tt) }
well-error s before frame None =
    well-cond (is_own_error frame) _ _ (well-cond (is_armed before) _ _ well-nil (record { late = tt; sole = refl; followed = tt })) (well-frame Controller frame)

well-switch : (run : Run) (s : ℕ) (taken : List ℕ) (before : List Own) (frame : List ℕ) → Well (on_switch run s taken before frame)
unfolding on_switch
well-switch run s taken before frame =
    well-cond (is_own_reply before frame) _ _ (well-ends-or-arms run (datapath_of frame) (refused_reply run taken (datapath_of frame)))
    (well-cond (is_barrier_reply frame) _ _ (well-barrier run s before frame (answered_by before frame))
    (well-cond (is_error frame) _ _ (well-error s before frame (rejected_by frame (passed before)))
    (well-cond (is_return run frame) _ _ well-nil (well-frame Controller frame))))

none-ends : (a b : Bool) → a && not b ≡ true → b ≡ false
none-ends true true e = absurd (false≢true e)
none-ends true false e = refl
none-ends false b e = absurd (false≢true e)

well-requested : (before : List Own) (dues : List Due) → Well dues → Well (and_request before dues)
well-requested before dues w =
    elim ((from_switch before == 0) && not (ends_in dues)) as (λ b. ((from_switch before == 0) && not (ends_in dues)) ≡ b → Well (cond b (dues ++ Frame Switch features_request ∷ []) dues)) [
      | true ↦ λ y. well-append dues (Frame Switch features_request ∷ []) w (none-ends (from_switch before == 0) (ends_in dues) y) (refl, tt) tt
      | false ↦ λ y. w
    ] refl

well-edit : (s k : ℕ) (t : List Rule) (x : Option Edit) → Well (on_edit s k t x) × (ends_in (on_edit s k t x) ≡ false)
well-edit s k t None = (well-nil, refl)
well-edit s k t (Some x) =
    elim (changes_nothing x) as (λ b. let dues : List Due = cond b (fact s k what.NoChange ∷ []) (cond (tie t x) (fact s k what.Overlap ∷ Frame Switch own_barrier ∷ []) []) in Well dues × (ends_in dues ≡ false)) [
      | true ↦ (record { late = tt; sole = tt; followed = (tt, tt) }, refl)
      | false ↦
          elim (tie t x) as (λ b. let dues : List Due = cond b (fact s k what.Overlap ∷ Frame Switch own_barrier ∷ []) [] in Well dues × (ends_in dues ≡ false)) [
            | true ↦ (record { late = (refl, tt); sole = tt; followed = (([], refl), tt) }, refl)
            | false ↦ (well-nil, refl)
          ]
    ]

edit-if : (b : Bool) (xs : List Due) → Well xs × (ends_in xs ≡ false) → Well (cond b xs []) × (ends_in (cond b xs []) ≡ false)
edit-if true xs w = w
edit-if false xs w = (well-nil, refl)

well-told : (s : ℕ) (w : WatchWhat) (r : Option Rule) → Well (told s None w r)
well-told s w None = well-nil
well-told s w (Some r) = record { late = tt; sole = tt; followed = tt }

well-judged : (run : Run) (s : ℕ) (before : List Own) (job k : ℕ) (kind : Kind) → Well (on_judged run s before job k kind)
well-judged run s before job k kind.Probe = record { late = tt; sole = tt; followed = tt }
well-judged run s before job k kind.Indistinguishable =
    well-cond (k == 0) _ _ (well-told s watch_what.Unwatchable (rule_of_watch (watch run before))) (record { late = (refl, tt); sole = tt; followed = (([], refl), tt) })
well-judged run s before job k kind.Skipped = well-nil

confirmed-late : (b : Bool) → AllLate (confirmed_with b) × Followed (confirmed_with b)
confirmed-late true = ((refl, tt), tt)
confirmed-late false = (tt, tt)

well-return : (s : ℕ) (before : List Own) (serial : ℕ) (k : Option ℕ) → Well (on_return s before serial k) × (ends_in (on_return s before serial k) ≡ false)
well-return s before serial None = (well-nil, refl)
well-return s before serial (Some k) =
    elim (is_over (find_passed k before)) as (λ b. Well (Tells (confirmed s k serial) ∷ confirmed_with b) × (ends_in (Tells (confirmed s k serial) ∷ confirmed_with b) ≡ false)) [
      | true ↦ (record { late = (refl, tt); sole = tt; followed = tt }, refl)
      | false ↦ (record { late = tt; sole = tt; followed = tt }, refl)
    ]

well-act : (s : ℕ) (before : List Own) (act : Act) → Well (on_act s before act)
well-act s before (Closing k close) = record { late = (refl, (refl, tt)); sole = tt; followed = (([], refl), tt) }
well-act s before (Reply frame) = well-frame Controller frame
well-act s before (Plan frame) = well-nil
well-act s before (Step to frame change) = well-frame to frame

well-end : (why : Cause) → Well (Ending why ∷ [])
well-end why = record { late = tt; sole = refl; followed = tt }

-- what is due of a session that sees what fits is well ordered
pub well-owed : (run : Run) (s : ℕ) (seen : List Own) → AllFit run s seen → Well (owed run s seen)
well-owed run s [] fit = well-nil
well-owed run s (Sends Controller frame lost ∷ before) fit = well-drop (owed run s before) (well-owed run s before fit.1)
well-owed run s (Sends Switch frame lost ∷ before) fit =
    let w = well-owed run s before fit.1 in
    let edit = edit-if (is_edit before && not (is_closing before)) (on_edit s (count before + 1) (expected (catching run before) (Sends Switch frame lost ∷ before)) (edit_out before))
    (well-edit s (count before + 1) (expected (catching run before) (Sends Switch frame lost ∷ before)) (edit_out before)) in
    well-append (owes run s (owed run s before) before (Sends Switch frame lost)) (drop 1 (owed run s before)) edit.0 edit.1 w.late (well-drop (owed run s before) w).followed
well-owed run s (Goes_out serial near frame ∷ before) fit = well-drop (owed run s before) (well-owed run s before fit.1)
well-owed run s (Reports line ∷ before) fit = well-drop (owed run s before) (well-owed run s before fit.1)
well-owed run s (Probes serial k version x shows ∷ before) fit =
    let w = well-owed run s before fit.1 in record { late = w.late; sole = tt; followed = (well-drop (owed run s before) w).followed }
well-owed run s (Ends ∷ before) fit =
    let w = well-owed run s before fit.1 in record { late = w.late; sole = tt; followed = (well-drop (owed run s before) w).followed }
well-owed run s (Carries lost ∷ before) fit = well-owed run s before fit.1
well-owed run s (Neighbour ∷ before) fit = well-owed run s before fit.1
well-owed run s (Acts act ∷ before) fit = well-behind (on_act s before act) (owed run s before) (well-act s before act) fit.0.2
well-owed run s (Begins None ∷ before) fit = well-behind (Ending causes.TooMany ∷ []) (owed run s before) (well-end causes.TooMany) fit.0
well-owed run s (Begins (Some slot) ∷ before) fit = well-behind [] (owed run s before) well-nil fit.0
well-owed run s (From_controller frame ∷ before) fit = well-behind _ (owed run s before) (well-cond (is_light frame) _ _ (well-frame Switch frame) well-nil) fit.0
well-owed run s (From_switch frame others ∷ before) fit =
    well-behind _ (owed run s before) (well-requested before (on_switch run s others before frame) (well-switch run s others before frame)) fit.0
well-owed run s (Breaks fault ∷ before) fit = well-behind (Ending (of_fault fault) ∷ []) (owed run s before) (well-end (of_fault fault)) fit.0
well-owed run s (Closes ∷ before) fit = well-behind (Ending causes.Peer ∷ []) (owed run s before) (well-end causes.Peer) fit.0
well-owed run s (Ticks version ∷ before) fit =
    let going = again run version (unsettled before) (live run before) ++ watch_again run version (watch run before) in
    let quiet = map (λ k. fact s k what.Silent) (silent run (unsettled before)) in
    let gone = told s None watch_what.Missing (missing run version (watch run before)) in
    well-behind (map Going going ++ (quiet ++ gone)) (owed run s before)
    (mild-well (map Going going ++ (quiet ++ gone)) (mild-append (map Going going) (quiet ++ gone) (mild-going going)
    (mild-append quiet gone (mild-silent s (silent run (unsettled before))) (mild-told s None watch_what.Missing (missing run version (watch run before)) refl)))) fit.0
well-owed run s (Returns serial seen ∷ before) fit =
    let back = well-return s before serial (confirmed_by serial seen before) in
    let mild = mild-told s (Some serial) watch_what.Seen (seen_by serial seen (watch run before)) refl in
    let shown = told s (Some serial) watch_what.Seen (seen_by serial seen (watch run before)) in
    well-behind (on_return s before serial (confirmed_by serial seen before) ++ shown) (owed run s before)
    (well-append (on_return s before serial (confirmed_by serial seen before)) shown back.0 back.1 (all-late shown mild) (mild-followed shown mild)) fit.0
well-owed run s (Judged job k kind fresh ∷ before) fit =
    well-behind _ (owed run s before) (well-cond (is_current run before job k fresh) _ _ (well-judged run s before job k kind) well-nil) fit.0
well-owed run s (Offers job k ∷ before) fit = well-behind [] (owed run s before) well-nil fit.0
