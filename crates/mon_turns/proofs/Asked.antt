-- What has to follow the newest moment is due of its session.
use Rattle.std.proofs.Common.{◌≡◌, ℕ, ◌+◌, Bool, true, false, cond, not, ◌&&◌, List, [], ◌∷◌, ◌++◌, length, drop, find, filter, Option, Some, None, option_map, refl, sym, ap, subst, ◌∙◌}
use Rattle.std.specs.Prelude.{◌==◌, is_none, nat_le, option_and_then}
use Rattle.std.proofs.lemmas.Bool.{false≢true}
use Rattle.of_frame.specs.Header.{kind_of}
use Rattle.of_msgs.specs.Layout.{datapath_of}
use Rattle.mon_topo.specs.Tags.{tag_of}
use Rattle.mon_header.specs.declared.header.Header.{Header}
use Rattle.mon_packet.specs.declared.nonce.Nonce.{Nonce}
use Rattle.mon_packet.specs.Reading.{Read, parsed}
use Rattle.mon_shows.specs.declared.seen.Seen.{Seen}
use Rattle.mon_barriers.specs.declared.barriers.Asker.{Asker}
use Rattle.mon_barriers.specs.declared.barriers.Asker.TheVariants as asker
use Rattle.mon_table.specs.declared.rule.Rule.{Rule}
use Rattle.mon_table.specs.declared.edit.Edit.{Edit}
use Rattle.mon_report.specs.declared.line.Line.{Line as ReportLine}
use Rattle.mon_report.specs.declared.line.Line.TheVariants.{Fact, Confirmed}
use Rattle.mon_report.specs.declared.line.What.{What}
use Rattle.mon_report.specs.declared.line.What.TheVariants as what
use Rattle.mon_report.specs.declared.line.WatchWhat.TheVariants as watch_what
use Rattle.mon_report.specs.declared.line.Cause.{Cause}
use Rattle.mon_report.specs.declared.line.Cause.TheVariants as why
use Rattle.mon_world.specs.declared.event.Kind.{Kind}
use Rattle.mon_world.specs.declared.event.Kind.TheVariants as kind
use Rattle.mon_world.specs.declared.event.Side.{Side}
use Rattle.mon_world.specs.declared.event.Side.TheVariants.{Controller, Switch}
use Rattle.mon_world.specs.declared.event.Note.TheVariants.{Verdict}
use Rattle.mon_world.specs.declared.history.Entry.TheVariants.{Noted, Put}
use Rattle.mon_legal.specs.Runs.{Run}
use Rattle.mon_legal.specs.Changing.{only}
use Rattle.mon_legal.specs.Owns.{Own}
use Rattle.mon_legal.specs.Owns.Own.{From_switch, Returns, Acts, Sends}
use Rattle.mon_legal.specs.Owns.Act.{Closing, Reply, Plan, Step}
use Rattle.mon_legal.specs.Messages.{is_features_reply, is_barrier_reply, is_error, is_own_error, is_packet_in, is_flow_removed, is_error_for, is_vanished, carried_in, features_request, own_barrier}
use Rattle.mon_legal.specs.Barriers.{edit_out, is_edit, count, answered_by, is_arming, own_edit, is_armed, is_barriered, unanswered, first_asker, guards}
use Rattle.mon_legal.specs.Datapaths.{from_switch, replied, datapath, tag, catching}
use Rattle.mon_legal.specs.Edits.{Passed, passed, expected, is_unsettled, changes_nothing, rejected_by, after_frame, settle_if, without_number, tells_of_vanishing}
use Rattle.mon_legal.specs.Ties.{tie}
use Rattle.mon_legal.specs.Probes.{confirmed_by, fits}
use Rattle.mon_legal.specs.Watching.{Watch, watch, seen_by, line_of}
use Rattle.mon_legal.specs.Directly.{Due, owed, on_switch, on_barrier, on_error, on_edit, on_judged, on_return, and_request, ends_in, ends_or_arms, armed_line, armed_with, fact, told, is_closing, is_own_reply, refused_reply, rule_of_watch}
use Rattle.mon_legal.specs.Directly.Due.{Frame, Tells, Ending, Probing}
use Rattle.mon_legal.specs.Ordering.{first_due}
use Rattle.mon_legal.specs.Moments.{Moment}
use Rattle.mon_legal.specs.Moments.Moment.{Is, Came}
use Rattle.mon_legal.specs.Jobs.{Job}
use Rattle.mon_legal.specs.Sessions.{Parts, part, parts_of, is_open, if_open, neighbour_if, arms, arms_if, returned, returns_in, returns_with, seen_at, of_frame, others_if, open_with_slot, other_datapaths}
use Rattle.mon_legal.specs.Answers.{current}
use Rattle.mon_legal.specs.Unmonitorable.{answer_line, passing_line, passed_line}
use Rattle.mon_legal.specs.Watches.{unwatchable_for}
use Rattle.mon_legal.specs.Confirming.{settles}
use Rattle.mon_legal.specs.Lasting as lasting
use Rattle.mon_legal.specs.Lasting.{refused_frame, when}
use Rattle.mon_turns.proofs.Born.{and-no}
use Rattle.mon_turns.proofs.Dues.{Behind, Followed}
use Rattle.mon_turns.proofs.Seeing.{put-own, came-own, taken_at, other-kind, bears-nothing, judged-owes, three-true}
use Rattle.mon_legal.proofs.Coming.{some-same}

-- the first of what is due --------------------------------------------------------

pub first-append : (xs ys : List Due) (d : Due) → first_due xs ≡ Some d → first_due (xs ++ ys) ≡ Some d
first-append [] ys d e = absurd (let g : None ≡ Some d = e in cc)
first-append (x ∷ xs) ys d e = e

first-requested : (before : List Own) (dues : List Due) (d : Due) → first_due dues ≡ Some d → first_due (and_request before dues) ≡ Some d
first-requested before dues d e =
    elim ((from_switch before == 0) && not (ends_in dues)) as (λ b. first_due (cond b (dues ++ Frame Switch features_request ∷ []) dues) ≡ Some d) [
      | true ↦ first-append dues (Frame Switch features_request ∷ []) d e
      | false ↦ e
    ]

-- answers ------------------------------------------------------------------------

judged-line : (run : Run) (s : ℕ) (before : List Own) (j : Job) (kind : Kind) (l : ReportLine) → j.session ≡ s → answer_line (Some j) kind ≡ Some l
    → first_due (on_judged run s before j.number j.edit kind) ≡ Some (Tells l)
judged-line run s before j kind.Probe l es e = absurd (let g : None ≡ Some l = e in cc)
judged-line run s before j kind.Skipped l es e = absurd (let g : None ≡ Some l = e in cc)
judged-line run s before j kind.Indistinguishable l es e =
    elim (j.edit == 0) as (λ b. cond b None (Some (Fact j.session j.edit what.Indistinguishable)) ≡ Some l
    → first_due (cond b (told s None watch_what.Unwatchable (rule_of_watch (watch run before))) (fact s j.edit what.Indistinguishable ∷ Frame Switch own_barrier ∷ [])) ≡ Some (Tells l)) [
      | true ↦ λ g. absurd (let h : None ≡ Some l = g in cc)
      | false ↦ λ g. ap (λ (n : ℕ). Some (fact n j.edit what.Indistinguishable)) (sym es) ∙ ap (λ (x : ReportLine). Some (Tells x)) (some-same (Fact j.session j.edit what.Indistinguishable) l g)
    ] e

pub asks-answer : (run : Run) (f : List Moment) (number : ℕ) (kind : Kind) (j : Job) (l : ReportLine) → current run f number ≡ Some j → answer_line (Some j) kind ≡ Some l
    → first_due (owed run j.session (part run j.session (Is (Noted (Verdict number kind)) ∷ f))) ≡ Some (Tells l)
asks-answer run f number kind j l e g =
    ap first_due (judged-owes run f number kind j e)
    ∙ first-append _ (owed run j.session (part run j.session f)) (Tells l) (judged-line run j.session (part run j.session f) j kind l refl g)

pub asks-probe : (run : Run) (f : List Moment) (number : ℕ) (j : Job) → current run f number ≡ Some j
    → first_due (owed run j.session (part run j.session (Is (Noted (Verdict number kind.Probe)) ∷ f))) ≡ Some (Probing j.number j.edit)
asks-probe run f number j e = ap first_due (judged-owes run f number kind.Probe j e)

watch-line : (s : ℕ) (w : Option Watch) (l : ReportLine) → option_map (λ x. line_of s x.rule None watch_what.Unwatchable) w ≡ Some l
    → first_due (told s None watch_what.Unwatchable (rule_of_watch w)) ≡ Some (Tells l)
watch-line s None l e = absurd (let g : None ≡ Some l = e in cc)
watch-line s (Some w) l e = ap (λ (x : ReportLine). Some (Tells x)) (some-same _ l e)

unwatchable-line : (run : Run) (f : List Moment) (j : Job) (kind : Kind) (l : ReportLine) → unwatchable_for run f (Some j) kind ≡ Some l
    → first_due (on_judged run j.session (part run j.session f) j.number j.edit kind) ≡ Some (Tells l)
unwatchable-line run f j kind.Probe l e = absurd (let g : None ≡ Some l = e in cc)
unwatchable-line run f j kind.Skipped l e = absurd (let g : None ≡ Some l = e in cc)
unwatchable-line run f j kind.Indistinguishable l e =
    let s = j.session in
    let before = part run s f in
    elim (j.edit == 0) as (λ b. cond b (option_map (λ w. line_of s w.rule None watch_what.Unwatchable) (watch run before)) None ≡ Some l
    → first_due (cond b (told s None watch_what.Unwatchable (rule_of_watch (watch run before))) (fact s j.edit what.Indistinguishable ∷ Frame Switch own_barrier ∷ [])) ≡ Some (Tells l)) [
      | true ↦ λ g. watch-line s (watch run before) l g
      | false ↦ λ g. absurd (let h : None ≡ Some l = g in cc)
    ] e

pub asks-unwatchable : (run : Run) (f : List Moment) (number : ℕ) (kind : Kind) (j : Job) (l : ReportLine) → current run f number ≡ Some j → unwatchable_for run f (Some j) kind ≡ Some l
    → first_due (owed run j.session (part run j.session (Is (Noted (Verdict number kind)) ∷ f))) ≡ Some (Tells l)
asks-unwatchable run f number kind j l e g =
    ap first_due (judged-owes run f number kind j e)
    ∙ first-append _ (owed run j.session (part run j.session f)) (Tells l) (unwatchable-line run f j kind l g)

-- edits --------------------------------------------------------------------------

passing-first : (s k : ℕ) (t : List Rule) (o : Option Edit) (l : ReportLine) → option_and_then (passing_line s k t) o ≡ Some l → first_due (on_edit s k t o) ≡ Some (Tells l)
passing-first s k t None l e = absurd (let g : None ≡ Some l = e in cc)
passing-first s k t (Some x) l e =
    elim (changes_nothing x) as (λ b. cond b (Some (Fact s k what.NoChange)) (cond (tie t x) (Some (Fact s k what.Overlap)) None) ≡ Some l
    → first_due (cond b (fact s k what.NoChange ∷ []) (cond (tie t x) (fact s k what.Overlap ∷ Frame Switch own_barrier ∷ []) [])) ≡ Some (Tells l)) [
      | true ↦ λ g. ap (λ (y : ReportLine). Some (Tells y)) (some-same _ l g)
      | false ↦ λ g.
          elim (tie t x) as (λ b. cond b (Some (Fact s k what.Overlap)) None ≡ Some l
          → first_due (cond b (fact s k what.Overlap ∷ Frame Switch own_barrier ∷ []) []) ≡ Some (Tells l)) [
            | true ↦ λ h. ap (λ (y : ReportLine). Some (Tells y)) (some-same _ l h)
            | false ↦ λ h. absurd (let q : None ≡ Some l = h in cc)
          ] g
    ] e

passing-if : (b : Bool) (s k : ℕ) (t : List Rule) (o : Option Edit) (l : ReportLine) (rest : List Due) → cond b (option_and_then (passing_line s k t) o) None ≡ Some l
    → first_due (cond b (on_edit s k t o) [] ++ rest) ≡ Some (Tells l)
passing-if true s k t o l rest e = first-append (on_edit s k t o) rest (Tells l) (passing-first s k t o l e)
passing-if false s k t o l rest e = absurd (let g : None ≡ Some l = e in cc)

pub asks-passed : (run : Run) (f : List Moment) (s : ℕ) (frame : List ℕ) (lost : Bool) (l : ReportLine) → is_open (part run s f) ≡ true
    → passed_line run (Is (Put s Switch frame lost) ∷ f) ≡ Some l → first_due (owed run s (part run s (Is (Put s Switch frame lost) ∷ f))) ≡ Some (Tells l)
asks-passed run f s frame lost l there e =
    let p = part run s f in
    let own = put-own run f s Switch frame lost there in
    let test = is_edit p && not (is_closing p) in
    ap (λ (seen : List Own). first_due (owed run s seen)) own
    ∙ passing-if test s (count p + 1) (expected (catching run p) (Sends Switch frame lost ∷ p)) (edit_out p) l (drop 1 (owed run s p))
    (subst (λ (seen : List Own). cond test (option_and_then (passing_line s (count p + 1) (expected (catching run p) seen)) (edit_out p)) None ≡ Some l) own e)

closing-first : (run : Run) (s : ℕ) (p : List Own) (frame : List ℕ) (lost : Bool) → is_closing p ≡ true
    → first_due (owed run s (Sends Switch frame lost ∷ p)) ≡ Some (Tells (Fact s (count p + 1) what.Closing))
closing-first run s (Acts (Closing k close) ∷ before) frame lost e = refl
closing-first run s (Acts (Reply x) ∷ before) frame lost e = absurd (false≢true e)
closing-first run s (Acts (Plan x) ∷ before) frame lost e = absurd (false≢true e)
closing-first run s (Acts (Step to x change) ∷ before) frame lost e = absurd (false≢true e)
closing-first run s [] frame lost e = absurd (false≢true e)
closing-first run s (o ∷ before) frame lost e = absurd (false≢true e)

pub asks-closing : (run : Run) (f : List Moment) (s : ℕ) (frame : List ℕ) (lost : Bool) → is_open (part run s f) ≡ true → is_closing (part run s f) ≡ true
    → first_due (owed run s (part run s (Is (Put s Switch frame lost) ∷ f))) ≡ Some (Tells (Fact s (count (part run s f) + 1) what.Closing))
asks-closing run f s frame lost there e =
    ap (λ (seen : List Own). first_due (owed run s seen)) (put-own run f s Switch frame lost there) ∙ closing-first run s (part run s f) frame lost e

-- barriers behind reports -----------------------------------------------------------

barrier-first : (b : Bool) (rest : List Due) → Behind b rest → b ≡ true → first_due rest ≡ Some (Frame Switch own_barrier)
barrier-first true rest a e = ap first_due a.1
barrier-first false rest a e = absurd (false≢true e)

pub barrier-next : (s k : ℕ) (w : What) (dues : List Due) → Followed dues → first_due dues ≡ Some (Tells (Fact s k w)) → is_barriered w ≡ true
    → first_due (drop 1 dues) ≡ Some (Frame Switch own_barrier)
barrier-next s k w [] a e y = absurd (let g : None ≡ Some (Tells (Fact s k w)) = e in cc)
barrier-next s k w (d ∷ rest) a e y =
    let same : d ≡ Tells (Fact s k w) = some-same d (Tells (Fact s k w)) e in
    let b = subst (λ (x : Due). Followed (x ∷ rest)) same a in
    barrier-first (is_barriered w) rest b.0 y

-- returns ------------------------------------------------------------------------

first-no : (a b : Bool) → a ≡ false → a && b ≡ false
first-no true b e = absurd (false≢true (sym e))
first-no false b e = refl

find-none : (test : Passed → Bool) (ps : List Passed) → ((p : Passed) → test p ≡ false) → find test ps ≡ None
find-none test [] k = refl
find-none test (p ∷ ps) k = ap (λ (b : Bool). cond b (Some p) (find test ps)) (k p) ∙ find-none test ps k

pub none-rejected : (frame : List ℕ) (ps : List Passed) → is_error frame ≡ false → rejected_by frame ps ≡ None
none-rejected frame ps e =
    ap (option_map (λ p. p.number)) (find-none (λ p. not p.settled && is_error_for frame p.frame) ps
    (λ p. and-no (not p.settled) (is_error_for frame p.frame)
    (first-no (is_error frame) _ e)))

-- a PACKET_IN changes no edit
passed-packet : (before : List Own) (frame others : List ℕ) → is_packet_in frame ≡ true → passed (From_switch frame others ∷ before) ≡ passed before
passed-packet before frame others e =
    let ps = passed before in
    let removed : tells_of_vanishing before frame ≡ false = first-no (is_vanished frame) (is_armed before) (first-no (is_flow_removed frame) _ (other-kind (kind_of frame) 10 11 e refl)) in
    let answers : answered_by before frame ≡ None = ap (λ (b : Bool). cond b (first_asker (unanswered before)) None) (other-kind (kind_of frame) 10 19 e refl) in
    ap (λ (b : Bool). after_frame b (own_edit (answered_by before frame)) frame (guards before) ps) removed
    ∙ ap (λ (o : Option Asker). settle_if (own_edit o) (without_number (rejected_by frame ps) ps)) answers
    ∙ ap (λ (o : Option ℕ). without_number o ps) (none-rejected frame ps (other-kind (kind_of frame) 10 1 e refl))

first-of-and : (a b : Bool) → a && b ≡ true → a ≡ true
first-of-and true b e = refl
first-of-and false b e = e

read-in : (frame : List ℕ) (found : Header × Option Nonce) → carried_in frame ≡ Some found → is_packet_in frame ≡ true
read-in frame found e =
    elim (is_packet_in frame && nat_le 18 (length frame)) as (λ b. (is_packet_in frame && nat_le 18 (length frame)) ≡ b → cond b (parsed (drop 18 frame)) None ≡ Some found → is_packet_in frame ≡ true) [
      | true ↦ λ y g. first-of-and (is_packet_in frame) (nat_le 18 (length frame)) y
      | false ↦ λ y g. absurd (let h : None ≡ Some found = g in cc)
    ] refl e

abbrev tail_of : List Own → List Own
tail_of [] = []
tail_of (o ∷ os) = os

one-return : (key : ℕ) (d : Option ℕ) (frame : List ℕ) (h : Header) (n : Option Nonce) → tail_of (returns_with key d frame h n) ≡ []
one-return key (Some d) frame h (Some n) = elim (n.key == key) as (λ b. tail_of (only b (Returns n.serial (seen_at d frame h) ∷ [])) ≡ []) [
  | true ↦ refl
  | false ↦ refl
]
one-return key (Some d) frame h None = refl
one-return key None frame h n = refl

return-form : (run : Run) (parts : Parts) (r : ℕ) (frame : List ℕ) (o : Read) (x : Own) (os : List Own) → carried_in frame ≡ o → returns_in run.key parts r frame o ≡ x ∷ os
    → (is_packet_in frame ≡ true) × (os ≡ [])
return-form run parts r frame None x os e g = absurd (let h : [] ≡ x ∷ os = g in cc)
return-form run parts r frame (Some found) x os e g = (read-in frame found e, sym (ap tail_of g) ∙ one-return run.key (datapath (parts r)) frame found.0 found.1)

-- what an open session sees of a return
pub returned-own : (run : Run) (f : List Moment) (s r : ℕ) (frame : List ℕ) (x : Own) (os : List Own) → is_open (part run s f) ≡ true → returned run (parts_of run f) r Switch frame ≡ x ∷ os
    → (is_packet_in frame ≡ true) × (part run s (Came r Switch frame ∷ f) ≡ x ∷ (of_frame (r == s) run (parts_of run f) r f Switch frame ++ part run s f))
returned-own run f s r frame x os there e =
    let P = parts_of run f in
    let p = part run s f in
    let form = return-form run P r frame (carried_in frame) x os refl e in
    let unarmed : arms P r Switch frame ≡ false = ap (λ (b : Bool). arms_if b P r frame) (other-kind (kind_of frame) 10 19 form.0 refl) in
    let from = of_frame (r == s) run P r f Switch frame in
    let whole : returned run P r Switch frame ≡ x ∷ [] = e ∙ ap (λ (ys : List Own). x ∷ ys) form.1 in (
      form.0,
      ap (λ (b : Bool). if_open P s (neighbour_if run P s r b ++ (returned run P r Switch frame ++ from)) ++ p) unarmed
          ∙ ap (λ (xs : List Own). if_open P s (xs ++ from) ++ p) whole
          ∙ ap (λ (b : Bool). only b (x ∷ from) ++ p) there,
    )

passed-from : (run : Run) (f : List Moment) (P : Parts) (b : Bool) (r : ℕ) (frame : List ℕ) (p : List Own) → is_packet_in frame ≡ true
    → passed (of_frame b run P r f Switch frame ++ p) ≡ passed p
passed-from run f P true r frame p e = passed-packet p frame (others_if (is_features_reply frame) P r (open_with_slot run f)) e
passed-from run f P false r frame p e = refl

fits-from : (run : Run) (f : List Moment) (P : Parts) (b : Bool) (r : ℕ) (frame : List ℕ) (p : List Own) (serial : ℕ) (seen : Seen)
    → is_packet_in frame ≡ true → confirmed_by serial seen (of_frame b run P r f Switch frame ++ p) ≡ confirmed_by serial seen p
fits-from run f P true r frame p serial seen e =
    ap (λ (ps : List Passed). option_map (λ q. q.number) (find (λ q. fits serial seen p q.number) (filter (λ q. not q.settled) ps)))
    (passed-packet p frame (others_if (is_features_reply frame) P r (open_with_slot run f)) e)
fits-from run f P false r frame p serial seen e = refl

watch-from : (run : Run) (f : List Moment) (P : Parts) (b : Bool) (r : ℕ) (frame : List ℕ) (p : List Own) → watch run (of_frame b run P r f Switch frame ++ p) ≡ watch run p
watch-from run f P true r frame p = refl
watch-from run f P false r frame p = refl

return-first : (s : ℕ) (before : List Own) (serial : ℕ) (o : Option ℕ) (l : ReportLine) → option_map (λ k. Confirmed s k serial) o ≡ Some l → first_due (on_return s before serial o) ≡ Some (Tells l)
return-first s before serial None l e = absurd (let g : None ≡ Some l = e in cc)
return-first s before serial (Some k) l e = ap (λ (x : ReportLine). Some (Tells x)) (some-same _ l e)

-- the entry that confirms is a return
abbrev pub IsReturn : List Own → Type 0
IsReturn returns = (serial : ℕ) × (seen : Seen) × (os : List Own) × (returns ≡ Returns serial seen ∷ os)

pub asks-confirmed : (run : Run) (f : List Moment) (s r : ℕ) (frame : List ℕ) (serial : ℕ) (seen : Seen) (os : List Own) (l : ReportLine) → is_open (part run s f) ≡ true
    → returned run (parts_of run f) r Switch frame ≡ Returns serial seen ∷ os → option_map (λ k. Confirmed s k serial) (confirmed_by serial seen (part run s f)) ≡ Some l
    → first_due (owed run s (part run s (Came r Switch frame ∷ f))) ≡ Some (Tells l)
asks-confirmed run f s r frame serial seen os l there e g =
    let P = parts_of run f in
    let p = part run s f in
    let own = returned-own run f s r frame (Returns serial seen) os there e in
    let before = of_frame (r == s) run P r f Switch frame ++ p in
    let shown = told s (Some serial) watch_what.Seen (seen_by serial seen (watch run before)) in
    ap (λ (xs : List Own). first_due (owed run s xs)) own.1
    ∙ first-append (on_return s before serial (confirmed_by serial seen before) ++ shown) (owed run s before) (Tells l)
    (first-append (on_return s before serial (confirmed_by serial seen before)) shown (Tells l)
    (return-first s before serial (confirmed_by serial seen before) l
    (ap (option_map (λ k. Confirmed s k serial)) (fits-from run f P (r == s) r frame p serial seen own.0) ∙ g)))

-- something is due where the watch's probe came back
not-empty : (xs ys zs : List Due) → (ys ≡ [] → ⊥) → (xs ++ ys) ++ zs ≡ [] → ⊥
not-empty [] [] zs k e = k refl
not-empty [] (y ∷ ys) zs k e = let g : y ∷ (ys ++ zs) ≡ [] = e in cc
not-empty (x ∷ xs) ys zs k e = let g : x ∷ ((xs ++ ys) ++ zs) ≡ [] = e in cc

told-some : (s serial : ℕ) (o : Option Rule) (l : ReportLine) → option_map (λ r. line_of s r (Some serial) watch_what.Seen) o ≡ Some l → told s (Some serial) watch_what.Seen o ≡ [] → ⊥
told-some s serial None l e g = absurd (let h : None ≡ Some l = e in cc)
told-some s serial (Some r) l e g = let h : Tells (line_of s r (Some serial) watch_what.Seen) ∷ [] ≡ [] = g in cc

pub asks-seen : (run : Run) (f : List Moment) (s r : ℕ) (frame : List ℕ) (serial : ℕ) (seen : Seen) (os : List Own) (l : ReportLine) → is_open (part run s f) ≡ true
    → returned run (parts_of run f) r Switch frame ≡ Returns serial seen ∷ os → option_map (λ x. line_of s x (Some serial) watch_what.Seen) (seen_by serial seen (watch run (part run s f))) ≡ Some l
    → owed run s (part run s (Came r Switch frame ∷ f)) ≡ [] → ⊥
asks-seen run f s r frame serial seen os l there e g none =
    let P = parts_of run f in
    let p = part run s f in
    let own = returned-own run f s r frame (Returns serial seen) os there e in
    let before = of_frame (r == s) run P r f Switch frame ++ p in
    not-empty (on_return s before serial (confirmed_by serial seen before)) (told s (Some serial) watch_what.Seen (seen_by serial seen (watch run before))) (owed run s before)
    (told-some s serial (seen_by serial seen (watch run before)) l
    (ap (λ (w : Option Watch). option_map (λ x. line_of s x (Some serial) watch_what.Seen) (seen_by serial seen w)) (watch-from run f P (r == s) r frame p) ∙ g))
    (sym (ap (owed run s) own.1) ∙ none)

-- frames of the switch --------------------------------------------------------------

not-own : (before : List Own) (frame : List ℕ) → is_features_reply frame ≡ false → is_own_reply before frame ≡ false
not-own before frame e = and-no (is_none (replied before)) (not (from_switch before == 0) && is_features_reply frame) (and-no (not (from_switch before == 0)) (is_features_reply frame) e)

first-fate : (a : Bool) (x y : List Due) → a ≡ true → cond a x y ≡ x
first-fate true x y e = refl
first-fate false x y e = absurd (false≢true e)

second-fate : (a b : Bool) (x y z : List Due) → a ≡ false → b ≡ true → cond a x (cond b y z) ≡ y
second-fate true b x y z e g = absurd (false≢true (sym e))
second-fate false true x y z e g = refl
second-fate false false x y z e g = absurd (false≢true g)

third-fate : (a b c : Bool) (x y z w : List Due) → a ≡ false → b ≡ false → c ≡ true → cond a x (cond b y (cond c z w)) ≡ z
third-fate true b c x y z w e g h = absurd (false≢true (sym e))
third-fate false true c x y z w e g h = absurd (false≢true (sym g))
third-fate false false true x y z w e g h = refl
third-fate false false false x y z w e g h = absurd (false≢true h)

pub on-barrier-reply : (run : Run) (s : ℕ) (taken : List ℕ) (before : List Own) (frame : List ℕ) → is_barrier_reply frame ≡ true
    → on_switch run s taken before frame ≡ on_barrier run s before frame (answered_by before frame)
unfolding on_switch
on-barrier-reply run s taken before frame e =
    second-fate (is_own_reply before frame) (is_barrier_reply frame) _ _ _ (not-own before frame (other-kind (kind_of frame) 19 6 e refl)) e

pub on-error-frame : (run : Run) (s : ℕ) (taken : List ℕ) (before : List Own) (frame : List ℕ) → is_error frame ≡ true
    → on_switch run s taken before frame ≡ on_error s before frame (rejected_by frame (passed before))
unfolding on_switch
on-error-frame run s taken before frame e =
    third-fate (is_own_reply before frame) (is_barrier_reply frame) (is_error frame) _ _ _ _ (not-own before frame (other-kind (kind_of frame) 1 6 e refl))
    (other-kind (kind_of frame) 1 19 e refl) e

pub on-own-reply : (run : Run) (s : ℕ) (taken : List ℕ) (before : List Own) (frame : List ℕ) → is_own_reply before frame ≡ true
    → on_switch run s taken before frame ≡ ends_or_arms run (datapath_of frame) (refused_reply run taken (datapath_of frame))
unfolding on_switch
on-own-reply run s taken before frame e = first-fate (is_own_reply before frame) _ _ e

-- what a frame of its switch makes due first of an open session
pub came-first : (run : Run) (f : List Moment) (s : ℕ) (frame : List ℕ) (dues : List Due) (d : Due) → is_open (part run s f) ≡ true → carried_in frame ≡ None
    → on_switch run s (taken_at run f s frame) (part run s f) frame ≡ dues → first_due dues ≡ Some d
    → first_due (owed run s (part run s (Came s Switch frame ∷ f))) ≡ Some d
came-first run f s frame dues d there none e g =
    let p = part run s f in
    let all = on_switch run s (taken_at run f s frame) p frame in
    ap (λ (seen : List Own). first_due (owed run s seen)) (came-own run f s frame there none)
    ∙ first-append (and_request p all) (owed run s p) d (first-requested p all d (ap first_due e ∙ g))

replies-only : (before : List Own) (frame : List ℕ) (who : Asker) → answered_by before frame ≡ Some who → is_barrier_reply frame ≡ true
replies-only before frame who e =
    elim (is_barrier_reply frame) as (λ b. cond b (first_asker (unanswered before)) None ≡ Some who → b ≡ true) [
      | true ↦ λ g. refl
      | false ↦ λ g. absurd (let h : None ≡ Some who = g in cc)
    ] e

settles-first : (run : Run) (s : ℕ) (before : List Own) (frame : List ℕ) (o : Option Asker) (l : ReportLine) → settles s before (own_edit o) ≡ Some l
    → (who : Asker) × (o ≡ Some who) × (first_due (on_barrier run s before frame o) ≡ Some (Tells l))
settles-first run s before frame None l e = absurd (let g : None ≡ Some l = e in cc)
settles-first run s before frame (Some asker.Arming) l e = absurd (let g : None ≡ Some l = e in cc)
settles-first run s before frame (Some (asker.Controller edits)) l e = absurd (let g : None ≡ Some l = e in cc)
settles-first run s before frame (Some (asker.Own k)) l e = (
  asker.Own k,
  refl,
  elim (is_unsettled before k) as (λ b. cond b (Some (Fact s k what.Settled)) None ≡ Some l → first_due (cond b (fact s k what.Settled ∷ []) []) ≡ Some (Tells l)) [
    | true ↦ λ g. ap (λ (x : ReportLine). Some (Tells x)) (some-same _ l g)
    | false ↦ λ g. absurd (let h : None ≡ Some l = g in cc)
  ] e,
)

pub asks-settled : (run : Run) (f : List Moment) (s : ℕ) (frame : List ℕ) (l : ReportLine) → is_open (part run s f) ≡ true
    → settles s (part run s f) (own_edit (answered_by (part run s f) frame)) ≡ Some l → first_due (owed run s (part run s (Came s Switch frame ∷ f))) ≡ Some (Tells l)
asks-settled run f s frame l there e =
    let p = part run s f in
    let found = settles-first run s p frame (answered_by p frame) l e in
    let reply = replies-only p frame found.0 found.1 in
    came-first run f s frame _ (Tells l) there (bears-nothing frame (other-kind (kind_of frame) 19 10 reply refl)) (on-barrier-reply run s (taken_at run f s frame) p frame reply) found.2

with-tag : (run : Run) (s d : ℕ) (t : Option ℕ) (l : ReportLine) → lasting.armed_with s (Some d) t ≡ Some l → first_due (armed_with s d t) ≡ Some (Tells l)
with-tag run s d None l e = absurd (let h : None ≡ Some l = e in cc)
with-tag run s d (Some t) l e = ap (λ (x : ReportLine). Some (Tells x)) (some-same _ l e)

arms-first : (run : Run) (s : ℕ) (before : List Own) (d t : Option ℕ) (l : ReportLine) → t ≡ option_and_then (λ n. tag_of n run.given) d → lasting.armed_with s d t ≡ Some l
    → first_due (armed_line run s d) ≡ Some (Tells l)
arms-first run s before None t l e g = absurd (let h : None ≡ Some l = g in cc)
arms-first run s before (Some d) t l e g = with-tag run s d (tag_of d run.given) l (subst (λ (o : Option ℕ). lasting.armed_with s (Some d) o ≡ Some l) e g)

armed-first : (run : Run) (s : ℕ) (before : List Own) (frame : List ℕ) (o : Option Asker) (l : ReportLine) → is_arming o ≡ true
    → lasting.armed_with s (datapath before) (tag run before) ≡ Some l → (who : Asker) × (o ≡ Some who) × (first_due (on_barrier run s before frame o) ≡ Some (Tells l))
armed-first run s before frame None l y e = absurd (false≢true y)
armed-first run s before frame (Some (asker.Own k)) l y e = absurd (false≢true y)
armed-first run s before frame (Some (asker.Controller edits)) l y e = absurd (false≢true y)
armed-first run s before frame (Some asker.Arming) l y e = (asker.Arming, refl, arms-first run s before (datapath before) (tag run before) l refl e)

pub asks-armed : (run : Run) (f : List Moment) (s : ℕ) (frame : List ℕ) (l : ReportLine) → is_open (part run s f) ≡ true
    → is_arming (answered_by (part run s f) frame) ≡ true → lasting.armed_with s (datapath (part run s f)) (tag run (part run s f)) ≡ Some l
    → first_due (owed run s (part run s (Came s Switch frame ∷ f))) ≡ Some (Tells l)
asks-armed run f s frame l there y e =
    let p = part run s f in
    let found = armed-first run s p frame (answered_by p frame) l y e in
    let reply = replies-only p frame found.0 found.1 in
    came-first run f s frame _ (Tells l) there (bears-nothing frame (other-kind (kind_of frame) 19 10 reply refl)) (on-barrier-reply run s (taken_at run f s frame) p frame reply) found.2

-- ends ---------------------------------------------------------------------------

pub last-of-three : (a b c : Bool) → a && (b && c) ≡ true → c ≡ true
last-of-three a b c e = (three-true a b c e).2

refused-first : (run : Run) (d : Option ℕ) (o : Option Cause) (c : Cause) → o ≡ Some c → first_due (ends_or_arms run d o) ≡ Some (Ending c)
refused-first run d None c e = absurd (let g : None ≡ Some c = e in cc)
refused-first run d (Some x) c e = ap (λ (y : Cause). Some (Ending y)) (some-same x c e)

pub same-taken : (run : Run) (f : List Moment) (s : ℕ) (frame : List ℕ) → is_features_reply frame ≡ true → taken_at run f s frame ≡ other_datapaths (parts_of run f) s (open_with_slot run f)
same-taken run f s frame e = ap (λ (b : Bool). others_if b (parts_of run f) s (open_with_slot run f)) e

no-rejection : (o : Option ℕ) → is_none o ≡ true → o ≡ None
no-rejection None e = refl
no-rejection (Some k) e = absurd (false≢true e)

error-ends : (s : ℕ) (before : List Own) (frame : List ℕ) (o : Option ℕ) → is_own_error frame ≡ true → is_none o ≡ true → not (is_armed before) ≡ true
    → first_due (on_error s before frame o) ≡ Some (Ending why.NotArmed)
error-ends s before frame (Some k) x y z = absurd (false≢true y)
error-ends s before frame None x y z =
    ap (λ (b : Bool). first_due (cond b (cond (is_armed before) [] (Ending why.NotArmed ∷ [])) (Frame Controller frame ∷ []))) x
    ∙ elim (is_armed before) as (λ b. not b ≡ true → first_due (cond b [] (Ending why.NotArmed ∷ [])) ≡ Some (Ending why.NotArmed)) [
      | true ↦ λ e. absurd (false≢true e)
      | false ↦ λ e. refl
    ] z

pub asks-end : (run : Run) (f : List Moment) (s : ℕ) (frame : List ℕ) (c : Cause) → is_open (part run s f) ≡ true
    → refused_frame run (other_datapaths (parts_of run f) s (open_with_slot run f)) (part run s f) frame ≡ Some c
    → first_due (owed run s (part run s (Came s Switch frame ∷ f))) ≡ Some (Ending c)
asks-end run f s frame c there e =
    let p = part run s f in
    let others = other_datapaths (parts_of run f) s (open_with_slot run f) in
    let test = is_own_error frame && (is_none (rejected_by frame (passed p)) && not (is_armed p)) in
    elim (is_own_reply p frame) as (λ b. is_own_reply p frame ≡ b → cond b (refused_reply run others (datapath_of frame)) (cond test (Some why.NotArmed) None) ≡ Some c
    → first_due (owed run s (part run s (Came s Switch frame ∷ f))) ≡ Some (Ending c)) [
      | true ↦ λ y g.
          let features = last-of-three (is_none (replied p)) (not (from_switch p == 0)) (is_features_reply frame) y in
          came-first run f s frame _ (Ending c) there (bears-nothing frame (other-kind (kind_of frame) 6 10 features refl)) (on-own-reply run s (taken_at run f s frame) p frame y)
          (refused-first run (datapath_of frame) (refused_reply run (taken_at run f s frame) (datapath_of frame)) c
          (ap (λ (xs : List ℕ). refused_reply run xs (datapath_of frame)) (same-taken run f s frame features) ∙ g))
      | false ↦ λ y g.
          elim test as (λ b. test ≡ b → cond b (Some why.NotArmed) None ≡ Some c → first_due (owed run s (part run s (Came s Switch frame ∷ f))) ≡ Some (Ending c)) [
            | true ↦ λ t h.
                let three = three-true (is_own_error frame) (is_none (rejected_by frame (passed p))) (not (is_armed p)) t in
                let error = first-of-and (is_error frame) _ three.0 in
                came-first run f s frame _ (Ending c) there (bears-nothing frame (other-kind (kind_of frame) 1 10 error refl)) (on-error-frame run s (taken_at run f s frame) p frame error)
                (error-ends s p frame (rejected_by frame (passed p)) three.0 three.1 three.2 ∙ ap (λ (x : Cause). Some (Ending x)) (some-same why.NotArmed c h))
            | false ↦ λ t h. absurd (let q : None ≡ Some c = h in cc)
          ] refl g
    ] refl e

-- an ERROR that rejects an edit is passed first, and then it is told
rejects-error : (frame : List ℕ) (ps : List Passed) (k : ℕ) → rejected_by frame ps ≡ Some k → is_error frame ≡ true
rejects-error frame ps k e =
    elim (is_error frame) as (λ b. is_error frame ≡ b → b ≡ true) [
      | true ↦ λ y. refl
      | false ↦ λ y. absurd (let g : None ≡ Some k = sym (none-rejected frame ps y) ∙ e in cc)
    ] refl

with-request : (before : List Own) (a b : Due) (rest : List Due) → (later : List Due) × (and_request before (a ∷ b ∷ []) ++ rest ≡ a ∷ b ∷ later)
with-request before a b rest =
    elim ((from_switch before == 0) && not (ends_in (a ∷ b ∷ []))) as (λ x. (later : List Due) × (cond x ((a ∷ b ∷ []) ++ Frame Switch features_request ∷ []) (a ∷ b ∷ []) ++ rest ≡ a ∷ b ∷ later)) [
      | true ↦ (Frame Switch features_request ∷ rest, refl)
      | false ↦ (rest, refl)
    ]

pub rejected-dues : (run : Run) (f : List Moment) (s : ℕ) (frame : List ℕ) (k : ℕ) → is_open (part run s f) ≡ true → rejected_by frame (passed (part run s f)) ≡ Some k
    → (later : List Due) × (owed run s (part run s (Came s Switch frame ∷ f)) ≡ Frame Controller frame ∷ fact s k what.Rejected ∷ later)
rejected-dues run f s frame k there e =
    let p = part run s f in
    let error = rejects-error frame (passed p) k e in
    let rest = with-request p (Frame Controller frame) (fact s k what.Rejected) (owed run s p) in (
      rest.0,
      ap (owed run s) (came-own run f s frame there (bears-nothing frame (other-kind (kind_of frame) 1 10 error refl)))
          ∙ ap (λ (ds : List Due). and_request p ds ++ owed run s p) (on-error-frame run s (taken_at run f s frame) p frame error ∙ ap (on_error s p frame) e)
          ∙ rest.1,
    )

-- a frame to one session is seen by no other
pub put-other : (run : Run) (f : List Moment) (r s : ℕ) (to : Side) (frame : List ℕ) (lost : Bool) → (r == s) ≡ false
    → part run s (Is (Put r to frame lost) ∷ f) ≡ part run s f
put-other run f r s to frame lost e = ap (λ (b : Bool). if_open (parts_of run f) s (only b (Sends to frame lost ∷ [])) ++ part run s f) e
