-- What the session of a moment sees of it.
use Rattle.std.proofs.Common.{◌≡◌, ℕ, Bool, true, false, cond, not, ◌&&◌, List, [], ◌∷◌, ◌++◌, length, drop, Option, Some, None, refl, sym, ap, subst, ◌∙◌}
use Rattle.std.specs.Prelude.{◌==◌, nat_le}
use Rattle.std.proofs.lemmas.Bool.{false≢true}
use Rattle.of_frame.specs.declared.fault.FrameFault.{FrameFault}
use Rattle.mon_packet.specs.Reading.{Read, parsed}
use Rattle.mon_report.specs.declared.line.Line.{Line}
use Rattle.mon_world.specs.declared.event.Side.{Side}
use Rattle.mon_world.specs.declared.event.Side.TheVariants.{Switch}
use Rattle.mon_world.specs.declared.event.Event.TheVariants.{Closed}
use Rattle.mon_world.specs.declared.event.Kind.{Kind}
use Rattle.mon_world.specs.declared.event.Note.TheVariants.{Verdict, Report}
use Rattle.mon_world.specs.declared.history.Entry.TheVariants.{Given, Noted, Put, End}
use Rattle.mon_legal.specs.Runs.{Run}
use Rattle.mon_legal.specs.Changing.{only}
use Rattle.mon_legal.specs.Owns.{Own}
use Rattle.mon_legal.specs.Owns.Own.{From_switch, Breaks, Closes, Judged, Neighbour, Sends, Reports, Ends}
use Rattle.mon_legal.specs.Messages.{is_features_reply, is_packet_in, carried_in}
use Rattle.mon_legal.specs.Barriers.{is_armed}
use Rattle.mon_legal.specs.Datapaths.{datapath}
use Rattle.mon_legal.specs.Directly.{owed, on_judged, job_stands}
use Rattle.mon_legal.specs.Moments.{Moment}
use Rattle.mon_legal.specs.Moments.Moment.{Is, Came, Broke}
use Rattle.mon_legal.specs.Jobs.{Job, job_of}
use Rattle.mon_legal.specs.Sessions.{Parts, has_ended, part, parts_of, is_open, if_open, neighbour_if, are_linked, arms, returned, returns_in, of_frame, others_if, open_with_slot, judged_as, judged_if, version, hears, session_in}
use Rattle.mon_legal.specs.Answers.{is_current, current, current_in}
use Rattle.mon_legal.proofs.Coming.{some-same}
use Rattle.mon_legal.proofs.Fitting.{same-of}
use Rattle.mon_turns.proofs.Born.{same-number}

-- frames -------------------------------------------------------------------------

pub put-own : (run : Run) (f : List Moment) (s : ℕ) (to : Side) (frame : List ℕ) (lost : Bool) → is_open (part run s f) ≡ true
    → part run s (Is (Put s to frame lost) ∷ f) ≡ Sends to frame lost ∷ part run s f
put-own run f s to frame lost there =
    ap (λ (b : Bool). if_open (parts_of run f) s (only b (Sends to frame lost ∷ [])) ++ part run s f) (same-number s)
    ∙ ap (λ (b : Bool). only b (Sends to frame lost ∷ []) ++ part run s f) there

pub no-own-neighbour : (run : Run) (parts : Parts) (s : ℕ) (b : Bool) → neighbour_if run parts s s b ≡ []
no-own-neighbour run parts s true =
    ap (λ (x : Bool). only (not x && are_linked run.topology (datapath (parts s)) (datapath (parts s))) (Neighbour ∷ [])) (same-number s)
no-own-neighbour run parts s false = refl

-- a frame of one kind is of no other
pub other-kind : (k i j : ℕ) → (k == i) ≡ true → (i == j) ≡ false → (k == j) ≡ false
other-kind k i j e n = subst (λ (x : ℕ). (x == j) ≡ false) (sym (same-of k i e)) n

pub bears-nothing : (frame : List ℕ) → is_packet_in frame ≡ false → carried_in frame ≡ None
bears-nothing frame e = ap (λ (b : Bool). cond (b && nat_le 18 (length frame)) (parsed (drop 18 frame)) None) e

abbrev pub taken_at : Run → List Moment → ℕ → List ℕ → List ℕ
taken_at run f s frame = others_if (is_features_reply frame) (parts_of run f) s (open_with_slot run f)

pub came-own : (run : Run) (f : List Moment) (s : ℕ) (frame : List ℕ) → is_open (part run s f) ≡ true → carried_in frame ≡ None
    → part run s (Came s Switch frame ∷ f) ≡ From_switch frame (taken_at run f s frame) ∷ part run s f
came-own run f s frame there none =
    let P = parts_of run f in
    let p = part run s f in
    ap (λ (xs : List Own). if_open P s (xs ++ (returned run P s Switch frame ++ of_frame (s == s) run P s f Switch frame)) ++ p) (no-own-neighbour run P s (arms P s Switch frame))
    ∙ ap (λ (o : Read). if_open P s (returns_in run.key P s frame o ++ of_frame (s == s) run P s f Switch frame) ++ p) none
    ∙ ap (λ (b : Bool). if_open P s (of_frame b run P s f Switch frame) ++ p) (same-number s)
    ∙ ap (λ (b : Bool). only b (From_switch frame (taken_at run f s frame) ∷ []) ++ p) there

pub broke-own : (run : Run) (f : List Moment) (s : ℕ) (side : Side) (fault : FrameFault) → is_open (part run s f) ≡ true
    → part run s (Broke s side fault ∷ f) ≡ Breaks fault ∷ part run s f
broke-own run f s side fault there =
    ap (λ (b : Bool). if_open (parts_of run f) s (only b (Breaks fault ∷ [])) ++ part run s f) (same-number s)
    ∙ ap (λ (b : Bool). only b (Breaks fault ∷ []) ++ part run s f) there

-- ends ---------------------------------------------------------------------------

pub ended-own : (run : Run) (f : List Moment) (s : ℕ) → is_open (part run s f) ≡ true → part run s (Is (End s) ∷ f) ≡ Ends ∷ part run s f
ended-own run f s there =
    let P = parts_of run f in
    ap (λ (xs : List Own). if_open P s (only (s == s) (Ends ∷ []) ++ xs) ++ part run s f) (no-own-neighbour run P s (is_armed (P s)))
    ∙ ap (λ (b : Bool). if_open P s (only b (Ends ∷ []) ++ []) ++ part run s f) (same-number s)
    ∙ ap (λ (b : Bool). only b (Ends ∷ []) ++ part run s f) there

pub closed-by-peer : (run : Run) (f : List Moment) (s : ℕ) → is_open (part run s f) ≡ true → part run s (Is (Given (Closed s)) ∷ f) ≡ Closes ∷ part run s f
closed-by-peer run f s there =
    ap (λ (b : Bool). if_open (parts_of run f) s (only b (Closes ∷ [])) ++ part run s f) (same-number s)
    ∙ ap (λ (b : Bool). only b (Closes ∷ []) ++ part run s f) there

pub told-own : (run : Run) (f : List Moment) (line : Line) → hears line (part run (session_in line) f) ≡ true
    → part run (session_in line) (Is (Noted (Report line)) ∷ f) ≡ Reports line ∷ part run (session_in line) f
told-own run f line there =
    let s = session_in line in
    ap (λ (b : Bool). only (b && hears line (part run s f)) (Reports line ∷ []) ++ [] ++ part run s f) (same-number s)
    ∙ ap (λ (b : Bool). only b (Reports line ∷ []) ++ [] ++ part run s f) there

-- answers ------------------------------------------------------------------------

pub current-of : (run : Run) (f : List Moment) (o : Option Job) (j : Job) → current_in run f o ≡ Some j → (o ≡ Some j) × (is_current run f j ≡ true)
current-of run f None j e = absurd (let g : None ≡ Some j = e in cc)
current-of run f (Some job) j e =
    elim (is_current run f job) as (λ b. is_current run f job ≡ b → cond b (Some job) None ≡ Some j → (Some job ≡ Some j) × (is_current run f j ≡ true)) [
      | true ↦ λ y g. (g, subst (λ (q : Job). is_current run f q ≡ true) (some-same job j g) y)
      | false ↦ λ y g. absurd (let h : None ≡ Some j = g in cc)
    ] refl e

pub three-true : (a b c : Bool) → a && (b && c) ≡ true → (a ≡ true) × (b ≡ true) × (c ≡ true)
three-true true true true e = (refl, refl, refl)
three-true true true false e = absurd (false≢true e)
three-true true false c e = absurd (false≢true e)
three-true false b c e = absurd (false≢true e)

pub judged-own : (run : Run) (f : List Moment) (number : ℕ) (kind : Kind) (j : Job) → current run f number ≡ Some j
    → part run j.session (Is (Noted (Verdict number kind)) ∷ f) ≡ Judged j.number j.edit kind (j.version == version run j.session f) ∷ part run j.session f
judged-own run f number kind j e =
    let P = parts_of run f in
    let p = part run j.session f in
    let c = current-of run f (job_of number f) j e in
    let t = three-true (is_open p) (job_stands run p j.number j.edit) (j.version == version run j.session f) c.1 in
    ap (λ (o : Option Job). if_open P j.session (judged_as run P j.session f o kind) ++ p) c.0
    ∙ ap (λ (b : Bool). if_open P j.session (judged_if b run P f j kind) ++ p) (same-number j.session)
    ∙ ap (λ (b : Bool). only b (Judged j.number j.edit kind (j.version == version run j.session f) ∷ []) ++ p) t.0

-- and a current one makes due what it leads to
pub judged-owes : (run : Run) (f : List Moment) (number : ℕ) (kind : Kind) (j : Job) → current run f number ≡ Some j
    → owed run j.session (part run j.session (Is (Noted (Verdict number kind)) ∷ f))
    ≡ on_judged run j.session (part run j.session f) j.number j.edit kind ++ owed run j.session (part run j.session f)
judged-owes run f number kind j e =
    let p = part run j.session f in
    let c = current-of run f (job_of number f) j e in
    let t = three-true (is_open p) (job_stands run p j.number j.edit) (j.version == version run j.session f) c.1 in
    ap (owed run j.session) (judged-own run f number kind j e)
    ∙ ap (λ (b : Bool). cond (b && job_stands run p j.number j.edit) (on_judged run j.session p j.number j.edit kind) [] ++ owed run j.session p) t.2
    ∙ ap (λ (b : Bool). cond b (on_judged run j.session p j.number j.edit kind) [] ++ owed run j.session p) t.1

-- an entry that is no end leaves an open session open
pub still-open : (o : Own) (before : List Own) → has_ended (o ∷ before) ≡ has_ended before → is_open before ≡ true → is_open (o ∷ before) ≡ true
still-open o [] e y = absurd (false≢true y)
still-open o (p ∷ before) e y = ap not e ∙ y
