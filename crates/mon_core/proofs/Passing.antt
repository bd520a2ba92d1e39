-- In a legal history each frame has its fate: what was put to a side, and what is owed to it, is what the streams say.
use Rattle.std.proofs.Common.{◌≡◌, ℕ, ◌<◌, Bool, true, false, cond, List, [], ◌∷◌, ◌++◌, length, set, Option, Some, None, refl, sym, ap, subst, ◌∙◌, append_assoc, inl, inr}
use Rattle.std.specs.Prelude.{not, ◌==◌, ◌&&◌, flat_map}
use Rattle.std.proofs.lemmas.List.{append-nil}
use Rattle.std.proofs.lemmas.Bool.{eq-eqb}
use Rattle.std.proofs.lemmas.Grind.{flat_map-append}
use Rattle.of_frame.specs.declared.fault.FrameFault.{FrameFault}
use Rattle.of_frame.specs.Cut.{Pending, nothing_yet, cut}
use Rattle.of_frame.proofs.Pieces.{cut-append}
use Rattle.mon_table.specs.declared.rule.Rule.{Rule}
use Rattle.mon_table.specs.declared.edit.Edit.{Edit}
use Rattle.mon_table.specs.Edits.{after, after_all}
use Rattle.mon_world.specs.declared.event.Side.{Side}
use Rattle.mon_world.specs.declared.event.Side.TheVariants.{Controller, Switch}
use Rattle.mon_world.specs.declared.event.Event.TheVariants.{Opened, Piece, Closed, Tick, Answer, Idle, Stop}
use Rattle.mon_world.specs.declared.event.Out.{Out}
use Rattle.mon_world.specs.declared.event.Out.TheVariants.{Send, Close}
use Rattle.mon_world.specs.declared.history.Entry.{Entry}
use Rattle.mon_world.specs.declared.history.Entry.TheVariants.{Given, Noted, Put, End}
use Rattle.mon_core.specs.Fates.{Fated, fated, fates, passed, errors, edits, followed, followed_all, passed_all, errors_all, edits_all}
use Rattle.mon_core.specs.History.{Sides, pending_of, completed, fault_after, after_piece, closed, sent, ending, from_frame, from_frames, from_side, from_piece, session_at, sessions, owed, rest_of, IsFirst, LegalSoFar, Legal, Named}
use Rattle.mon_core.specs.Streams.{same_side, has_ended, stream, puts, frames_in, expected, brought_in}
use Rattle.mon_core.proofs.Ending.{set-at, session-opened, ended-is, opened-in, first-within, owed-within}

-- what frames in two parts make
after-append : (t : List Rule) (a b : List Edit) → after_all t (a ++ b) ≡ after_all (after_all t a) b
after-append t [] b = refl
after-append t (x ∷ a) b = after-append (after t x) a b

-- the table after one frame, and then others
followed-one : (t : List Rule) (f : List ℕ) (fs : List (List ℕ)) → followed_all t (f ∷ fs) ≡ followed_all (followed t f) fs
followed-one t f fs = after-append t (edits (fated t f)) (edits_all (followed t f) fs)

fates-append : (t : List Rule) (a b : List (List ℕ)) → fates t (a ++ b) ≡ fates t a ++ fates (followed_all t a) b
fates-append t [] b = refl
fates-append t (f ∷ a) b =
    ap (λ (xs : List Fated). fated t f ∷ xs) (fates-append (followed t f) a b)
    ∙ ap (λ (u : List Rule). fates t (f ∷ a) ++ fates u b) (sym (followed-one t f a))

followed-append : (t : List Rule) (a b : List (List ℕ)) → followed_all t (a ++ b) ≡ followed_all (followed_all t a) b
followed-append t a b =
    let more = fates (followed_all t a) b in
    ap (λ (xs : List Fated). after_all t (flat_map edits xs)) (fates-append t a b)
    ∙ ap (after_all t) (flat_map-append edits (fates t a) more)
    ∙ after-append t (edits_all t a) (flat_map edits more)

passed-append : (t : List Rule) (a b : List (List ℕ)) → passed_all t (a ++ b) ≡ passed_all t a ++ passed_all (followed_all t a) b
passed-append t a b = ap (flat_map passed) (fates-append t a b) ∙ flat_map-append passed (fates t a) (fates (followed_all t a) b)

-- one frame more of those that come
pub handled-more : (n : ℕ) (t after end : List Rule) (frames rest : List (List ℕ)) (frame : List ℕ) (outs more all : List Out)
    → frames ≡ frame ∷ rest → more ≡ outs ++ from_frame n t frame → after ≡ followed t frame → outs ++ from_frames n t frames ≡ all → followed_all t frames ≡ end
    → (more ++ from_frames n after rest ≡ all) × (followed_all after rest ≡ end)
handled-more n t after end frames rest frame outs more all split put next so_far before = (
  ap (λ (xs : List Out). xs ++ from_frames n after rest) put
      ∙ ap (λ (u : List Rule). (outs ++ from_frame n t frame) ++ from_frames n u rest) next
      ∙ append_assoc outs (from_frame n t frame) (from_frames n (followed t frame) rest)
      ∙ ap (λ (fs : List (List ℕ)). outs ++ from_frames n t fs) (sym split)
      ∙ so_far,
  ap (λ (u : List Rule). followed_all u rest) next ∙ sym (followed-one t frame rest) ∙ ap (followed_all t) (sym split) ∙ before,
)

-- the frames among outputs that go to a side
abbrev frames_for : ℕ → Side → List Out → List (List ℕ)
frames_for n to [] = []
frames_for n to (Send m side frame ∷ outs) = cond ((m == n) && same_side side to) (frame ∷ frames_for n to outs) (frames_for n to outs)
frames_for n to (Close m ∷ outs) = frames_for n to outs

for-append : (n : ℕ) (to : Side) (a b : List Out) → frames_for n to (a ++ b) ≡ frames_for n to a ++ frames_for n to b
for-append n to [] b = refl
for-append n to (Send m side frame ∷ a) b =
    elim ((m == n) && same_side side to) as (λ t. cond t (frame ∷ frames_for n to (a ++ b)) (frames_for n to (a ++ b)) ≡ cond t (frame ∷ frames_for n to a) (frames_for n to a) ++ frames_for n to b) [
      | true ↦ ap (λ (xs : List (List ℕ)). frame ∷ xs) (for-append n to a b)
      | false ↦ for-append n to a b
    ]
for-append n to (Close m ∷ a) b = for-append n to a b

for-ending : (n m : ℕ) (to : Side) (fault : Option FrameFault) → frames_for n to (ending m fault) ≡ []
for-ending n m to None = refl
for-ending n m to (Some fault) = refl

same-side : (side : Side) → same_side side side ≡ true
same-side Controller = refl
same-side Switch = refl

-- frames that are sent to the side, and those that go elsewhere
for-sent : (n : ℕ) (to : Side) (fs : List (List ℕ)) → frames_for n to (sent n to fs) ≡ fs
for-sent n to [] = refl
for-sent n to (f ∷ fs) =
    let mine : ((n == n) && same_side to to) ≡ true = rw (eq-eqb n n refl, same-side to) refl in
    rw mine (ap (λ (xs : List (List ℕ)). f ∷ xs) (for-sent n to fs))

for-others : (n m : ℕ) (to side : Side) (fs : List (List ℕ)) → ((m == n) && same_side side to) ≡ false → frames_for n to (sent m side fs) ≡ []
for-others n m to side [] e = refl
for-others n m to side (f ∷ fs) e = rw e (for-others n m to side fs e)

elsewhere : (n : ℕ) (a b : Side) → same_side a b ≡ false → ((n == n) && same_side a b) ≡ false
elsewhere n a b e = elim (n == n) as (λ t. (t && same_side a b) ≡ false) [ true ↦ e | false ↦ refl ]

-- what frames of the controller lead to, at each side
to-switch : (n : ℕ) (t : List Rule) (f : List ℕ) → frames_for n Switch (from_frame n t f) ≡ passed (fated t f)
to-switch n t f =
    for-append n Switch (sent n Switch (passed (fated t f))) (sent n Controller (errors (fated t f)))
    ∙ ap (λ (xs : List (List ℕ)). xs ++ frames_for n Switch (sent n Controller (errors (fated t f)))) (for-sent n Switch (passed (fated t f)))
    ∙ ap (λ (xs : List (List ℕ)). passed (fated t f) ++ xs) (for-others n n Switch Controller (errors (fated t f)) (elsewhere n Controller Switch refl))
    ∙ append-nil (passed (fated t f))

to-controller : (n : ℕ) (t : List Rule) (f : List ℕ) → frames_for n Controller (from_frame n t f) ≡ errors (fated t f)
to-controller n t f =
    for-append n Controller (sent n Switch (passed (fated t f))) (sent n Controller (errors (fated t f)))
    ∙ ap (λ (xs : List (List ℕ)). xs ++ frames_for n Controller (sent n Controller (errors (fated t f)))) (for-others n n Controller Switch (passed (fated t f)) (elsewhere n Switch Controller refl))
    ∙ for-sent n Controller (errors (fated t f))

all-to-switch : (n : ℕ) (t : List Rule) (fs : List (List ℕ)) → frames_for n Switch (from_frames n t fs) ≡ passed_all t fs
all-to-switch n t [] = refl
all-to-switch n t (f ∷ fs) =
    for-append n Switch (from_frame n t f) (from_frames n (followed t f) fs)
    ∙ ap (λ (xs : List (List ℕ)). xs ++ frames_for n Switch (from_frames n (followed t f) fs)) (to-switch n t f)
    ∙ ap (λ (xs : List (List ℕ)). passed (fated t f) ++ xs) (all-to-switch n (followed t f) fs)

all-to-controller : (n : ℕ) (t : List Rule) (fs : List (List ℕ)) → frames_for n Controller (from_frames n t fs) ≡ errors_all t fs
all-to-controller n t [] = refl
all-to-controller n t (f ∷ fs) =
    for-append n Controller (from_frame n t f) (from_frames n (followed t f) fs)
    ∙ ap (λ (xs : List (List ℕ)). xs ++ frames_for n Controller (from_frames n (followed t f) fs)) (to-controller n t f)
    ∙ ap (λ (xs : List (List ℕ)). errors (fated t f) ++ xs) (all-to-controller n (followed t f) fs)

-- what frames of either side lead to, at each side
abbrev at_side : Side → Side → List Rule → List (List ℕ) → List (List ℕ)
at_side Controller Controller t fs = errors_all t fs
at_side Controller Switch t fs = fs
at_side Switch Controller t fs = passed_all t fs
at_side Switch Switch t fs = []

for-side : (n : ℕ) (to from : Side) (t : List Rule) (fs : List (List ℕ)) → frames_for n to (from_side n t from fs) ≡ at_side to from t fs
for-side n Controller Controller t fs = all-to-controller n t fs
for-side n Controller Switch t fs = for-sent n Controller fs
for-side n Switch Controller t fs = all-to-switch n t fs
for-side n Switch Switch t fs = for-others n n Switch Controller fs (elsewhere n Controller Switch refl)

-- nothing of another session
none-of-frames : (n m : ℕ) (to : Side) (t : List Rule) (fs : List (List ℕ)) → (m == n) ≡ false → frames_for n to (from_frames m t fs) ≡ []
none-of-frames n m to t [] e = refl
none-of-frames n m to t (f ∷ fs) e =
    let off : (side : Side) → ((m == n) && same_side side to) ≡ false = λ side. rw e refl in
    for-append n to (from_frame m t f) (from_frames m (followed t f) fs)
    ∙ ap (λ (xs : List (List ℕ)). xs ++ frames_for n to (from_frames m (followed t f) fs))
    (for-append n to (sent m Switch (passed (fated t f))) (sent m Controller (errors (fated t f)))
    ∙ ap (λ (xs : List (List ℕ)). xs ++ frames_for n to (sent m Controller (errors (fated t f)))) (for-others n m to Switch (passed (fated t f)) (off Switch))
    ∙ for-others n m to Controller (errors (fated t f)) (off Controller))
    ∙ none-of-frames n m to (followed t f) fs e

none-of-side : (n m : ℕ) (to from : Side) (t : List Rule) (fs : List (List ℕ)) → (m == n) ≡ false → frames_for n to (from_side m t from fs) ≡ []
none-of-side n m to Controller t fs e = none-of-frames n m to t fs e
none-of-side n m to Switch t fs e = let off : ((m == n) && same_side Controller to) ≡ false = rw e refl in for-others n m to Controller fs off

-- the outputs of a piece of a session that has not ended
for-piece : (n m : ℕ) (to : Side) (s : Sides) (from : Side) (bytes : List ℕ)
    → frames_for n to (from_side m s.table from (completed s from bytes) ++ ending m (fault_after s from bytes)) ≡ frames_for n to (from_side m s.table from (completed s from bytes))
for-piece n m to s from bytes =
    let led = from_side m s.table from (completed s from bytes) in
    let fault = fault_after s from bytes in
    for-append n to led (ending m fault)
    ∙ ap (λ (xs : List (List ℕ)). frames_for n to led ++ xs) (for-ending n m to fault)
    ∙ append-nil (frames_for n to led)

other-piece : (n m : ℕ) (to : Side) (s : Sides) (from : Side) (bytes : List ℕ) → (m == n) ≡ false → frames_for n to (from_piece m s from bytes) ≡ []
other-piece n m to s from bytes e =
    let led = from_side m s.table from (completed s from bytes) in
    elim s.ended as (λ b. frames_for n to (cond b [] (led ++ ending m (fault_after s from bytes))) ≡ []) [
      | true ↦ refl
      | false ↦ for-piece n m to s from bytes ∙ none-of-side n m to from s.table (completed s from bytes) e
    ]

-- the session is what the streams of both sides make of it
record Standing (s : Sides) (of_controller of_switch : List ℕ) : Type 0 where
  controller : s.controller ≡ (cut nothing_yet of_controller).0
  switch : s.switch ≡ (cut nothing_yet of_switch).0
  table : s.table ≡ followed_all [] (cut nothing_yet of_controller).1

-- a stream with a piece more, where it is the side's and the session has not ended
abbrev with_piece : Bool → Bool → List ℕ → List ℕ → List ℕ
with_piece of_side ended so_far bytes = cond (of_side && not ended) (so_far ++ bytes) so_far

-- the frames that a piece completes, and what is pending then
more-pending : (p : Pending) (so_far bytes : List ℕ) → p ≡ (cut nothing_yet so_far).0 → (cut p bytes).0 ≡ (cut nothing_yet (so_far ++ bytes)).0
more-pending p so_far bytes e = ap (λ (q : Pending). (cut q bytes).0) e ∙ sym (ap (λ (x : Pending × List (List ℕ)). x.0) (cut-append nothing_yet so_far bytes))

more-frames : (p : Pending) (so_far bytes : List ℕ) → p ≡ (cut nothing_yet so_far).0 → (cut nothing_yet so_far).1 ++ (cut p bytes).1 ≡ (cut nothing_yet (so_far ++ bytes)).1
more-frames p so_far bytes e =
    ap (λ (q : Pending). (cut nothing_yet so_far).1 ++ (cut q bytes).1) e
    ∙ sym (ap (λ (x : Pending × List (List ℕ)). x.1) (cut-append nothing_yet so_far bytes))

more-table : (p : Pending) (t : List Rule) (so_far bytes : List ℕ) → p ≡ (cut nothing_yet so_far).0 → t ≡ followed_all [] (cut nothing_yet so_far).1
    → followed_all t (cut p bytes).1 ≡ followed_all [] (cut nothing_yet (so_far ++ bytes)).1
more-table p t so_far bytes e same =
    ap (λ (u : List Rule). followed_all u (cut p bytes).1) same
    ∙ sym (followed-append [] (cut nothing_yet so_far).1 (cut p bytes).1)
    ∙ ap (followed_all []) (more-frames p so_far bytes e)

own-standing : (c w : Pending) (t : List Rule) (ended : Bool) (from : Side) (bytes sc sw : List ℕ) → let s : Sides = record { controller = c; switch = w; table = t; ended = ended } in
    Standing s sc sw → Standing (after_piece s from bytes) (with_piece (same_side from Controller) ended sc bytes) (with_piece (same_side from Switch) ended sw bytes)
own-standing c w t true Controller bytes sc sw st = record { controller = st.controller; switch = st.switch; table = st.table }
own-standing c w t true Switch bytes sc sw st = record { controller = st.controller; switch = st.switch; table = st.table }
own-standing c w t false Controller bytes sc sw st = record {
  controller = more-pending c sc bytes st.controller;
  switch = st.switch;
  table = more-table c t sc bytes st.controller st.table;
}
own-standing c w t false Switch bytes sc sw st = record {
  controller = st.controller;
  switch = more-pending w sw bytes st.switch;
  table = st.table;
}

-- what a piece of the session itself leads to at the switch
own-switch : (n : ℕ) (c w : Pending) (t : List Rule) (ended : Bool) (from : Side) (bytes sc sw : List ℕ) (ps : List (List ℕ)) → let s : Sides = record { controller = c; switch = w; table = t; ended = ended } in
    Standing s sc sw → ps ≡ passed_all [] (cut nothing_yet sc).1
    → ps ++ frames_for n Switch (from_piece n s from bytes) ≡ passed_all [] (cut nothing_yet (with_piece (same_side from Controller) ended sc bytes)).1
own-switch n c w t true Controller bytes sc sw ps st e = append-nil ps ∙ e
own-switch n c w t true Switch bytes sc sw ps st e = append-nil ps ∙ e
own-switch n c w t false Controller bytes sc sw ps st e =
    let s : Sides = record { controller = c; switch = w; table = t; ended = false } in
    let fs = (cut c bytes).1 in
    let before = (cut nothing_yet sc).1 in
    ap (λ (xs : List (List ℕ)). ps ++ xs) (for-piece n n Switch s Controller bytes ∙ for-side n Switch Controller t fs ∙ ap (λ (u : List Rule). passed_all u fs) st.table)
    ∙ ap (λ (xs : List (List ℕ)). xs ++ passed_all (followed_all [] before) fs) e
    ∙ sym (passed-append [] before fs)
    ∙ ap (passed_all []) (more-frames c sc bytes st.controller)
own-switch n c w t false Switch bytes sc sw ps st e =
    let s : Sides = record { controller = c; switch = w; table = t; ended = false } in
    ap (λ (xs : List (List ℕ)). ps ++ xs) (for-piece n n Switch s Switch bytes ∙ for-side n Switch Switch t (cut w bytes).1)
    ∙ append-nil ps
    ∙ e

-- what a piece leads to at the controller, by the streams of both sides
abbrev brought_by : Side → List ℕ → List ℕ → List ℕ → List (List ℕ)
brought_by Controller sc sw bytes = errors_all (after_all [] (edits_all [] (cut nothing_yet sc).1)) (cut (cut nothing_yet sc).0 bytes).1
brought_by Switch sc sw bytes = (cut (cut nothing_yet sw).0 bytes).1

own-controller : (n : ℕ) (c w : Pending) (t : List Rule) (ended : Bool) (from : Side) (bytes sc sw : List ℕ) (ps bs : List (List ℕ)) → let s : Sides = record { controller = c; switch = w; table = t; ended = ended } in
    Standing s sc sw → ps ≡ bs → ps ++ frames_for n Controller (from_piece n s from bytes) ≡ cond (not ended) (bs ++ brought_by from sc sw bytes) bs
own-controller n c w t true from bytes sc sw ps bs st e = append-nil ps ∙ e
own-controller n c w t false Controller bytes sc sw ps bs st e =
    let s : Sides = record { controller = c; switch = w; table = t; ended = false } in
    let fs = (cut c bytes).1 in
    ap (λ (xs : List (List ℕ)). xs ++ frames_for n Controller (from_piece n s Controller bytes)) e
    ∙ ap (λ (xs : List (List ℕ)). bs ++ xs) (for-piece n n Controller s Controller bytes ∙ for-side n Controller Controller t fs
    ∙ ap (λ (u : List Rule). errors_all u fs) st.table
    ∙ ap (λ (p : Pending). errors_all (after_all [] (edits_all [] (cut nothing_yet sc).1)) (cut p bytes).1) st.controller)
own-controller n c w t false Switch bytes sc sw ps bs st e =
    let s : Sides = record { controller = c; switch = w; table = t; ended = false } in
    ap (λ (xs : List (List ℕ)). xs ++ frames_for n Controller (from_piece n s Switch bytes)) e
    ∙ ap (λ (xs : List (List ℕ)). bs ++ xs) (for-piece n n Controller s Switch bytes ∙ for-side n Controller Switch t (cut w bytes).1
    ∙ ap (λ (p : Pending). (cut p bytes).1) st.switch)

-- what was put and what is owed, once an owed output is put
put-frames : (n m : ℕ) (to side : Side) (frame : List ℕ) (ps : List (List ℕ)) (outs : List Out) → IsFirst (Send m side frame) outs
    → cond ((m == n) && same_side side to) (ps ++ frame ∷ []) ps ++ frames_for n to (rest_of outs) ≡ ps ++ frames_for n to outs
put-frames n m to side frame ps [] first = absurd first
put-frames n m to side frame ps (o ∷ os) first =
    subst (λ (x : Out). cond ((m == n) && same_side side to) (ps ++ frame ∷ []) ps ++ frames_for n to os ≡ ps ++ frames_for n to (x ∷ os)) (sym first)
    (elim ((m == n) && same_side side to) as (λ b. cond b (ps ++ frame ∷ []) ps ++ frames_for n to os ≡ ps ++ cond b (frame ∷ frames_for n to os) (frames_for n to os)) [
      | true ↦ append_assoc ps (frame ∷ []) (frames_for n to os)
      | false ↦ refl
    ])

end-frames : (n m : ℕ) (to : Side) (outs : List Out) → IsFirst (Close m) outs → frames_for n to (rest_of outs) ≡ frames_for n to outs
end-frames n m to [] first = absurd first
end-frames n m to (o ∷ os) first = subst (λ (x : Out). frames_for n to os ≡ frames_for n to (x ∷ os)) (sym first) refl

-- what is due at each side
abbrev due : ℕ → Side → List Entry → List (List ℕ)
due n Controller h = brought_in n h
due n Switch h = passed_all [] (frames_in n Controller h)

-- what was put to a side and what is owed to it is what is due there
abbrev Balance : ℕ → Side → List Entry → Type 0
Balance n to h = puts n to h ++ frames_for n to (owed h) ≡ due n to h

-- where nothing is owed
as-whole : (n : ℕ) (to : Side) (h : List Entry) → owed h ≡ [] → Balance n to h → puts n to h ≡ due n to h
as-whole n to h none e = sym (append-nil (puts n to h)) ∙ subst (λ (os : List Out). puts n to h ++ frames_for n to os ≡ due n to h) none e

record Passing (n : ℕ) (h : List Entry) : Type 0 where
  standing : Standing (session_at (sessions h) n) (stream n Controller h) (stream n Switch h)
  switch : Balance n Switch h
  controller : Balance n Controller h

standing-closed : (s : Sides) (sc sw : List ℕ) → Standing s sc sw → Standing (closed s) sc sw
standing-closed s sc sw st = record { controller = st.controller; switch = st.switch; table = st.table }

-- an input other than a piece
input-balance : (n : ℕ) (to : Side) (h : List Entry) → owed h ≡ [] → Balance n to h → puts n to h ++ [] ≡ due n to h
input-balance n to h none e = append-nil (puts n to h) ∙ as-whole n to h none e

put-balance : (n m : ℕ) (to side : Side) (frame : List ℕ) (lost : Bool) (h : List Entry) → IsFirst (Send m side frame) (owed h) → Balance n to h → Balance n to (Put m side frame lost ∷ h)
put-balance n m Controller side frame lost h first e = put-frames n m Controller side frame (puts n Controller h) (owed h) first ∙ e
put-balance n m Switch side frame lost h first e = put-frames n m Switch side frame (puts n Switch h) (owed h) first ∙ e

end-balance : (n m : ℕ) (to : Side) (h : List Entry) → IsFirst (Close m) (owed h) → Balance n to h → Balance n to (End m ∷ h)
end-balance n m Controller h first e = ap (λ (xs : List (List ℕ)). puts n Controller h ++ xs) (end-frames n m Controller (owed h) first) ∙ e
end-balance n m Switch h first e = ap (λ (xs : List (List ℕ)). puts n Switch h ++ xs) (end-frames n m Switch (owed h) first) ∙ e

-- a piece of another session
other-balance : (n m : ℕ) (to from : Side) (bytes : List ℕ) (h : List Entry) → (m == n) ≡ false → owed h ≡ [] → Balance n to h
    → puts n to h ++ frames_for n to (from_piece m (session_at (sessions h) m) from bytes) ≡ due n to h
other-balance n m to from bytes h off none e =
    ap (λ (xs : List (List ℕ)). puts n to h ++ xs) (other-piece n m to (session_at (sessions h) m) from bytes off)
    ∙ input-balance n to h none e

-- the streams, and what is due at the controller, after a piece
own-stream : (n m : ℕ) (from side : Side) (bytes : List ℕ) (h : List Entry) → (m == n) ≡ true
    → stream n side (Given (Piece m from bytes) ∷ h) ≡ with_piece (same_side from side) (has_ended n h) (stream n side h) bytes
own-stream n m from side bytes h e = rw e refl

other-stream : (n m : ℕ) (from side : Side) (bytes : List ℕ) (h : List Entry) → (m == n) ≡ false → stream n side (Given (Piece m from bytes) ∷ h) ≡ stream n side h
other-stream n m from side bytes h e = rw e refl

own-brought : (n m : ℕ) (from : Side) (bytes : List ℕ) (h : List Entry) → (m == n) ≡ true
    → brought_in n (Given (Piece m from bytes) ∷ h) ≡ cond (not (has_ended n h)) (brought_in n h ++ brought_by from (stream n Controller h) (stream n Switch h) bytes) (brought_in n h)
own-brought n m Controller bytes h e = rw e refl
own-brought n m Switch bytes h e = rw e refl

other-brought : (n m : ℕ) (from : Side) (bytes : List ℕ) (h : List Entry) → (m == n) ≡ false → brought_in n (Given (Piece m from bytes) ∷ h) ≡ brought_in n h
other-brought n m from bytes h e = rw e refl

passing : (n : ℕ) (h : List Entry) → Named h → LegalSoFar h → Passing n h
passing n [] named legal = record { standing = record { controller = refl; switch = refl; table = refl }; switch = refl; controller = refl }
passing n (Given Opened ∷ h) named legal =
    let p = passing n h named legal.1 in
    record {
      standing = subst (λ (s : Sides). Standing s (stream n Controller h) (stream n Switch h)) (sym (session-opened (sessions h) n)) p.standing;
      switch = input-balance n Switch h legal.0 p.switch;
      controller = input-balance n Controller h legal.0 p.controller;
    }
passing n (Given (Closed m) ∷ h) named legal =
    let p = passing n h named.1 legal.1 in
    record { standing = p.standing; switch = input-balance n Switch h legal.0 p.switch; controller = input-balance n Controller h legal.0 p.controller }
passing n (Given Tick ∷ h) named legal =
    let p = passing n h named legal.1 in
    record { standing = p.standing; switch = input-balance n Switch h legal.0 p.switch; controller = input-balance n Controller h legal.0 p.controller }
passing n (Given (Answer index) ∷ h) named legal =
    let p = passing n h named legal.1 in
    record { standing = p.standing; switch = input-balance n Switch h legal.0 p.switch; controller = input-balance n Controller h legal.0 p.controller }
passing n (Given Idle ∷ h) named legal =
    let p = passing n h named legal.1 in
    record { standing = p.standing; switch = input-balance n Switch h legal.0 p.switch; controller = input-balance n Controller h legal.0 p.controller }
passing n (Given Stop ∷ h) named legal =
    let p = passing n h named legal.1 in
    record { standing = p.standing; switch = input-balance n Switch h legal.0 p.switch; controller = input-balance n Controller h legal.0 p.controller }
passing n (Given (Piece m from bytes) ∷ h) named legal =
    let p = passing n h named.1 legal.1 in
    let s = session_at (sessions h) n in
    let at_m = session_at (sessions h) m in
    let longer : List Entry = Given (Piece m from bytes) ∷ h in
    let ended : s.ended ≡ has_ended n h = ended-is n h named.1 legal.1 in
    elim (set-at (sessions h) m n (after_piece at_m from bytes) (subst (λ (k : ℕ). m < k) (sym (opened-in h)) named.0)) as (λ _. Passing n longer) [
      | inl is ↦
          let moved : session_at (sessions longer) n ≡ after_piece s from bytes =
          is.1 ∙ ap (λ (k : ℕ). after_piece (session_at (sessions h) k) from bytes) is.2 in
          let streams : (side : Side) → with_piece (same_side from side) s.ended (stream n side h) bytes ≡ stream n side longer =
          λ side. ap (λ (b : Bool). with_piece (same_side from side) b (stream n side h) bytes) ended ∙ sym (own-stream n m from side bytes h is.0) in
          let outs : (to : Side) → frames_for n to (owed longer) ≡ frames_for n to (from_piece n s from bytes) =
          λ to. ap (λ (k : ℕ). frames_for n to (from_piece k (session_at (sessions h) k) from bytes)) is.2 in
          record {
            standing = subst (λ (x : Sides). Standing x (stream n Controller longer) (stream n Switch longer)) (sym moved)
                (subst (λ (sc : List ℕ). Standing (after_piece s from bytes) sc (stream n Switch longer)) (streams Controller)
                (subst (λ (sw : List ℕ). Standing (after_piece s from bytes) (with_piece (same_side from Controller) s.ended (stream n Controller h) bytes) sw) (streams Switch)
                (own-standing s.controller s.switch s.table s.ended from bytes (stream n Controller h) (stream n Switch h) p.standing)));
            switch = ap (λ (xs : List (List ℕ)). puts n Switch h ++ xs) (outs Switch)
                ∙ own-switch n s.controller s.switch s.table s.ended from bytes (stream n Controller h) (stream n Switch h) (puts n Switch h) p.standing (as-whole n Switch h legal.0 p.switch)
                ∙ ap (λ (sc : List ℕ). passed_all [] (cut nothing_yet sc).1) (streams Controller);
            controller = ap (λ (xs : List (List ℕ)). puts n Controller h ++ xs) (outs Controller)
                ∙ own-controller n s.controller s.switch s.table s.ended from bytes (stream n Controller h) (stream n Switch h) (puts n Controller h) (brought_in n h) p.standing (as-whole n Controller h legal.0 p.controller)
                ∙ ap (λ (b : Bool). cond (not b) (brought_in n h ++ brought_by from (stream n Controller h) (stream n Switch h) bytes) (brought_in n h)) ended
                ∙ sym (own-brought n m from bytes h is.0);
          }
      | inr off ↦
          let streams : (side : Side) → stream n side h ≡ stream n side longer = λ side. sym (other-stream n m from side bytes h off.0) in
          record {
            standing = subst (λ (x : Sides). Standing x (stream n Controller longer) (stream n Switch longer)) (sym off.1)
                (subst (λ (sc : List ℕ). Standing s sc (stream n Switch longer)) (streams Controller)
                (subst (λ (sw : List ℕ). Standing s (stream n Controller h) sw) (streams Switch) p.standing));
            switch = other-balance n m Switch from bytes h off.0 legal.0 p.switch ∙ ap (λ (sc : List ℕ). passed_all [] (cut nothing_yet sc).1) (streams Controller);
            controller = other-balance n m Controller from bytes h off.0 legal.0 p.controller ∙ sym (other-brought n m from bytes h off.0);
          }
    ]
passing n (Noted note ∷ h) named legal = absurd legal
passing n (Put m to frame lost ∷ h) named legal =
    let p = passing n h named legal.1 in
    record {
      standing = p.standing;
      switch = put-balance n m Switch to frame lost h legal.0 p.switch;
      controller = put-balance n m Controller to frame lost h legal.0 p.controller;
    }
passing n (End m ∷ h) named legal =
    let p = passing n h named legal.1 in
    let s = session_at (sessions h) m in
    record {
      standing = elim (set-at (sessions h) m n (closed s) (first-within (length (sessions h)) m (owed h) legal.0 (owed-within h named)))
          as (λ _. Standing (session_at (set (sessions h) m (closed s)) n) (stream n Controller h) (stream n Switch h)) [
            | inl is ↦ rw (is.1) (standing-closed s (stream n Controller h) (stream n Switch h) (subst (λ (k : ℕ). Standing (session_at (sessions h) k) (stream n Controller h) (stream n Switch h)) (sym is.2) p.standing))
            | inr off ↦ rw (off.1) p.standing
          ];
      switch = end-balance n m Switch h legal.0 p.switch;
      controller = end-balance n m Controller h legal.0 p.controller;
    }

pub frames-passed : (n : ℕ) (h : List Entry) → Named h → Legal h → puts n Switch h ≡ passed_all [] (frames_in n Controller h)
frames-passed n h named legal = as-whole n Switch h legal.whole (passing n h named legal.so_far).switch

pub frames-brought : (n : ℕ) (h : List Entry) → Named h → Legal h → puts n Controller h ≡ brought_in n h
frames-brought n h named legal = as-whole n Controller h legal.whole (passing n h named legal.so_far).controller

-- what is pending of a side is what its stream leaves
pub pending-is : (n : ℕ) (side : Side) (h : List Entry) → Named h → LegalSoFar h → pending_of (session_at (sessions h) n) side ≡ (cut nothing_yet (stream n side h)).0
pending-is n Controller h named legal = (passing n h named legal).standing.controller
pending-is n Switch h named legal = (passing n h named legal).standing.switch

-- the session has the expected table
pub table-is : (n : ℕ) (h : List Entry) → Named h → LegalSoFar h → (session_at (sessions h) n).table ≡ expected n h
table-is n h named legal = (passing n h named legal).standing.table
