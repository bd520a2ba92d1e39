-- The frames of a side are handled in their order, and all of them where a turn has ended.
use Rattle.std.proofs.Common.{◌≡◌, ℕ, ◌+◌, Bool, true, false, cond, not, ◌&&◌, ◌||◌, List, [], ◌∷◌, ◌++◌, length, drop, Option, Some, None, option_map, refl, sym, ap, subst, ◌∙◌, arith}
use Rattle.std.specs.Prelude.{◌==◌, slice_get}
use Rattle.std.specs.List.{AllByRecursion}
use Rattle.std.proofs.lemmas.Bool.{false≢true}
use Rattle.std.proofs.lemmas.List.{append_assoc, append-nil}
use Rattle.of_frame.specs.Cut.{Pending, cut, nothing_yet}
use Rattle.of_frame.proofs.Pieces.{cut-append}
use Rattle.of_frame.specs.declared.fault.FrameFault.{FrameFault}
use Rattle.mon_header.specs.declared.header.Header.{Header}
use Rattle.mon_packet.specs.declared.nonce.Nonce.{Nonce}
use Rattle.mon_packet.specs.Reading.{Read}
use Rattle.mon_outcome.specs.declared.emission.Emission.{Emission}
use Rattle.mon_world.specs.declared.event.Kind.{Kind}
use Rattle.mon_world.specs.declared.event.Event.TheVariants.{Closed, Tick, Opened, Piece}
use Rattle.mon_world.specs.declared.event.Note.TheVariants.{Offer, Verdict, Probe, Report}
use Rattle.mon_legal.specs.Runs.{Run}
use Rattle.mon_legal.specs.Changing.{only}
use Rattle.mon_legal.specs.Owns.{Own, Act}
use Rattle.mon_legal.specs.Sides.{from_controller, from_switch, IsFront}
use Rattle.mon_legal.specs.Sessions.{Parts, judged_if, probed_if, part, parts_of, is_open, own, sees, arms, if_open, judged_as, neighbour_if, next_slot, of_frame, probed_as, returned, returns_in, returns_with, session_in, has_ended, opened, version, hears}
use Rattle.mon_legal.specs.Ordering.{stream, frames_in, fault_in, handled, next_frame, with_bytes, is_there, rest_of_piece, rest_of_frames, piece_of, same_side, Next, act_of, due_of, first_with, lost_of, next, or_next, want_of}
use Rattle.mon_legal.proofs.Fitting.{same-of, hears-none}
use Rattle.mon_legal.proofs.Coming.{some-same, is_nothing, piece-none}
use Rattle.mon_world.specs.declared.event.Side.TheVariants.{Controller, Switch}
use Rattle.mon_legal.specs.Barriers.{is_armed}
use Rattle.mon_legal.specs.Moments.Moment.{Broke, Came, Did, Is, Went}
use Rattle.mon_legal.specs.Jobs.{Job, job_of, openings, last_job, last_serial}
use Rattle.mon_world.specs.declared.history.Entry.TheVariants.{End, Given, Noted, Put}
use Rattle.mon_legal.specs.Owns.Own.{Acts, Begins, Breaks, Carries, Closes, Ends, From_controller, From_switch, Goes_out, Neighbour, Offers, Reports, Sends}
use Rattle.mon_legal.specs.Datapaths.{datapath}
use Rattle.mon_legal.specs.Moments.{Moment}
use Rattle.mon_world.specs.declared.event.Side.{Side}
use Rattle.mon_legal.specs.Messages.{carried_in}
use Rattle.mon_legal.specs.Passing.{Comes, FramesGoInOrder}
use Rattle.mon_legal.specs.Ordering.Next.{Breaks_off, Handles, Loses, Meets, Nothing, Takes, Wants}
use Rattle.mon_legal.specs.Directly.Due.{Ending, Frame, Going, Probing, Tells}
use Rattle.mon_legal.specs.Directly.{Due}
use Rattle.mon_report.specs.declared.line.Line.{Line}

-- the frames of a side that were handled
abbrev came : Side → List Own → List (List ℕ)
came Controller seen = from_controller seen
came Switch seen = from_switch seen

abbrev is_from : Own → Bool
is_from (From_controller frame) = true
is_from (From_switch frame others) = true
is_from o = false

abbrev Silent : List Own → Type 0
Silent os = AllByRecursion (λ o. is_from o ≡ false) os

came-one : (side : Side) (o : Own) (before : List Own) → is_from o ≡ false → came side (o ∷ before) ≡ came side before
came-one Controller (From_controller frame) before e = absurd (false≢true (sym e))
came-one Controller o before e = refl
came-one Switch (From_switch frame others) before e = absurd (false≢true (sym e))
came-one Switch o before e = refl

came-over : (side : Side) (os before : List Own) → Silent os → came side (os ++ before) ≡ came side before
came-over side [] before a = refl
came-over side (o ∷ os) before a = came-one side o (os ++ before) a.0 ∙ came-over side os before a.1

silent-append : (os ps : List Own) → Silent os → Silent ps → Silent (os ++ ps)
silent-append [] ps a b = b
silent-append (o ∷ os) ps a b = (a.0, silent-append os ps a.1 b)

silent-only : (b : Bool) (o : Own) → is_from o ≡ false → Silent (only b (o ∷ []))
silent-only true o e = (e, tt)
silent-only false o e = tt

silent-open : (parts : Parts) (s : ℕ) (os : List Own) → Silent os → Silent (if_open parts s os)
silent-open parts s [] a = tt
silent-open parts s (o ∷ os) a =
    elim (is_open (parts s)) as (λ b. Silent (only b (o ∷ os))) [
      | true ↦ a
      | false ↦ tt
    ]

silent-neighbour : (run : Run) (parts : Parts) (s r : ℕ) (b : Bool) → Silent (neighbour_if run parts s r b)
silent-neighbour run parts s r true = silent-only _ Neighbour refl
silent-neighbour run parts s r false = tt

silent-with : (key : ℕ) (d : Option ℕ) (frame : List ℕ) (h : Header) (n : Option Nonce) → Silent (returns_with key d frame h n)
silent-with key None frame h n = tt
silent-with key (Some d) frame h None = tt
silent-with key (Some d) frame h (Some n) = silent-only (n.key == key) _ refl

silent-in : (key : ℕ) (parts : Parts) (r : ℕ) (frame : List ℕ) (o : Read) → Silent (returns_in key parts r frame o)
silent-in key parts r frame None = tt
silent-in key parts r frame (Some found) = silent-with key (datapath (parts r)) frame found.0 found.1

silent-returned : (run : Run) (parts : Parts) (r : ℕ) (side : Side) (frame : List ℕ) → Silent (returned run parts r side frame)
silent-returned run parts r Controller frame = tt
silent-returned run parts r Switch frame = silent-in run.key parts r frame (carried_in frame)

silent-judged-if : (b : Bool) (run : Run) (parts : Parts) (f : List Moment) (job : Job) (kind : Kind) → Silent (judged_if b run parts f job kind)
silent-judged-if true run parts f job kind = (refl, tt)
silent-judged-if false run parts f job kind = tt

silent-judged : (run : Run) (parts : Parts) (s : ℕ) (f : List Moment) (o : Option Job) (kind : Kind) → Silent (judged_as run parts s f o kind)
silent-judged run parts s f None kind = tt
silent-judged run parts s f (Some job) kind = silent-judged-if (job.session == s) run parts f job kind

silent-probed-if : (b : Bool) (run : Run) (parts : Parts) (f : List Moment) (serial : ℕ) (job : Job) (x : Emission) → Silent (probed_if b run parts f serial job x)
silent-probed-if true run parts f serial job x = (refl, tt)
silent-probed-if false run parts f serial job x = tt

silent-probed : (run : Run) (parts : Parts) (s : ℕ) (f : List Moment) (serial : ℕ) (o : Option Job) (x : Emission) → Silent (probed_as run parts s f serial o x)
silent-probed run parts s f serial None x = tt
silent-probed run parts s f serial (Some job) x = silent-probed-if (job.session == s) run parts f serial job x

abbrev is_coming : Moment → Bool
is_coming (Came s side frame) = true
is_coming m = false

-- where no frame is handled, a session sees none
silent-own : (run : Run) (s : ℕ) (f : List Moment) (m : Moment) → is_coming m ≡ false → Silent (own run (parts_of run f) s f m)
silent-own run s f (Is (Given Opened)) e = silent-append (only (openings run f == s) (Begins (next_slot run f) ∷ [])) [] (silent-only (openings run f == s) (Begins (next_slot run f)) refl) tt
silent-own run s f (Is (Given (Closed r))) e = silent-open (parts_of run f) s (only (r == s) (Closes ∷ [])) (silent-only (r == s) Closes refl)
silent-own run s f (Is (Given Tick)) e = silent-open (parts_of run f) s (sees run (parts_of run f) s f (Is (Given Tick))) (refl, tt)
silent-own run s f (Is (Given event)) e = tt
silent-own run s f (Is (Noted (Offer job r k v))) e = silent-open (parts_of run f) s (only (r == s) (Offers job k ∷ [])) (silent-only (r == s) (Offers job k) refl)
silent-own run s f (Is (Noted (Verdict job kind))) e = silent-open (parts_of run f) s (judged_as run (parts_of run f) s f (job_of job f) kind) (silent-judged run (parts_of run f) s f (job_of job f) kind)
silent-own run s f (Is (Noted (Probe serial job x))) e = silent-open (parts_of run f) s (probed_as run (parts_of run f) s f serial (job_of job f) x) (silent-probed run (parts_of run f) s f serial (job_of job f) x)
silent-own run s f (Is (Noted (Report line))) e =
    let b = (session_in line == s) && hears line (part run s f) in
    silent-append (only b (Reports line ∷ [])) [] (silent-only b (Reports line) refl) tt
silent-own run s f (Is (Put r to frame lost)) e = silent-open (parts_of run f) s (only (r == s) (Sends to frame lost ∷ [])) (silent-only (r == s) (Sends to frame lost) refl)
silent-own run s f (Is (End r)) e =
    silent-open (parts_of run f) s (only (r == s) (Ends ∷ []) ++ neighbour_if run (parts_of run f) s r (is_armed (part run r f)))
    (silent-append (only (r == s) (Ends ∷ [])) _ (silent-only (r == s) Ends refl) (silent-neighbour run (parts_of run f) s r (is_armed (part run r f))))
silent-own run s f (Went r serial near frame lost) e =
    silent-open (parts_of run f) s (only (near == s) (Carries lost ∷ []) ++ only (r == s) (Goes_out serial near frame ∷ []))
    (silent-append (only (near == s) (Carries lost ∷ [])) _ (silent-only (near == s) (Carries lost) refl) (silent-only (r == s) (Goes_out serial near frame) refl))
silent-own run s f (Came r side frame) e = absurd (false≢true (sym e))
silent-own run s f (Broke r side fault) e = silent-open (parts_of run f) s (only (r == s) (Breaks fault ∷ [])) (silent-only (r == s) (Breaks fault) refl)
silent-own run s f (Did r act) e = silent-open (parts_of run f) s (only (r == s) (Acts act ∷ [])) (silent-only (r == s) (Acts act) refl)

came-same : (run : Run) (s : ℕ) (side : Side) (f : List Moment) (m : Moment) → is_coming m ≡ false → came side (part run s (m ∷ f)) ≡ came side (part run s f)
came-same run s side f m e = came-over side (own run (parts_of run f) s f m) (part run s f) (silent-own run s f m e)

-- a frame that is handled ------------------------------------------------------

came-frame : (run : Run) (s r : ℕ) (side from : Side) (f : List Moment) (b : Bool) (frame : List ℕ) (before : List Own)
    → came side (of_frame b run (parts_of run f) r f from frame ++ before) ≡ came side before ++ only (b && same_side from side) (frame ∷ [])
came-frame run s r side from f false frame before = sym (append-nil (came side before))
came-frame run s r Controller Controller f true frame before = refl
came-frame run s r Controller Switch f true frame before = sym (append-nil (came Controller before))
came-frame run s r Switch Controller f true frame before = sym (append-nil (came Switch before))
came-frame run s r Switch Switch f true frame before = refl

came-seen : (run : Run) (s r : ℕ) (side from : Side) (f : List Moment) (frame : List ℕ)
    → came side (sees run (parts_of run f) s f (Came r from frame) ++ part run s f) ≡ came side (part run s f) ++ only ((r == s) && same_side from side) (frame ∷ [])
came-seen run s r side from f frame =
    let near = neighbour_if run (parts_of run f) s r (arms (parts_of run f) r from frame) in
    let back = returned run (parts_of run f) r from frame in
    let new = of_frame (r == s) run (parts_of run f) r f from frame in
    ap (came side) (append_assoc near (back ++ new) (part run s f) ∙ ap (λ (os : List Own). near ++ os) (append_assoc back new (part run s f)))
    ∙ came-over side near (back ++ (new ++ part run s f)) (silent-neighbour run (parts_of run f) s r (arms (parts_of run f) r from frame))
    ∙ came-over side back (new ++ part run s f) (silent-returned run (parts_of run f) r from frame)
    ∙ came-frame run s r side from f (r == s) frame (part run s f)

-- what comes is the next frame ---------------------------------------------------

comes-came : (run : Run) (f : List Moment) (n : Next) (r : ℕ) (from : Side) (frame : List ℕ) → Comes run f n (Came r from frame) → n ≡ Handles r from frame
comes-came run f (Meets s (Frame to x)) r from frame c = absurd (let e : Came r from frame ≡ Is (Put s to x c.0) = c.1 in cc)
comes-came run f (Meets s (Tells line)) r from frame c = absurd (let e : Came r from frame ≡ Is (Noted (Report line)) = c in cc)
comes-came run f (Meets s (Ending why)) r from frame c = absurd (let e : Came r from frame ≡ Is (End s) = c in cc)
comes-came run f (Meets s (Probing job k)) r from frame c = absurd (let e : Came r from frame ≡ Is (Noted (Probe (last_serial run f + 1) job c.0)) = c.1 in cc)
comes-came run f (Meets s (Going serial)) r from frame c = absurd (let e : Came r from frame ≡ Went s serial c.0 c.1 c.2 = c.3 in cc)
comes-came run f (Takes s act) r from frame c = absurd (let e : Came r from frame ≡ Did s act = c in cc)
comes-came run f (Loses s) r from frame c = absurd (let e : Came r from frame ≡ Is (End s) = c in cc)
comes-came run f (Handles s side x) r from frame c = let e : Came r from frame ≡ Came s side x = c in cc
comes-came run f (Breaks_off s side x) r from frame c = absurd (let e : Came r from frame ≡ Broke s side x = c in cc)
comes-came run f (Wants s k) r from frame c = absurd (let e : Came r from frame ≡ Is (Noted (Offer (last_job run f + 1) s k (version run s f))) = c in cc)
comes-came run f Nothing r from frame c = absurd (false≢true c)

abbrev is_handles : Next → Bool
is_handles (Handles s side frame) = true
is_handles n = false

abbrev handler : Next → ℕ
handler (Handles s side frame) = s
handler n = 0

abbrev handled_side : Next → Side
handled_side (Handles s side frame) = side
handled_side n = Controller

abbrev handled_frame : Next → List ℕ
handled_frame (Handles s side frame) = frame
handled_frame n = []

-- the frame that comes next is that of the turn's piece, of a session that is open
pub record IsNext (run : Run) (f : List Moment) (r : ℕ) (side : Side) (frame : List ℕ) : Type 0 where
  pub there : is_open (part run r f) ≡ true
  pub frame_is : next_frame run r side f ≡ Some frame
  pub piece : piece_of f ≡ Some (r, side)

some-frame : (run : Run) (f : List Moment) (s : ℕ) (side : Side) (a : Option (List ℕ)) (b : Option FrameFault) (n : Next) → rest_of_frames s side f a b ≡ Some n → is_handles n ≡ true
    → (frame : List ℕ) × (a ≡ Some frame) × (n ≡ Handles s side frame)
some-frame run f s side (Some frame) b n e y = (frame, refl, sym (some-same (Handles s side frame) n e))
some-frame run f s side None (Some fault) n e y = absurd (false≢true (ap is_handles (some-same (Breaks_off s side fault) n e) ∙ y))
some-frame run f s side None None n e y = absurd (let g : None ≡ Some n = e in cc)

of-piece : (run : Run) (f : List Moment) (o : Option (ℕ × Side)) (r : ℕ) (side : Side) (frame : List ℕ) → piece_of f ≡ o → rest_of_piece run f o ≡ Some (Handles r side frame) → IsNext run f r side frame
of-piece run f None r side frame p e = absurd (let g : None ≡ Some (Handles r side frame) = e in cc)
of-piece run f (Some q) r side frame p e =
    elim (is_open (part run q.0 f)) as (λ b. is_open (part run q.0 f) ≡ b → cond b (rest_of_frames q.0 q.1 f (next_frame run q.0 q.1 f) (fault_in run q.0 q.1 f)) None ≡ Some (Handles r side frame)
    → IsNext run f r side frame) [
      | true ↦ λ y g.
          let x = some-frame run f q.0 q.1 (next_frame run q.0 q.1 f) (fault_in run q.0 q.1 f) (Handles r side frame) g refl in
          let es : r ≡ q.0 = ap handler x.2 in
          let ed : side ≡ q.1 = ap handled_side x.2 in
          let ef : frame ≡ x.0 = ap handled_frame x.2 in
          record {
            there = subst (λ (k : ℕ). is_open (part run k f) ≡ true) (sym es) y;
            frame_is = subst (λ (k : ℕ). next_frame run k side f ≡ Some frame) (sym es) (subst (λ (d : Side). next_frame run q.0 d f ≡ Some frame) (sym ed) (x.1 ∙ ap Some (sym ef)));
            piece = p ∙ ap (λ (k : ℕ). Some (k, q.1)) (sym es) ∙ ap (λ (d : Side). Some (r, d)) (sym ed);
          }
      | false ↦ λ y g. absurd (let h : None ≡ Some (Handles r side frame) = g in cc)
    ] refl e

rest-handles : (x : Option (ℕ × Due)) (y : Option (ℕ × Act)) (z : Option (ℕ × Unit {0})) (a : Option Next) (w : Option (ℕ × ℕ)) (n : Next) → is_handles n ≡ true
    → or_next (option_map (λ p. Meets p.0 p.1) x) (or_next (option_map (λ p. Takes p.0 p.1) y) (or_next (option_map (λ p. Loses p.0) z) (or_next a (or_next (option_map (λ p. Wants p.0 p.1) w) Nothing)))) ≡ n
    → a ≡ Some n
rest-handles (Some p) y z a w n h e = absurd (false≢true (ap is_handles e ∙ h))
rest-handles None (Some p) z a w n h e = absurd (false≢true (ap is_handles e ∙ h))
rest-handles None None (Some p) a w n h e = absurd (false≢true (ap is_handles e ∙ h))
rest-handles None None None (Some m) w n h e = ap Some e
rest-handles None None None None (Some p) n h e = absurd (false≢true (ap is_handles e ∙ h))
rest-handles None None None None None n h e = absurd (false≢true (ap is_handles e ∙ h))

next-handles : (run : Run) (f : List Moment) (r : ℕ) (side : Side) (frame : List ℕ) → next run f ≡ Handles r side frame → IsNext run f r side frame
unfolding next
next-handles run f r side frame e =
    let all = opened run f in
    of-piece run f (piece_of f) r side frame refl
    (rest-handles (first_with (due_of run f) all) (first_with (act_of run f) all) (first_with (lost_of run f) all) (rest_of_piece run f (piece_of f)) (first_with (want_of run f) all)
    (Handles r side frame) refl e)

came-is-next : (run : Run) (f : List Moment) (r : ℕ) (side : Side) (frame : List ℕ) → Comes run f (next run f) (Came r side frame) → IsNext run f r side frame
came-is-next run f r side frame c = next-handles run f r side frame (comes-came run f (next run f) r side frame c)

-- the frames that were handled are the first of their side -------------------------

get-at : (xs ys : List (List ℕ)) (x : List ℕ) → slice_get (xs ++ ys) (length xs) ≡ Some x → ys ≡ x ∷ drop 1 ys
get-at [] [] x e = absurd (let g : None ≡ Some x = e in cc)
get-at [] (y ∷ ys) x e = ap (λ (z : List ℕ). z ∷ ys) (some-same y x e)
get-at (z ∷ xs) ys x e = get-at xs ys x e

get-none : (xs ys : List (List ℕ)) → slice_get (xs ++ ys) (length xs) ≡ None → ys ≡ []
get-none [] [] e = refl
get-none [] (y ∷ ys) e = absurd (let g : Some y ≡ None = e in cc)
get-none (z ∷ xs) ys e = get-none xs ys e

-- as many were handled, and they are the first
pub record InLine (run : Run) (s : ℕ) (side : Side) (f : List Moment) : Type 0 where
  pub many : length (came side (part run s f)) ≡ handled s side f
  pub front : IsFront (came side (part run s f)) (frames_in run s side f)

more-frames : (b : Bool) (bytes so_far : List ℕ) (xs : List (List ℕ)) → IsFront xs (cut nothing_yet so_far).1 → IsFront xs (cut nothing_yet (with_bytes b bytes so_far)).1
more-frames true bytes so_far xs front =
    let more = (cut (cut nothing_yet so_far).0 bytes).1 in (
      front.0 ++ more,
      sym (append_assoc xs front.0 more) ∙ ap (λ (ys : List (List ℕ)). ys ++ more) front.1
          ∙ ap (λ (p : Pending × List (List ℕ)). p.1) (sym (cut-append nothing_yet so_far bytes)),
    )
more-frames false bytes so_far xs front = front

in-line-same : (run : Run) (s : ℕ) (side : Side) (f : List Moment) (m : Moment) → is_coming m ≡ false → handled s side (m ∷ f) ≡ handled s side f
    → IsFront (came side (part run s f)) (frames_in run s side (m ∷ f)) → InLine run s side f → InLine run s side (m ∷ f)
in-line-same run s side f m e h front old = record {
  many = ap length (came-same run s side f m e) ∙ old.many ∙ sym h;
  front = subst (λ (xs : List (List ℕ)). IsFront xs (frames_in run s side (m ∷ f))) (sym (came-same run s side f m e)) front;
}

one-more-length : (xs : List (List ℕ)) (x : List ℕ) → length (xs ++ x ∷ []) ≡ 1 + length xs
one-more-length [] x = refl
one-more-length (y ∷ xs) x = let e : length (xs ++ x ∷ []) ≡ 1 + length xs = one-more-length xs x in omega arith

none-added : (n : ℕ) → 0 + n ≡ n
none-added n = omega arith

same-sides : (a b : Side) → same_side a b ≡ true → a ≡ b
same-sides Controller Controller e = refl
same-sides Switch Switch e = refl
same-sides Controller Switch e = absurd (false≢true e)
same-sides Switch Controller e = absurd (false≢true e)

not-same : (a b : Bool) → (a ≡ true → b ≡ true) → b ≡ false → a ≡ false
not-same true b k n = absurd (false≢true (sym n ∙ k refl))
not-same false b k n = refl

both-of : (a b : Bool) → a && b ≡ true → (a ≡ true) × (b ≡ true)
both-of true b e = (refl, e)
both-of false b e = absurd (false≢true e)

pub open-all : (parts : Parts) (s : ℕ) (os : List Own) → is_open (parts s) ≡ true → if_open parts s os ≡ os
open-all parts s [] e = refl
open-all parts s (o ∷ os) e = ap (λ (b : Bool). only b (o ∷ os)) e

pub open-none : (parts : Parts) (s : ℕ) (os : List Own) → is_open (parts s) ≡ false → if_open parts s os ≡ []
open-none parts s [] e = refl
open-none parts s (o ∷ os) e = ap (λ (b : Bool). only b (o ∷ os)) e

came-now : (run : Run) (s r : ℕ) (side from : Side) (f : List Moment) (frame : List ℕ) → ((r == s) ≡ true → is_open (part run s f) ≡ true)
    → came side (part run s (Came r from frame ∷ f)) ≡ came side (part run s f) ++ only ((r == s) && same_side from side) (frame ∷ [])
came-now run s r side from f frame k =
    let os = sees run (parts_of run f) s f (Came r from frame) in
    elim (is_open (part run s f)) as (λ b. is_open (part run s f) ≡ b
    → came side (part run s (Came r from frame ∷ f)) ≡ came side (part run s f) ++ only ((r == s) && same_side from side) (frame ∷ [])) [
      | true ↦ λ y. ap (λ (xs : List Own). came side (xs ++ part run s f)) (open-all (parts_of run f) s os y) ∙ came-seen run s r side from f frame
      | false ↦ λ n.
          let shut : (r == s) ≡ false = not-same (r == s) (is_open (part run s f)) k n in
          ap (λ (xs : List Own). came side (xs ++ part run s f)) (open-none (parts_of run f) s os n)
          ∙ sym (append-nil (came side (part run s f)))
          ∙ ap (λ (b : Bool). came side (part run s f) ++ only (b && same_side from side) (frame ∷ [])) (sym shut)
    ] refl

longer-by : (b : Bool) (xs : List (List ℕ)) (x : List ℕ) → length (xs ++ only b (x ∷ [])) ≡ cond b 1 0 + length xs
longer-by true xs x = one-more-length xs x
longer-by false xs x = ap length (append-nil xs) ∙ sym (none-added (length xs))

front-by : (b : Bool) (xs all : List (List ℕ)) (x : List ℕ) → (b ≡ true → slice_get all (length xs) ≡ Some x) → IsFront xs all → IsFront (xs ++ only b (x ∷ [])) all
front-by true xs all x k front =
    let rest : front.0 ≡ x ∷ drop 1 front.0 = get-at xs front.0 x (ap (λ (ys : List (List ℕ)). slice_get ys (length xs)) front.1 ∙ k refl) in
    (drop 1 front.0, append_assoc xs (x ∷ []) (drop 1 front.0) ∙ ap (λ (ys : List (List ℕ)). xs ++ ys) (sym rest) ∙ front.1)
front-by false xs all x k front = (front.0, ap (λ (ys : List (List ℕ)). ys ++ front.0) (append-nil xs) ∙ front.1)

in-line-came : (run : Run) (s r : ℕ) (side from : Side) (f : List Moment) (frame : List ℕ) → IsNext run f r from frame
    → InLine run s side f → InLine run s side (Came r from frame ∷ f)
in-line-came run s r side from f frame n old =
    let now = came-now run s r side from f frame (λ y. subst (λ (k : ℕ). is_open (part run k f) ≡ true) (same-of r s y) n.there) in
    let due : ((r == s) && same_side from side) ≡ true → slice_get (frames_in run s side f) (length (came side (part run s f))) ≡ Some frame = λ y.
    let both = both-of (r == s) (same_side from side) y in
    ap (λ (k : ℕ). slice_get (frames_in run s side f) k) old.many
    ∙ subst (λ (k : ℕ). next_frame run k side f ≡ Some frame) (same-of r s both.0) (subst (λ (d : Side). next_frame run r d f ≡ Some frame) (same-sides from side both.1) n.frame_is) in
    record {
      many = ap length now ∙ longer-by ((r == s) && same_side from side) (came side (part run s f)) frame
          ∙ ap (λ (k : ℕ). cond ((r == s) && same_side from side) 1 0 + k) old.many;
      front = subst (λ (xs : List (List ℕ)). IsFront xs (frames_in run s side f)) (sym now)
          (front-by ((r == s) && same_side from side) (came side (part run s f)) (frames_in run s side f) frame due old.front);
    }

pub in-line : (run : Run) (s : ℕ) (side : Side) (f : List Moment) → FramesGoInOrder run f → InLine run s side f
in-line run s Controller [] order = record { many = refl; front = ([], refl) }
in-line run s Switch [] order = record { many = refl; front = ([], refl) }
in-line run s side (Is (Given (Piece r from bytes)) ∷ f) order =
    let old = in-line run s side f order.2 in
    in-line-same run s side f (Is (Given (Piece r from bytes))) refl refl
    (more-frames ((r == s) && (same_side from side && is_there run s f)) bytes (stream run s side f) (came side (part run s f)) old.front) old
in-line run s side (Came r from frame ∷ f) order =
    in-line-came run s r side from f frame (came-is-next run f r from frame order.1) (in-line run s side f order.2)
in-line run s side (Is entry ∷ f) order = let old = in-line run s side f order.2 in in-line-same run s side f (Is entry) refl refl old.front old
in-line run s side (Went r serial near frame lost ∷ f) order = let old = in-line run s side f order.2 in in-line-same run s side f (Went r serial near frame lost) refl refl old.front old
in-line run s side (Broke r from fault ∷ f) order = let old = in-line run s side f order.2 in in-line-same run s side f (Broke r from fault) refl refl old.front old
in-line run s side (Did r act ∷ f) order = let old = in-line run s side f order.2 in in-line-same run s side f (Did r act) refl refl old.front old

-- where a turn has ended all are handled -------------------------------------------

append-none : (xs ys : List Own) → xs ++ ys ≡ [] → ys ≡ []
append-none [] ys e = e
append-none (x ∷ xs) ys e = absurd (let g : x ∷ (xs ++ ys) ≡ [] = e in cc)

or-none : (a b : Bool) → a ≡ false → b ≡ false → a || b ≡ false
or-none true b e g = absurd (false≢true (sym e))
or-none false b e g = g

and-none : (a b : Bool) → b ≡ false → a && b ≡ false
and-none true b e = e
and-none false b e = refl

begun-none : (b : Bool) (o : Own) (before : List Own) → only b (o ∷ []) ++ [] ++ before ≡ [] → (b ≡ false) × (before ≡ [])
begun-none true o before e = absurd (let g : o ∷ before ≡ [] = e in cc)
begun-none false o before e = (refl, e)

-- a session that has seen nothing was not there
not-there : (run : Run) (s : ℕ) (f : List Moment) → part run s f ≡ [] → is_there run s f ≡ false
not-there run s [] e = refl
not-there run s (Is (Given Opened) ∷ f) e =
    let n = begun-none (openings run f == s) (Begins (next_slot run f)) (part run s f) e in
    or-none (openings run f == s) (is_there run s f) n.0 (not-there run s f n.1)
not-there run s (Is (End r) ∷ f) e =
    and-none (not (r == s)) (is_there run s f) (not-there run s f (append-none (own run (parts_of run f) s f (Is (End r))) (part run s f) e))
not-there run s (m ∷ f) e = not-there run s f (append-none (own run (parts_of run f) s f m) (part run s f) e)

none-with : (b : Bool) (bytes so_far : List ℕ) → b ≡ false → with_bytes b bytes so_far ≡ so_far
none-with true bytes so_far e = absurd (false≢true (sym e))
none-with false bytes so_far e = refl

no-stream : (run : Run) (s : ℕ) (side : Side) (f : List Moment) → part run s f ≡ [] → stream run s side f ≡ []
no-stream run s side [] e = refl
no-stream run s side (Is (Given (Piece r from bytes)) ∷ f) e =
    none-with ((r == s) && (same_side from side && is_there run s f)) bytes (stream run s side f)
    (and-none (r == s) (same_side from side && is_there run s f) (and-none (same_side from side) (is_there run s f) (not-there run s f e)))
    ∙ no-stream run s side f e
no-stream run s side (m ∷ f) e = no-stream run s side f (append-none (own run (parts_of run f) s f m) (part run s f) e)

abbrev is_its : ℕ → Side → Option (ℕ × Side) → Bool
is_its s side None = false
is_its s side (Some p) = (p.0 == s) && same_side p.1 side

rest-of-nothing : (x : Option (ℕ × Due)) (y : Option (ℕ × Act)) (z : Option (ℕ × Unit {0})) (a : Option Next) (rest : Next)
    → is_nothing (or_next (option_map (λ p. Meets p.0 p.1) x) (or_next (option_map (λ p. Takes p.0 p.1) y) (or_next (option_map (λ p. Loses p.0) z) (or_next a rest)))) ≡ true
    → ((n : Next) → a ≡ Some n → is_nothing n ≡ false) → a ≡ None
rest-of-nothing (Some p) y z a rest e k = absurd (false≢true e)
rest-of-nothing None (Some p) z a rest e k = absurd (false≢true e)
rest-of-nothing None None (Some p) a rest e k = absurd (false≢true e)
rest-of-nothing None None None (Some n) rest e k = absurd (false≢true (sym (k n refl) ∙ e))
rest-of-nothing None None None None rest e k = refl

pub piece-done : (run : Run) (f : List Moment) → next run f ≡ Nothing → rest_of_piece run f (piece_of f) ≡ None
unfolding next
piece-done run f e =
    let all = opened run f in
    rest-of-nothing (first_with (due_of run f) all) (first_with (act_of run f) all) (first_with (lost_of run f) all) (rest_of_piece run f (piece_of f)) _
    (ap is_nothing e) (piece-none is_nothing (λ r side frame. refl) (λ r side fault. refl) run f (piece_of f))

no-frame : (s : ℕ) (side : Side) (f : List Moment) (a : Option (List ℕ)) (b : Option FrameFault) → rest_of_frames s side f a b ≡ None → a ≡ None
no-frame s side f (Some frame) b e = absurd (let g : Some (Handles s side frame) ≡ None = e in cc)
no-frame s side f None b e = refl

piece-empty : (run : Run) (s : ℕ) (side : Side) (f : List Moment) (o : Option (ℕ × Side)) → is_its s side o ≡ true → is_open (part run s f) ≡ true → rest_of_piece run f o ≡ None
    → next_frame run s side f ≡ None
piece-empty run s side f None y there e = absurd (false≢true y)
piece-empty run s side f (Some p) y there e =
    let both = both-of (p.0 == s) (same_side p.1 side) y in
    let es = same-of p.0 s both.0 in
    let ed = same-sides p.1 side both.1 in
    let g : rest_of_frames p.0 p.1 f (next_frame run p.0 p.1 f) (fault_in run p.0 p.1 f) ≡ None =
    subst (λ (b : Bool). cond b (rest_of_frames p.0 p.1 f (next_frame run p.0 p.1 f) (fault_in run p.0 p.1 f)) None ≡ None)
    (subst (λ (k : ℕ). is_open (part run k f) ≡ true) (sym es) there) e in
    subst (λ (k : ℕ). next_frame run k side f ≡ None) es
    (subst (λ (d : Side). next_frame run p.0 d f ≡ None) ed (no-frame p.0 p.1 f (next_frame run p.0 p.1 f) (fault_in run p.0 p.1 f) g))

at-end : (run : Run) (s : ℕ) (side : Side) (f : List Moment) → InLine run s side f → next run f ≡ Nothing → is_open (part run s f) ≡ true
    → (is_its s side (piece_of f) ≡ false → came side (part run s f) ≡ frames_in run s side f) → came side (part run s f) ≡ frames_in run s side f
at-end run s side f old nothing there claim =
    elim (is_its s side (piece_of f)) as (λ b. is_its s side (piece_of f) ≡ b → came side (part run s f) ≡ frames_in run s side f) [
      | true ↦ λ y.
          let none = piece-empty run s side f (piece_of f) y there (piece-done run f nothing) in
          let empty : old.front.0 ≡ [] = get-none (came side (part run s f)) old.front.0
          (ap (λ (xs : List (List ℕ)). slice_get xs (length (came side (part run s f)))) old.front.1 ∙ ap (λ (n : ℕ). slice_get (frames_in run s side f) n) old.many ∙ none) in
          sym (append-nil (came side (part run s f))) ∙ ap (λ (xs : List (List ℕ)). came side (part run s f) ++ xs) (sym empty) ∙ old.front.1
      | false ↦ claim
    ] refl

open-before : (run : Run) (s : ℕ) (f : List Moment) (os : List Own) → is_open (if_open (parts_of run f) s os ++ part run s f) ≡ true → is_open (part run s f) ≡ true
open-before run s f os e =
    elim (is_open (part run s f)) as (λ b. is_open (part run s f) ≡ b → is_open (part run s f) ≡ true) [
      | true ↦ λ y. y
      | false ↦ λ n. absurd (false≢true (sym n ∙ ap (λ (xs : List Own). is_open (xs ++ part run s f)) (sym (open-none (parts_of run f) s os n)) ∙ e))
    ] refl

closed-begun : (before : List Own) → is_open before ≡ false → not (has_ended before) ≡ true → before ≡ []
closed-begun [] n e = refl
closed-begun (o ∷ before) n e = absurd (false≢true (sym n ∙ e))

came-none : (side : Side) → came side [] ≡ []
came-none Controller = refl
came-none Switch = refl

begun-open : (run : Run) (s : ℕ) (side : Side) (f : List Moment) (b : Bool) → is_open (part run s f) ≡ false → is_open (only b (Begins (next_slot run f) ∷ []) ++ [] ++ part run s f) ≡ true
    → came side (part run s f) ≡ frames_in run s side f
begun-open run s side f true n e =
    let none = closed-begun (part run s f) n e in
    ap (came side) none ∙ came-none side ∙ ap (λ (bytes : List ℕ). (cut nothing_yet bytes).1) (sym (no-stream run s side f none))
begun-open run s side f false n e = absurd (false≢true (sym n ∙ e))

not-both : (a b c : Bool) → a && b ≡ false → a && (b && c) ≡ false
not-both true b c e = ap (λ (x : Bool). x && c) e
not-both false b c e = refl

heard-open : (b : Bool) (line : Line) (before : List Own) → is_open (only b (Reports line ∷ []) ++ [] ++ before) ≡ true → (b ≡ true → before ≡ [] → ⊥) → is_open before ≡ true
heard-open true line before e k =
    elim (is_open before) as (λ b. is_open before ≡ b → is_open before ≡ true) [
      | true ↦ λ y. y
      | false ↦ λ n. absurd (k refl (closed-begun before n e))
    ] refl
heard-open false line before e k = e

open-heard : (run : Run) (s : ℕ) (f : List Moment) (line : Line)
    → is_open (only ((session_in line == s) && hears line (part run s f)) (Reports line ∷ []) ++ [] ++ part run s f) ≡ true → is_open (part run s f) ≡ true
open-heard run s f line e =
    heard-open ((session_in line == s) && hears line (part run s f)) line (part run s f) e
    (λ y none. false≢true (sym (ap (λ (seen : List Own). (session_in line == s) && hears line seen) none ∙ and-none (session_in line == s) (hears line []) (hears-none line)) ∙ y))

claim : (run : Run) (s : ℕ) (side : Side) (f : List Moment) → FramesGoInOrder run f → is_open (part run s f) ≡ true → is_its s side (piece_of f) ≡ false
    → came side (part run s f) ≡ frames_in run s side f
claim run s side [] order there other = absurd (false≢true there)
claim run s side (Is (Given Opened) ∷ f) order there other =
    came-same run s side f (Is (Given Opened)) refl
    ∙ elim (is_open (part run s f)) as (λ b. is_open (part run s f) ≡ b → came side (part run s f) ≡ frames_in run s side f) [
      | true ↦ λ y. at-end run s side f (in-line run s side f order.2) order.0 y (λ n. claim run s side f order.2 y n)
      | false ↦ λ n. begun-open run s side f (openings run f == s) n there
    ] refl
claim run s side (Is (Given (Piece r from bytes)) ∷ f) order there other =
    at-end run s side f (in-line run s side f order.2) order.0 there (λ n. claim run s side f order.2 there n)
    ∙ ap (λ (xs : List ℕ). (cut nothing_yet xs).1)
    (sym (none-with ((r == s) && (same_side from side && is_there run s f)) bytes (stream run s side f) (not-both (r == s) (same_side from side) (is_there run s f) other)))
claim run s side (Is (Given event) ∷ f) order there other =
    let before = open-before run s f (sees run (parts_of run f) s f (Is (Given event))) there in
    came-same run s side f (Is (Given event)) refl ∙ at-end run s side f (in-line run s side f order.2) order.0 before (λ n. claim run s side f order.2 before n)
claim run s side (Is (Noted (Report line)) ∷ f) order there other =
    came-same run s side f (Is (Noted (Report line))) refl ∙ claim run s side f order.2 (open-heard run s f line there) other
claim run s side (Is entry ∷ f) order there other =
    came-same run s side f (Is entry) refl ∙ claim run s side f order.2 (open-before run s f (sees run (parts_of run f) s f (Is entry)) there) other
claim run s side (Came r from frame ∷ f) order there other =
    let before = open-before run s f (sees run (parts_of run f) s f (Came r from frame)) there in
    let n = came-is-next run f r from frame order.1 in
    let apart : ((r == s) && same_side from side) ≡ false = ap (is_its s side) (sym n.piece) ∙ other in
    came-now run s r side from f frame (λ y. before) ∙ ap (λ (b : Bool). came side (part run s f) ++ only b (frame ∷ [])) apart ∙ append-nil (came side (part run s f))
    ∙ claim run s side f order.2 before other
claim run s side (Went r serial near frame lost ∷ f) order there other =
    came-same run s side f (Went r serial near frame lost) refl ∙ claim run s side f order.2 (open-before run s f (sees run (parts_of run f) s f (Went r serial near frame lost)) there) other
claim run s side (Broke r from fault ∷ f) order there other =
    came-same run s side f (Broke r from fault) refl ∙ claim run s side f order.2 (open-before run s f (sees run (parts_of run f) s f (Broke r from fault)) there) other
claim run s side (Did r act ∷ f) order there other =
    came-same run s side f (Did r act) refl ∙ claim run s side f order.2 (open-before run s f (sees run (parts_of run f) s f (Did r act)) there) other

pub all-handled : (run : Run) (s : ℕ) (side : Side) (f : List Moment) → FramesGoInOrder run f → next run f ≡ Nothing → is_open (part run s f) ≡ true
    → came side (part run s f) ≡ frames_in run s side f
all-handled run s side f order nothing there = at-end run s side f (in-line run s side f order) nothing there (λ n. claim run s side f order there n)
