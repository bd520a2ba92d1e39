-- A session that is open stays so until its end.
use Rattle.std.proofs.Common.{◌≡◌, ℕ, Bool, true, false, not, ◌&&◌, List, [], ◌∷◌, ◌++◌, Option, Some, None, refl, sym, ap, ◌∙◌}
use Rattle.std.specs.Prelude.{◌==◌}
use Rattle.std.proofs.lemmas.Bool.{false≢true}
use Rattle.mon_header.specs.declared.header.Header.{Header}
use Rattle.mon_packet.specs.declared.nonce.Nonce.{Nonce}
use Rattle.mon_packet.specs.Reading.{Read}
use Rattle.mon_outcome.specs.declared.emission.Emission.{Emission}
use Rattle.mon_world.specs.declared.event.Side.TheVariants.{Controller, Switch}
use Rattle.mon_world.specs.declared.event.Event.TheVariants.{Opened, Closed}
use Rattle.mon_world.specs.declared.event.Kind.{Kind}
use Rattle.mon_world.specs.declared.event.Note.TheVariants.{Offer, Verdict, Probe, Report}
use Rattle.mon_world.specs.declared.history.Entry.TheVariants.{Given, Noted, Put, End}
use Rattle.mon_legal.specs.Runs.{Run}
use Rattle.mon_legal.specs.Changing.{only}
use Rattle.mon_legal.specs.Owns.{Own}
use Rattle.mon_legal.specs.Owns.Own.{Begins, Breaks, Closes, Returns, Neighbour, Acts, Offers, Goes_out, Sends, Carries, Reports, Ends}
use Rattle.mon_legal.specs.Messages.{carried_in}
use Rattle.mon_legal.specs.Barriers.{is_armed}
use Rattle.mon_legal.specs.Datapaths.{datapath}
use Rattle.mon_legal.specs.Moments.{Moment}
use Rattle.mon_legal.specs.Moments.Moment.{Is, Went, Came, Broke, Did}
use Rattle.mon_legal.specs.Jobs.{Job, job_of, openings}
use Rattle.mon_legal.specs.Sessions.{Parts, part, parts_of, sees, is_open, has_ended, hears, session_in, next_slot, neighbour_if, arms, are_linked, returned, returns_in, returns_with, seen_at, of_frame, judged_as, judged_if, probed_as, probed_if}
use Rattle.mon_legal.proofs.Handled.{open-all}
use Rattle.mon_turns.specs.Laws.{ends_it}

ended-append : (os p : List Own) → has_ended os ≡ false → has_ended (os ++ p) ≡ has_ended p
ended-append [] p e = refl
ended-append (Ends ∷ os) p e = absurd (false≢true (sym e))
ended-append (o ∷ os) p e = ended-append os p e

both-end : (os ps : List Own) → has_ended os ≡ false → has_ended ps ≡ false → has_ended (os ++ ps) ≡ false
both-end os ps e f = ended-append os ps e ∙ f

one-of : (b : Bool) (o : Own) → has_ended (o ∷ []) ≡ false → has_ended (only b (o ∷ [])) ≡ false
one-of true o e = e
one-of false o e = refl

near-none : (run : Run) (parts : Parts) (s r : ℕ) (b : Bool) → has_ended (neighbour_if run parts s r b) ≡ false
near-none run parts s r true = one-of (not (s == r) && are_linked run.topology (datapath (parts s)) (datapath (parts r))) Neighbour refl
near-none run parts s r false = refl

returns-none : (key : ℕ) (d : Option ℕ) (frame : List ℕ) (h : Header) (n : Option Nonce) → has_ended (returns_with key d frame h n) ≡ false
returns-none key (Some d) frame h (Some n) = one-of (n.key == key) (Returns n.serial (seen_at d frame h)) refl
returns-none key (Some d) frame h None = refl
returns-none key None frame h (Some n) = refl
returns-none key None frame h None = refl

found-none : (key : ℕ) (parts : Parts) (r : ℕ) (frame : List ℕ) (found : Read) → has_ended (returns_in key parts r frame found) ≡ false
found-none key parts r frame None = refl
found-none key parts r frame (Some found) = returns-none key (datapath (parts r)) frame found.0 found.1

judged-none : (b : Bool) (run : Run) (parts : Parts) (f : List Moment) (job : Job) (kind : Kind) → has_ended (judged_if b run parts f job kind) ≡ false
judged-none true run parts f job kind = refl
judged-none false run parts f job kind = refl

judges-none : (run : Run) (parts : Parts) (s : ℕ) (f : List Moment) (o : Option Job) (kind : Kind) → has_ended (judged_as run parts s f o kind) ≡ false
judges-none run parts s f None kind = refl
judges-none run parts s f (Some job) kind = judged-none (job.session == s) run parts f job kind

probed-none : (b : Bool) (run : Run) (parts : Parts) (f : List Moment) (n : ℕ) (job : Job) (e : Emission) → has_ended (probed_if b run parts f n job e) ≡ false
probed-none true run parts f n job e = refl
probed-none false run parts f n job e = refl

probes-none : (run : Run) (parts : Parts) (s : ℕ) (f : List Moment) (n : ℕ) (o : Option Job) (e : Emission) → has_ended (probed_as run parts s f n o e) ≡ false
probes-none run parts s f n None e = refl
probes-none run parts s f n (Some job) e = probed-none (job.session == s) run parts f n job e

frame-none : (b : Bool) (run : Run) (parts : Parts) (r : ℕ) (f : List Moment) (frame : List ℕ) → has_ended (of_frame b run parts r f Controller frame) ≡ false
frame-none true run parts r f frame = refl
frame-none false run parts r f frame = refl

switch-none : (b : Bool) (run : Run) (parts : Parts) (r : ℕ) (f : List Moment) (frame : List ℕ) → has_ended (of_frame b run parts r f Switch frame) ≡ false
switch-none true run parts r f frame = refl
switch-none false run parts r f frame = refl

sees-none : (run : Run) (parts : Parts) (s : ℕ) (f : List Moment) (m : Moment) → ends_it s m ≡ false → has_ended (sees run parts s f m) ≡ false
sees-none run parts s f (Is (Given (Closed r))) x = one-of (r == s) Closes refl
sees-none run parts s f (Is (Given event)) x = refl
sees-none run parts s f (Is (Noted (Offer j r k v))) x = one-of (r == s) (Offers j k) refl
sees-none run parts s f (Is (Noted (Verdict j kind))) x = judges-none run parts s f (job_of j f) kind
sees-none run parts s f (Is (Noted (Probe n j e))) x = probes-none run parts s f n (job_of j f) e
sees-none run parts s f (Is (Noted (Report l))) x = refl
sees-none run parts s f (Is (Put r to frame lost)) x = one-of (r == s) (Sends to frame lost) refl
sees-none run parts s f (Is (End r)) x =
    ap (λ (b : Bool). has_ended (only b (Ends ∷ []) ++ neighbour_if run parts s r (is_armed (parts r)))) x ∙ near-none run parts s r (is_armed (parts r))
sees-none run parts s f (Went r serial near frame lost) x =
    both-end (only (near == s) (Carries lost ∷ [])) (only (r == s) (Goes_out serial near frame ∷ [])) (one-of (near == s) (Carries lost) refl) (one-of (r == s) (Goes_out serial near frame) refl)
sees-none run parts s f (Came r Controller frame) x =
    both-end [] (of_frame (r == s) run parts r f Controller frame) refl (frame-none (r == s) run parts r f frame)
sees-none run parts s f (Came r Switch frame) x =
    both-end (neighbour_if run parts s r (arms parts r Switch frame)) (returned run parts r Switch frame ++ of_frame (r == s) run parts r f Switch frame)
    (near-none run parts s r (arms parts r Switch frame))
    (both-end (returned run parts r Switch frame) (of_frame (r == s) run parts r f Switch frame) (found-none run.key parts r frame (carried_in frame)) (switch-none (r == s) run parts r f frame))
sees-none run parts s f (Broke r side fault) x = one-of (r == s) (Breaks fault) refl
sees-none run parts s f (Did r act) x = one-of (r == s) (Acts act) refl

opens-still : (os p : List Own) → has_ended os ≡ false → is_open p ≡ true → is_open (os ++ p) ≡ true
opens-still os [] e there = absurd (false≢true there)
opens-still [] (o ∷ p) e there = there
opens-still (q ∷ os) (o ∷ p) e there = ap not (ended-append (q ∷ os) (o ∷ p) e) ∙ there

only-kept : (b : Bool) (o : Own) (os p : List Own) → has_ended (o ∷ []) ≡ false → has_ended os ≡ false → is_open p ≡ true → is_open (only b (o ∷ []) ++ os ++ p) ≡ true
only-kept b o os p x e there = opens-still (only b (o ∷ []) ++ os) p (both-end (only b (o ∷ [])) os (one-of b o x) e) there

-- an open session is open behind each moment but its end
pub open-stays : (run : Run) (s : ℕ) (f : List Moment) (m : Moment) → ends_it s m ≡ false → is_open (part run s f) ≡ true → is_open (part run s (m ∷ f)) ≡ true
open-stays run s f (Is (Given Opened)) x there = only-kept (openings run f == s) (Begins (next_slot run f)) [] (part run s f) refl refl there
open-stays run s f (Is (Noted (Report l))) x there =
    only-kept ((session_in l == s) && hears l (part run s f)) (Reports l) [] (part run s f) refl refl there
open-stays run s f m x there =
    let os = sees run (parts_of run f) s f m in
    ap (λ (xs : List Own). is_open (xs ++ part run s f)) (open-all (parts_of run f) s os there) ∙ opens-still os (part run s f) (sees-none run (parts_of run f) s f m x) there
