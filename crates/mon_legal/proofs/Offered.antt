-- Jobs are offered rightly, because what comes is what is due.
use Rattle.std.proofs.Common.{◌≡◌, ℕ, ◌+◌, ◌<◌, Bool, true, false, cond, ◌&&◌, List, [], ◌∷◌, Option, Some, None, option_map, refl, sym, ap, ◌∙◌, arith}
use Rattle.std.specs.Prelude.{nat_lt, not, ◌==◌}
use Rattle.std.proofs.lemmas.Bool.{false≢true}
use Rattle.mon_table.specs.declared.rule.Rule.{Rule}
use Rattle.mon_world.specs.declared.event.Note.TheVariants.{Offer, Verdict, Probe, Report}
use Rattle.mon_legal.specs.Runs.{Run}
use Rattle.mon_legal.specs.Owns.{Act}
use Rattle.mon_legal.specs.Sessions.{part, is_open, is_tick, opened, version}
use Rattle.mon_legal.specs.Moments.{Moment, begins, cause}
use Rattle.mon_legal.specs.Offering.{OffersRightly, NoneWants, JobsAreOffered}
use Rattle.mon_legal.specs.Passing.{NothingIsLeft, Comes, FramesGoInOrder}
use Rattle.mon_legal.proofs.Coming.{first-has, first-none, kept-where, is_nothing, made-none, piece-none}
use Rattle.mon_legal.proofs.Waiting.{at-turn}
use Rattle.mon_world.specs.declared.history.Entry.TheVariants.{End, Given, Noted, Put}
use Rattle.mon_legal.specs.Watching.{Watching, wants_watch, watch_wanted, watching}
use Rattle.mon_legal.specs.Ordering.Next.{Breaks_off, Handles, Loses, Meets, Nothing, Takes, Wants}
use Rattle.mon_legal.specs.Ordering.{Next, act_of, due_of, first_with, jobs_in_slot, lost_of, next, or_next, piece_of, rest_of_piece, want_of}
use Rattle.mon_legal.specs.Probes.{live, oldest_of, or_own, wanting, wants, with_job}
use Rattle.mon_legal.specs.Moments.Moment.{Broke, Came, Did, Is, Went}
use Rattle.mon_legal.specs.Directly.Due.{Ending, Frame, Going, Probing, Tells}
use Rattle.mon_legal.specs.Directly.{Due}
use Rattle.mon_legal.specs.Jobs.{last_job, last_serial}
use Rattle.mon_legal.specs.Edits.{Passed, entries, unsettled}
use Rattle.mon_legal.specs.Barriers.{is_armed}

abbrev is_wants : Next → Bool
is_wants (Wants s k) = true
is_wants n = false

abbrev wanter : Next → ℕ
wanter (Wants s k) = s
wanter n = 0

abbrev wanted : Next → ℕ
wanted (Wants s k) = k
wanted n = 0

-- the offer that comes is the next thing
pub record IsWanted (run : Run) (f : List Moment) (n : Next) (job s k v : ℕ) : Type 0 where
  pub next_is : n ≡ Wants s k
  pub number : job ≡ last_job run f + 1
  pub present : v ≡ version run s f

abbrev offered : Moment → ℕ × ℕ × ℕ × ℕ
offered (Is (Noted (Offer job s k v))) = (job, s, k, v)
offered m = (0, 0, 0, 0)

same-offer : (run : Run) (f : List Moment) (q r job s k v : ℕ) → Is (Noted (Offer job s k v)) ≡ Is (Noted (Offer (last_job run f + 1) q r (version run q f))) → IsWanted run f (Wants q r) job s k v
same-offer run f q r job s k v e =
    let es : s ≡ q = ap (λ m. (offered m).1) e in
    let ek : k ≡ r = ap (λ m. (offered m).2) e in
    record {
      next_is = ap (λ (x : ℕ). Wants x r) (sym es) ∙ ap (λ (y : ℕ). Wants s y) (sym ek);
      number = ap (λ m. (offered m).0) e;
      present = ap (λ m. (offered m).3) e ∙ ap (λ (x : ℕ). version run x f) (sym es);
    }

comes-offer : (run : Run) (f : List Moment) (n : Next) (job s k v : ℕ) → Comes run f n (Is (Noted (Offer job s k v))) → IsWanted run f n job s k v
comes-offer run f (Meets r (Frame to frame)) job s k v c = absurd (let e : Is (Noted (Offer job s k v)) ≡ Is (Put r to frame c.0) = c.1 in cc)
comes-offer run f (Meets r (Tells line)) job s k v c = absurd (let e : Is (Noted (Offer job s k v)) ≡ Is (Noted (Report line)) = c in cc)
comes-offer run f (Meets r (Ending why)) job s k v c = absurd (let e : Is (Noted (Offer job s k v)) ≡ Is (End r) = c in cc)
comes-offer run f (Meets r (Probing other j)) job s k v c = absurd (let e : Is (Noted (Offer job s k v)) ≡ Is (Noted (Probe (last_serial run f + 1) other c.0)) = c.1 in cc)
comes-offer run f (Meets r (Going serial)) job s k v c = absurd (let e : Is (Noted (Offer job s k v)) ≡ Went r serial c.0 c.1 c.2 = c.3 in cc)
comes-offer run f (Takes r act) job s k v c = absurd (let e : Is (Noted (Offer job s k v)) ≡ Did r act = c in cc)
comes-offer run f (Loses r) job s k v c = absurd (let e : Is (Noted (Offer job s k v)) ≡ Is (End r) = c in cc)
comes-offer run f (Handles r side x) job s k v c = absurd (let e : Is (Noted (Offer job s k v)) ≡ Came r side x = c in cc)
comes-offer run f (Breaks_off r side x) job s k v c = absurd (let e : Is (Noted (Offer job s k v)) ≡ Broke r side x = c in cc)
comes-offer run f (Wants r j) job s k v c = same-offer run f r j job s k v c
comes-offer run f Nothing job s k v c = absurd (false≢true c)

or-wants : (a : Option Next) (b n : Next) → ((m : Next) → a ≡ Some m → is_wants m ≡ false) → is_wants n ≡ true → or_next a b ≡ n → b ≡ n
or-wants None b n k y e = e
or-wants (Some m) b n k y e = absurd (false≢true (sym (k m refl) ∙ (ap is_wants e ∙ y)))

last-wants : (w : Option (ℕ × ℕ)) (s k : ℕ) → or_next (option_map (λ p. Wants p.0 p.1) w) Nothing ≡ Wants s k → w ≡ Some (s, k)
last-wants (Some p) s k e = ap (λ (x : ℕ). Some (x, p.1)) (ap wanter e) ∙ ap (λ (y : ℕ). Some (s, y)) (ap wanted e)
last-wants None s k e = absurd (let g : Nothing ≡ Wants s k = e in cc)

next-wants : (run : Run) (f : List Moment) (s k : ℕ) → next run f ≡ Wants s k → first_with (want_of run f) (opened run f) ≡ Some (s, k)
unfolding next
next-wants run f s k e =
    let all = opened run f in
    last-wants (first_with (want_of run f) all) s k
    (or-wants (rest_of_piece run f (piece_of f)) _ (Wants s k) (piece-none is_wants (λ r side frame. refl) (λ r side fault. refl) run f (piece_of f)) refl
    (or-wants (option_map (λ p. Loses p.0) (first_with (lost_of run f) all)) _ (Wants s k) (made-none is_wants (λ (p : ℕ × Unit {0}). Loses p.0) (λ p. refl) (first_with (lost_of run f) all)) refl
    (or-wants (option_map (λ p. Takes p.0 p.1) (first_with (act_of run f) all)) _ (Wants s k) (made-none is_wants (λ (p : ℕ × Act). Takes p.0 p.1) (λ p. refl) (first_with (act_of run f) all)) refl
    (or-wants (option_map (λ p. Meets p.0 p.1) (first_with (due_of run f) all)) _ (Wants s k) (made-none is_wants (λ (p : ℕ × Due). Meets p.0 p.1) (λ p. refl) (first_with (due_of run f) all)) refl e))))

-- the session is armed, and has room
armed-or-none : (b tick : Bool) (a : Option ℕ) (x : Bool) (w : Watching) (t : List Rule) (edits : List Passed) (k : ℕ)
    → or_own (cond b a None) (option_map (λ r. 0) (wants_watch (tick && (b && x)) w t edits)) ≡ Some k → b ≡ true
armed-or-none true tick a x w t edits k e = refl
armed-or-none false true a x w t edits k e = absurd (let g : None ≡ Some k = e in cc)
armed-or-none false false a x w t edits k e = absurd (let g : None ≡ Some k = e in cc)

both-true : (a b : Bool) (o : Option ℕ) (k : ℕ) → cond (a && b) o None ≡ Some k → (b ≡ true) × (o ≡ Some k)
both-true true true o k e = (refl, e)
both-true true false o k e = absurd (let g : None ≡ Some k = e in cc)
both-true false b o k e = absurd (let g : None ≡ Some k = e in cc)

less-than : (a b : ℕ) → nat_lt a b ≡ true → a < b
less-than a b e = grind (arith, e)

offers-rightly : (run : Run) (f : List Moment) (m : Moment) → Comes run f (next run f) m → OffersRightly run f m
offers-rightly run f (Is (Noted (Offer job s k v))) c =
    let w = comes-offer run f (next run f) job s k v c in
    let first = next-wants run f s k w.next_is in
    let own = part run s f in
    let full = both-true (is_open own) (nat_lt (jobs_in_slot run s f) 16)
    (or_own (wanting run own) (option_map (λ r. 0) (watch_wanted run (is_tick (cause f)) own))) k (first-has (want_of run f) (opened run f) (s, k) first) in
    record {
      first = first;
      armed = armed-or-none (is_armed own) (is_tick (cause f)) (oldest_of (wants (with_job own) (live run own)) (unsettled own)) (not (run.watch_ticks == 0)) (watching run own) (entries own) (unsettled own) k full.1;
      room = less-than (jobs_in_slot run s f) 16 full.0;
      present = w.present;
      number = w.number;
    }
offers-rightly run f (Is (Noted (Verdict job kind))) c = tt
offers-rightly run f (Is (Noted (Probe serial job x))) c = tt
offers-rightly run f (Is (Noted (Report line))) c = tt
offers-rightly run f (Is (Given event)) c = tt
offers-rightly run f (Is (Put s to frame lost)) c = tt
offers-rightly run f (Is (End s)) c = tt
offers-rightly run f (Went s serial near frame lost) c = tt
offers-rightly run f (Came s side frame) c = tt
offers-rightly run f (Broke s side fault) c = tt
offers-rightly run f (Did s act) c = tt

rest-none : (a : Option Next) (b : Next) → ((n : Next) → a ≡ Some n → is_nothing n ≡ false) → is_nothing (or_next a b) ≡ true → is_nothing b ≡ true
rest-none None b k e = e
rest-none (Some n) b k e = absurd (false≢true (sym (k n refl) ∙ e))

not-wanted : (w : Option (ℕ × ℕ)) → is_nothing (or_next (option_map (λ p. Wants p.0 p.1) w) Nothing) ≡ true → w ≡ None
not-wanted (Some p) e = absurd (false≢true e)
not-wanted None e = refl

nothing-wanted : (run : Run) (f : List Moment) → next run f ≡ Nothing → first_with (want_of run f) (opened run f) ≡ None
unfolding next
nothing-wanted run f e =
    let all = opened run f in
    not-wanted (first_with (want_of run f) all)
    (rest-none (rest_of_piece run f (piece_of f)) _ (piece-none is_nothing (λ r side frame. refl) (λ r side fault. refl) run f (piece_of f))
    (rest-none (option_map (λ p. Loses p.0) (first_with (lost_of run f) all)) _ (made-none is_nothing (λ (p : ℕ × Unit {0}). Loses p.0) (λ p. refl) (first_with (lost_of run f) all))
    (rest-none (option_map (λ p. Takes p.0 p.1) (first_with (act_of run f) all)) _ (made-none is_nothing (λ (p : ℕ × Act). Takes p.0 p.1) (λ p. refl) (first_with (act_of run f) all))
    (rest-none (option_map (λ p. Meets p.0 p.1) (first_with (due_of run f) all)) _ (made-none is_nothing (λ (p : ℕ × Due). Meets p.0 p.1) (λ p. refl) (first_with (due_of run f) all)) (ap is_nothing e)))))

none-wants : (run : Run) (f : List Moment) → NothingIsLeft run f → NoneWants run f
none-wants run f e =
    kept-where (λ s. want_of run f s ≡ None) (λ s. want_of run f s ≡ None) (λ s. is_open (part run s f)) (opened run f) (λ s y n. n)
    (first-none (want_of run f) (opened run f) (nothing-wanted run f e))

pub jobs-are-offered : (run : Run) (f : List Moment) → FramesGoInOrder run f → JobsAreOffered run f
jobs-are-offered run [] order = tt
jobs-are-offered run (m ∷ f) order =
    (at-turn (begins m) (NothingIsLeft run f) (NoneWants run f) (none-wants run f) order.0, offers-rightly run f m order.1, jobs-are-offered run f order.2)
