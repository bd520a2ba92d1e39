-- A step that comes is the one that is due.
use Rattle.std.proofs.Common.{◌≡◌, ℕ, Bool, true, false, cond, List, [], ◌∷◌, Option, Some, None, option_map, refl, sym, ap, subst, ◌∙◌}
use Rattle.std.specs.Prelude.{filter}
use Rattle.std.specs.List.{AllByRecursion}
use Rattle.std.proofs.lemmas.Bool.{false≢true}
use Rattle.of_frame.specs.declared.fault.FrameFault.{FrameFault}
use Rattle.mon_world.specs.declared.event.Side.{Side}
use Rattle.mon_legal.specs.Runs.{Run}
use Rattle.mon_legal.specs.Owns.{Act}
use Rattle.mon_legal.specs.Held.{due_act}
use Rattle.mon_legal.specs.Directly.{Due}
use Rattle.mon_legal.specs.Directly.Due.{Frame, Tells, Ending, Probing, Going}
use Rattle.mon_legal.specs.Moments.{Moment}
use Rattle.mon_legal.specs.Moments.Moment.{Did}
use Rattle.mon_legal.specs.Sessions.{part, is_open, opened, open_ones, view}
use Rattle.mon_legal.specs.Ordering.{Next, next, first_with, with_its, or_next, due_of, act_of, want_of, lost_of, rest_of_piece, rest_of_frames, piece_of, next_frame, fault_in}
use Rattle.mon_legal.specs.Ordering.Next.{Meets, Takes, Loses, Handles, Breaks_off, Wants, Nothing}
use Rattle.mon_legal.specs.Passing.{IsMet, Comes}

abbrev is_did : Moment → Bool
is_did (Did s act) = true
is_did m = false

abbrev is_takes : Next → Bool
is_takes (Takes s act) = true
is_takes n = false

abbrev pub is_nothing : Next → Bool
is_nothing Nothing = true
is_nothing n = false

abbrev taker : Next → ℕ
taker (Takes s act) = s
taker n = 0

abbrev taken : Next → Option Act
taken (Takes s act) = Some act
taken n = None

none-did : {A : Type 0} (s : ℕ) (act : Act) (m : Moment) → is_did m ≡ false → Did s act ≡ m → A
none-did s act m n e = absurd (false≢true (sym n ∙ sym (ap is_did e)))

met-did : {A : Type 0} (run : Run) (f : List Moment) (r : ℕ) (due : Due) (s : ℕ) (act : Act) → IsMet run f r due (Did s act) → A
met-did run f r (Frame to frame) s act c = none-did s act _ refl c.1
met-did run f r (Tells line) s act c = none-did s act _ refl c
met-did run f r (Ending why) s act c = none-did s act _ refl c
met-did run f r (Probing job edit) s act c = none-did s act _ refl c.1
met-did run f r (Going serial) s act c = none-did s act _ refl c.3

-- the step that comes is the next thing
pub comes-did : (run : Run) (f : List Moment) (n : Next) (s : ℕ) (act : Act) → Comes run f n (Did s act) → n ≡ Takes s act
comes-did run f (Meets r due) s act c = met-did run f r due s act c
comes-did run f (Takes r other) s act c = let e : Did s act ≡ Did r other = c in cc
comes-did run f (Loses r) s act c = none-did s act _ refl c
comes-did run f (Handles r side frame) s act c = none-did s act _ refl c
comes-did run f (Breaks_off r side fault) s act c = none-did s act _ refl c
comes-did run f (Wants r k) s act c = none-did s act _ refl c
comes-did run f Nothing s act c = absurd (false≢true c)

abbrev or_this : {A : Type 0} → A → Option A → A
or_this d None = d
or_this d (Some x) = x

pub some-same : {A : Type 0} (x y : A) → Some x ≡ Some y → x ≡ y
some-same x y e = ap (or_this x) e

-- the first of a list that has something has it
pub first-has : {A : Type 0} (what : ℕ → Option A) (ss : List ℕ) (q : ℕ × A) → first_with what ss ≡ Some q → what q.0 ≡ Some q.1
first-has what [] q e = absurd (let g : None ≡ Some q = e in cc)
first-has {A} what (s ∷ ss) q e =
    elim (what s) as (λ o. what s ≡ o → with_its s o (first_with what ss) ≡ Some q → what q.0 ≡ Some q.1) [
      | None ↦ λ y f. first-has what ss q f
      | Some x ↦ λ y f.
          let g : (s, x) ≡ q = some-same (s, x) q f in
          subst (λ (z : ℕ × A). what z.0 ≡ Some z.1) g y
    ] refl e

-- a step that is next is due in its session
rest-takes : (s : ℕ) (act : Act) (x : Option (ℕ × Due)) (y : Option (ℕ × Act)) (rest : Next) → is_takes rest ≡ false
    → or_next (option_map (λ p. Meets p.0 p.1) x) (or_next (option_map (λ p. Takes p.0 p.1) y) rest) ≡ Takes s act
    → (q : ℕ × Act) × (y ≡ Some q) × (q.0 ≡ s) × (q.1 ≡ act)
rest-takes s act (Some p) y rest n e = absurd (false≢true (ap is_takes e))
rest-takes s act None (Some q) rest n e = (q, refl, ap taker e, some-same q.1 act (ap taken e))
rest-takes s act None None rest n e = absurd (false≢true (sym n ∙ ap is_takes e))

-- a thing of a kind of which none passes a test doesn't pass it
pub or-none : (test : Next → Bool) (a : Option Next) (b : Next) → ((n : Next) → a ≡ Some n → test n ≡ false) → test b ≡ false → test (or_next a b) ≡ false
or-none test None b f n = n
or-none test (Some m) b f n = f m refl

pub made-none : {A : Type 0} (test : Next → Bool) (make : A → Next) → ((p : A) → test (make p) ≡ false) → (o : Option A) (n : Next) → option_map make o ≡ Some n → test n ≡ false
made-none test make f None n e = absurd (let g : None ≡ Some n = e in cc)
made-none test make f (Some p) n e = sym (ap test (some-same (make p) n e)) ∙ f p

frames-none : (test : Next → Bool) → ((s : ℕ) (side : Side) (frame : List ℕ) → test (Handles s side frame) ≡ false) → ((s : ℕ) (side : Side) (fault : FrameFault) → test (Breaks_off s side fault) ≡ false)
    → (s : ℕ) (side : Side) (f : List Moment) (a : Option (List ℕ)) (b : Option FrameFault) (n : Next) → rest_of_frames s side f a b ≡ Some n → test n ≡ false
frames-none test handles breaks s side f (Some frame) b n e = sym (ap test (some-same _ n e)) ∙ handles s side frame
frames-none test handles breaks s side f None (Some fault) n e = sym (ap test (some-same _ n e)) ∙ breaks s side fault
frames-none test handles breaks s side f None None n e = absurd (let g : None ≡ Some n = e in cc)

pub piece-none : (test : Next → Bool) → ((s : ℕ) (side : Side) (frame : List ℕ) → test (Handles s side frame) ≡ false) → ((s : ℕ) (side : Side) (fault : FrameFault) → test (Breaks_off s side fault) ≡ false)
    → (run : Run) (f : List Moment) (o : Option (ℕ × Side)) (n : Next) → rest_of_piece run f o ≡ Some n → test n ≡ false
piece-none test handles breaks run f None n e = absurd (let g : None ≡ Some n = e in cc)
piece-none test handles breaks run f (Some p) n e =
    elim (is_open (part run p.0 f)) as (λ b. cond b (rest_of_frames p.0 p.1 f (next_frame run p.0 p.1 f) (fault_in run p.0 p.1 f)) None ≡ Some n → test n ≡ false) [
      | true ↦ λ g. frames-none test handles breaks p.0 p.1 f (next_frame run p.0 p.1 f) (fault_in run p.0 p.1 f) n g
      | false ↦ λ g. absurd (let h : None ≡ Some n = g in cc)
    ] e

pub next-takes : (run : Run) (f : List Moment) (s : ℕ) (act : Act) → next run f ≡ Takes s act → act_of run f s ≡ Some act
unfolding next
next-takes run f s act e =
    let all = opened run f in
    let q = rest-takes s act (first_with (due_of run f) all) (first_with (act_of run f) all) _
    (or-none is_takes (option_map (λ p. Loses p.0) (first_with (lost_of run f) all)) _ (made-none is_takes (λ (p : ℕ × Unit {0}). Loses p.0) (λ p. refl) (first_with (lost_of run f) all))
    (or-none is_takes (rest_of_piece run f (piece_of f)) _ (piece-none is_takes (λ r side frame. refl) (λ r side fault. refl) run f (piece_of f))
    (or-none is_takes (option_map (λ p. Wants p.0 p.1) (first_with (want_of run f) all)) Nothing (made-none is_takes (λ (p : ℕ × ℕ). Wants p.0 p.1) (λ p. refl) (first_with (want_of run f) all)) refl))) e in
    let there : act_of run f q.0.0 ≡ Some q.0.1 = first-has (act_of run f) all q.0 q.1 in
    subst (λ (r : ℕ). act_of run f r ≡ Some act) q.2 (there ∙ ap Some q.3)

-- a session that takes a step is open, and the step is due
pub did-is-due : (run : Run) (f : List Moment) (s : ℕ) (act : Act) → Comes run f (next run f) (Did s act)
    → (is_open (part run s f) ≡ true) × (due_act run (view run s f) (part run s f) ≡ Some act)
did-is-due run f s act c =
    let e = next-takes run f s act (comes-did run f (next run f) s act c) in
    elim (is_open (part run s f)) as (λ b. is_open (part run s f) ≡ b → cond b (due_act run (view run s f) (part run s f)) None ≡ Some act
    → (is_open (part run s f) ≡ true) × (due_act run (view run s f) (part run s f) ≡ Some act)) [
      | true ↦ λ y g. (y, g)
      | false ↦ λ y g. absurd (let h : None ≡ Some act = g in cc)
    ] refl e

-- where nothing comes next no step is due
rest-nothing : (x : Option (ℕ × Due)) (y : Option (ℕ × Act)) (rest : Next)
    → or_next (option_map (λ p. Meets p.0 p.1) x) (or_next (option_map (λ p. Takes p.0 p.1) y) rest) ≡ Nothing → y ≡ None
rest-nothing (Some p) y rest e = absurd (false≢true (ap is_nothing e))
rest-nothing None (Some q) rest e = absurd (false≢true (ap is_nothing e))
rest-nothing None None rest e = refl

pub first-none : {A : Type 0} (what : ℕ → Option A) (ss : List ℕ) → first_with what ss ≡ None → AllByRecursion (λ s. what s ≡ None) ss
first-none what [] e = tt
first-none {A} what (s ∷ ss) e =
    elim (what s) as (λ o. what s ≡ o → with_its s o (first_with what ss) ≡ None → (what s ≡ None) × AllByRecursion (λ r. what r ≡ None) ss) [
      | None ↦ λ y f. (y, first-none what ss f)
      | Some x ↦ λ y f. absurd (let g : Some (s, x) ≡ None = f in cc)
    ] refl e

pub kept-where : (P R : ℕ → Type 0) (test : ℕ → Bool) (ss : List ℕ) → ((s : ℕ) → test s ≡ true → P s → R s) → AllByRecursion P ss → AllByRecursion R (filter test ss)
kept-where P R test [] f a = tt
kept-where P R test (s ∷ ss) f a =
    elim (test s) as (λ b. test s ≡ b → AllByRecursion R (cond b (s ∷ filter test ss) (filter test ss))) [
      | true ↦ λ y. (f s y a.0, kept-where P R test ss f a.1)
      | false ↦ λ n. kept-where P R test ss f a.1
    ] refl

pub none-acts : (run : Run) (f : List Moment) → next run f ≡ Nothing → AllByRecursion (λ s. act_of run f s ≡ None) (opened run f)
unfolding next
none-acts run f e =
    first-none (act_of run f) (opened run f) (rest-nothing (first_with (due_of run f) (opened run f)) (first_with (act_of run f) (opened run f)) _ e)

pub none-due : (run : Run) (f : List Moment) (R : ℕ → Type 0) → next run f ≡ Nothing
    → ((s : ℕ) → due_act run (view run s f) (part run s f) ≡ None → R s) → AllByRecursion R (open_ones run f)
none-due run f R e g =
    kept-where (λ s. act_of run f s ≡ None) R (λ s. is_open (part run s f)) (opened run f)
    (λ s y n. g s (subst (λ (b : Bool). cond b (due_act run (view run s f) (part run s f)) None ≡ None) y n))
    (none-acts run f e)
