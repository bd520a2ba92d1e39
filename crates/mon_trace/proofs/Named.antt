-- The events of a trace name a session that was opened by then, and none is Stop.
use Rattle.std.proofs.Common.{◌≡◌, ℕ, ◌+◌, ◌<◌, ◌^◌, Bool, true, false, cond, List, [], ◌∷◌, map, Option, Some, None, Result, Ok, Err, length, refl, sym, subst}
use Rattle.std.proofs.lemmas.Bool.{ltb-true}
use Rattle.std.specs.Prelude.{IfSome, nat_lt, nat_le, ◌&&◌, codes}
use Rattle.mon_world.specs.declared.event.Side.{Side}
use Rattle.mon_world.specs.declared.event.Side.TheVariants.{Controller, Switch}
use Rattle.mon_world.specs.declared.event.Event.{Event}
use Rattle.mon_world.specs.declared.event.Event.TheVariants.{Opened, Piece, Closed, Tick, Answer}
use Rattle.mon_world.specs.Logs.{NamesOpened, opened_by, AllNamed, IsStop, NoStop}
use Rattle.mon_text.specs.Numbers.{number_in}
use Rattle.mon_text.specs.Parts.{Part, behind}
use Rattle.mon_trace.specs.Grammar.{Recorded, Records, below, number_below, whole, piece_of, piece_with, bytes_behind, closing_of, answer_of, piece_or, closing_or, answer_or, is_word, is_open, is_lose, tick_event, answer_event, closing_event, switch_event, later_event, event_of, opened_behind, losing_behind, record_before, unended, records_in, lines_of}
use Rattle.mon_trace.specs.Reading.{records_of}
use Rattle.mon_trace.specs.Run.{the_event}

-- the event opens no session, and names one of those that were opened
abbrev IsLater : ℕ → Event → Type 0
IsLater opened event = NamesOpened opened event × (opened_by event opened ≡ opened) × (IsStop event → ⊥)

-- the same of any record, by whether it is `open`
abbrev IsGood : ℕ → Bool → Event → Type 0
IsGood opened open_ event = NamesOpened (opened_by event opened) event × (opened_by event opened ≡ opened_behind false open_ opened) × (IsStop event → ⊥)

abbrev pub Fit : ℕ → List Recorded → Type 0
Fit n rs = AllNamed n (map the_event rs) × NoStop (map the_event rs)

abbrev FitIn : ℕ → Records → Type 0
FitIn n (Ok found) = Fit n found.0
FitIn n (Err offset) = Unit {0}

chosen : {A : Type 0} (b : Bool) (x y : Option A) (P : A → Type 0) → IfSome x P → IfSome y P → IfSome (cond b x y) P
chosen true x y P p q = p
chosen false x y P p q = q

lower : (b : Bool) (bound : ℕ) (found : ℕ × List ℕ) → nat_lt found.0 bound ≡ b → IfSome (cond b (Some found) None) (λ p. p.0 < bound)
lower true bound found is = ltb-true found.0 bound is
lower false bound found is = tt

low_part : (bound : ℕ) (found : Part ℕ) → IfSome (below bound found) (λ p. p.0 < bound)
low_part bound None = tt
low_part bound (Some found) = lower (nat_lt found.0 bound) bound found refl

low : (bound : ℕ) (text : List ℕ) → IfSome (number_below bound text) (λ p. p.0 < bound)
unfolding number_below
low bound text = low_part bound (number_in text)

whole_low : (bound : ℕ) (found : Part ℕ) → IfSome found (λ p. p.0 < bound) → IfSome (whole found) (λ n. n < bound)
whole_low bound None is = tt
whole_low bound (Some (n, [])) is = is
whole_low bound (Some (n, b ∷ bs)) is = tt

of_piece : (opened : ℕ) (side : Side) (session : ℕ) (bytes : Option (List ℕ)) → session < opened → IfSome (piece_of side session bytes) (IsLater opened)
of_piece opened side session None lt = tt
of_piece opened side session (Some bytes) lt = chosen (nat_lt 0 (length bytes) && nat_le (length bytes) 4096) (Some (Piece session side bytes)) None (IsLater opened) (lt, refl, λ stop. stop) tt

of_pieces : (opened : ℕ) (side : Side) (found : Part ℕ) → IfSome found (λ p. p.0 < opened) → IfSome (piece_with side found) (IsLater opened)
of_pieces opened side None is = tt
of_pieces opened side (Some found) is = of_piece opened side found.0 (bytes_behind (behind (codes " ") found.1)) is

of_closing : (opened : ℕ) (found : Option ℕ) → IfSome found (λ n. n < opened) → IfSome (closing_of found) (IsLater opened)
of_closing opened None is = tt
of_closing opened (Some session) is = (is, refl, λ stop. stop)

of_answer : (opened : ℕ) (found : Option ℕ) → IfSome (answer_of found) (IsLater opened)
of_answer opened None = tt
of_answer opened (Some index) = (tt, refl, λ stop. stop)

answers : (opened : ℕ) (rest : Option (List ℕ)) (other : Option Event) → IfSome other (IsLater opened) → IfSome (answer_or rest other) (IsLater opened)
answers opened None other is = is
answers opened (Some rest) other is = of_answer opened (whole (number_below (2 ^ 32) rest))

closes : (opened : ℕ) (rest : Option (List ℕ)) (other : Option Event) → IfSome other (IsLater opened) → IfSome (closing_or opened rest other) (IsLater opened)
closes opened None other is = is
closes opened (Some rest) other is = of_closing opened (whole (number_below opened rest)) (whole_low opened (number_below opened rest) (low opened rest))

comes : (opened : ℕ) (side : Side) (rest : Option (List ℕ)) (other : Option Event) → IfSome other (IsLater opened) → IfSome (piece_or side opened rest other) (IsLater opened)
comes opened side None other is = is
comes opened side (Some rest) other is = of_pieces opened side (number_below opened rest) (low opened rest)

ticks : (opened : ℕ) (line : List ℕ) → IfSome (tick_event line) (IsLater opened)
unfolding tick_event
ticks opened line = chosen (is_word (codes "tick") line) (Some Tick) None (IsLater opened) (tt, refl, λ stop. stop) tt

later : (opened : ℕ) (line : List ℕ) → IfSome (later_event opened line) (IsLater opened)
unfolding later_event switch_event closing_event answer_event
later opened line =
    comes opened Controller (behind (codes "from controller ") line) (switch_event opened line)
    (comes opened Switch (behind (codes "from switch ") line) (closing_event opened line)
    (closes opened (behind (codes "close ") line) (answer_event line)
    (answers opened (behind (codes "answer ") line) (tick_event line) (ticks opened line))))

by_open : (open_ : Bool) (opened : ℕ) (event : Option Event) → IfSome event (IsLater opened) → IfSome (cond open_ (Some Opened) event) (IsGood opened open_)
by_open true opened event is = (tt, refl, λ stop. stop)
by_open false opened None is = tt
by_open false opened (Some event) is = (subst (λ (n : ℕ). NamesOpened n event) (sym is.1) is.0, is.1, is.2)

good : (opened : ℕ) (line : List ℕ) → IfSome (event_of opened line) (IsGood opened (is_open line))
good opened line = by_open (is_open line) opened (later_event opened line) (later opened line)

step : (offset losing opened : ℕ) (lose open_ : Bool) (event : Option Event) (others : Records) → IfSome event (IsGood opened open_) → FitIn (opened_behind lose open_ opened) others → FitIn opened (record_before offset losing lose event others)
step offset losing opened true open_ event others is fit = fit
step offset losing opened false open_ None others is fit = tt
step offset losing opened false open_ (Some event) (Err at) is fit = tt
step offset losing opened false open_ (Some event) (Ok found) is fit = ((is.0, subst (λ (n : ℕ). AllNamed n (map the_event found.0)) (sym is.1) fit.0), (is.2, fit.1))

ends : (offset losing opened : ℕ) (rest : List ℕ) → FitIn opened (unended offset losing rest)
ends offset losing opened [] = (tt, tt)
ends offset losing opened (byte ∷ bytes) = tt

of_lines : (offset opened losing : ℕ) (lines : List (List ℕ)) (rest : List ℕ) → FitIn opened (records_in offset opened losing lines rest)
of_lines offset opened losing [] rest = ends offset losing opened rest
of_lines offset opened losing (line ∷ lines) rest =
    step offset losing opened (is_lose line) (is_open line) (event_of opened line) (records_in (offset + (length line + 1)) (opened_behind (is_lose line) (is_open line) opened) (losing_behind (is_lose line) losing) lines rest) (good opened line)
    (of_lines (offset + (length line + 1)) (opened_behind (is_lose line) (is_open line) opened) (losing_behind (is_lose line) losing) lines rest)

pub are_named : (offset losing : ℕ) (text : List ℕ) (rs : List Recorded) → records_of offset 0 0 text ≡ Ok (rs, losing) → Fit 0 rs
are_named offset losing text rs is = subst (FitIn 0) is (of_lines offset 0 0 (lines_of text).ended (lines_of text).rest)
