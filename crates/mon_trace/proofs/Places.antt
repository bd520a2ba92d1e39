-- What an event adds to the records that are kept.
use Rattle.std.proofs.Common.{◌≡◌, ℕ, ◌+◌, ◌<◌, ◌≤◌, Bool, true, cond, List, [], ◌∷◌, ◌++◌, length, take, drop, Option, Some, None, refl, sym, ap, subst, ◌∙◌, arith, length-append}
use Rattle.std.proofs.Common.{zero, suc}
use Rattle.std.proofs.Math.Seq.{drop-append_seam}
use Rattle.std.proofs.lemmas.List.{take-append-le, drop-append-le, length-drop, length-take-le, take_all}
use Rattle.std.proofs.lemmas.Bool.{lt-ltb, le-leb}
use Rattle.std.specs.Prelude.{nat_lt, nat_le, ◌&&◌, option_map, IfSome}
use Rattle.std.specs.List.{slice_get}
use Rattle.mon_world.specs.declared.event.Side.{Side}
use Rattle.mon_world.specs.declared.event.Event.{Event}
use Rattle.mon_world.specs.declared.event.Event.TheVariants.{Piece, Stop}
use Rattle.mon_trace.specs.declared.events.Deed.{Deed}
use Rattle.mon_trace.specs.declared.events.Deed.TheVariants.{Opening, Closing, Ticking, Answering, Bytes}
use Rattle.mon_trace.specs.declared.events.Place.{Place}
use Rattle.mon_trace.specs.Places.{event_by, recorded_at, events_at, IsPlain, IsWithin, AllWithin}
use Rattle.mon_trace.specs.Run.{event_at, event_or_stop, mark_of}
use Rattle.mon_trace.specs.Grammar.{Recorded, piece_of}
use Rattle.mon_trace.specs.Reading.{onto, one}

pub events_at-append : (bytes : List ℕ) (places more : List Place) → events_at bytes (places ++ more) ≡ events_at bytes places ++ events_at bytes more
events_at-append bytes [] more = refl
events_at-append bytes (place ∷ places) more = ap (λ (es : List Recorded). recorded_at bytes place ∷ es) (events_at-append bytes places more)

pub events_at-length : (bytes : List ℕ) (places : List Place) → length (events_at bytes places) ≡ length places
events_at-length bytes [] = refl
events_at-length bytes (place ∷ places) = omega (arith, events_at-length bytes places)

-- the record of a number is that of the place of this number
pub record_at : (bytes : List ℕ) (places : List Place) (n : ℕ) → slice_get (events_at bytes places) n ≡ option_map (recorded_at bytes) (slice_get places n)
record_at bytes [] n = refl
record_at bytes (first ∷ places) zero = refl
record_at bytes (first ∷ places) (suc n) = record_at bytes places n

abbrev IsNothing : Option Place → Type 0
IsNothing None = Unit {0}
IsNothing (Some place) = ⊥

abbrev OfSome : (Place → Type 0) → Option Place → Type 0
OfSome P None = ⊥
OfSome P (Some place) = P place

pub within_at : (total : ℕ) (places : List Place) (n : ℕ) (place : Place) → AllWithin total places → slice_get places n ≡ Some place → IsWithin total place.deed
within_at total [] n place all is = absurd (subst IsNothing is tt)
within_at total (first ∷ places) zero place all is = subst (OfSome (λ p. IsWithin total p.deed)) is all.0
within_at total (first ∷ places) (suc n) place all is = within_at total places n place all.1 is

within_more : (total more : ℕ) (deed : Deed) → IsWithin total deed → total ≤ more → IsWithin more deed
within_more total more Opening is le = tt
within_more total more (Closing session) is le = tt
within_more total more Ticking is le = tt
within_more total more (Answering index) is le = tt
within_more total more (Bytes side size start session) is le = (is.0, is.1, omega (arith, is.2, le))

pub all_within-more : (total more : ℕ) (places : List Place) → AllWithin total places → total ≤ more → AllWithin more places
all_within-more total more [] all le = tt
all_within-more total more (place ∷ places) all le = (within_more total more place.deed all.0 le, all_within-more total more places all.1 le)

pub all_within-append : (total : ℕ) (places more : List Place) → AllWithin total places → AllWithin total more → AllWithin total (places ++ more)
all_within-append total [] more all rest = rest
all_within-append total (place ∷ places) more all rest = (all.0, all_within-append total places more all.1 rest)

pub plain_within : (total : ℕ) (deed : Deed) → IsPlain deed → IsWithin total deed
plain_within total Opening is = tt
plain_within total (Closing session) is = tt
plain_within total Ticking is = tt
plain_within total (Answering index) is = tt
plain_within total (Bytes side size start session) is = absurd is

-- an event without bytes is the same among all bytes
plain_event : (bytes : List ℕ) (deed : Deed) → IsPlain deed → event_by bytes deed ≡ event_by [] deed
plain_event bytes Opening is = refl
plain_event bytes (Closing session) is = refl
plain_event bytes Ticking is = refl
plain_event bytes (Answering index) is = refl
plain_event bytes (Bytes side size start session) is = absurd is

pub pushed_plain : (bytes : List ℕ) (places : List Place) (offset losing : ℕ) (deed : Deed) → IsPlain deed → events_at bytes (places ++ record { offset = offset; losing = losing; deed = deed } ∷ []) ≡ events_at bytes places ++ record { offset = offset; losing = losing; event = event_by [] deed } ∷ []
pushed_plain bytes places offset losing deed is =
    events_at-append bytes places (record { offset = offset; losing = losing; deed = deed } ∷ [])
    ∙ ap (λ (e : Event). events_at bytes places ++ record { offset = offset; losing = losing; event = e } ∷ []) (plain_event bytes deed is)

-- bytes behind those that are there change no event
event_stays : (bytes more : List ℕ) (deed : Deed) → IsWithin (length bytes) deed → event_by (bytes ++ more) deed ≡ event_by bytes deed
event_stays bytes more Opening is = refl
event_stays bytes more (Closing session) is = refl
event_stays bytes more Ticking is = refl
event_stays bytes more (Answering index) is = refl
event_stays bytes more (Bytes side size start session) is =
    let cut : drop start (bytes ++ more) ≡ drop start bytes ++ more = drop-append-le start bytes more (omega (arith, is.2)) in
    let room : size ≤ length (drop start bytes) = omega (arith, is.2, length-drop start bytes) in
    ap (λ (xs : List ℕ). Piece session side (take size xs)) cut ∙ ap (λ (xs : List ℕ). Piece session side xs) (take-append-le size (drop start bytes) more room)

pub events_stay : (bytes more : List ℕ) (places : List Place) → AllWithin (length bytes) places → events_at (bytes ++ more) places ≡ events_at bytes places
events_stay bytes more [] all = refl
events_stay bytes more (place ∷ places) all =
    ap (λ (e : Event). record { offset = place.offset; losing = place.losing; event = e } ∷ events_at (bytes ++ more) places) (event_stays bytes more place.deed all.0)
    ∙ ap (λ (es : List Recorded). recorded_at bytes place ∷ es) (events_stay bytes more places all.1)

-- the bytes that come last are those of the last piece
last_event : (bytes more : List ℕ) (side : Side) (session : ℕ) → event_by (bytes ++ more) (Bytes side (length more) (length bytes) session) ≡ Piece session side more
last_event bytes more side session =
    let cut : drop (length bytes) (bytes ++ more) ≡ more = drop-append_seam bytes more in
    ap (λ (xs : List ℕ). Piece session side (take (length more) xs)) cut ∙ ap (λ (xs : List ℕ). Piece session side xs) (take_all (length more) more (omega arith))

abbrev HasNone : Option (List ℕ) → Type 0
HasNone None = Unit {0}
HasNone (Some bytes) = ⊥

abbrev some_is : Option (List ℕ) → List ℕ
some_is None = []
some_is (Some bytes) = bytes

pub pushed_piece : (offset losing session : ℕ) (side : Side) (read : Option (List ℕ)) (old new : List ℕ) (places : List Place) (size : ℕ) → onto old read ≡ Some new → AllWithin (length old) places → length old + size ≡ length new → 0 < size → size ≤ 4096
    → onto (events_at old places) (one offset losing (piece_of side session read)) ≡ Some (events_at new (places ++ record { offset = offset; losing = losing; deed = Bytes side size (length old) session } ∷ []))
pushed_piece offset losing session side None old new places size is all total some few = absurd (subst HasNone is tt)
pushed_piece offset losing session side (Some bytes) old new places size is all total some few =
    let grown : old ++ bytes ≡ new = ap some_is is in
    let sized : length bytes ≡ size = omega (arith, total, length-append old bytes, ap length grown) in
    let low : nat_lt 0 (length bytes) ≡ true = lt-ltb 0 (length bytes) (omega (arith, sized, some)) in
    let high : nat_le (length bytes) 4096 ≡ true = le-leb (length bytes) 4096 (omega (arith, sized, few)) in
    let deed : Deed = Bytes side size (length old) session in
    let place : Place = record { offset = offset; losing = losing; deed = deed } in
    let kept : events_at new places ≡ events_at old places = ap (λ (xs : List ℕ). events_at xs places) (sym grown) ∙ events_stay old bytes places all in
    let last : event_by new deed ≡ Piece session side bytes = ap (λ (xs : List ℕ). event_by xs deed) (sym grown) ∙ ap (λ (n : ℕ). event_by (old ++ bytes) (Bytes side n (length old) session)) (sym sized) ∙ last_event old bytes side session in
    ap (λ (b : Bool). onto (events_at old places) (one offset losing (cond (b && nat_le (length bytes) 4096) (Some (Piece session side bytes)) None))) low
    ∙ ap (λ (b : Bool). onto (events_at old places) (one offset losing (cond b (Some (Piece session side bytes)) None))) high
    ∙ ap Some (ap (λ (es : List Recorded). es ++ record { offset = offset; losing = losing; event = Piece session side bytes } ∷ []) (sym kept)
    ∙ ap (λ (e : Event). events_at new places ++ record { offset = offset; losing = losing; event = e } ∷ []) (sym last)
    ∙ sym (events_at-append new places (place ∷ [])))

pub read_size : (bytes : List ℕ) (start size : ℕ) → start + size ≤ length bytes → length (take size (drop start bytes)) ≡ size
read_size bytes start size within = length-take-le size (drop start bytes) (omega (arith, within, length-drop start bytes))

-- what stands at a number, by the place of this number
pub event_none : (bytes : List ℕ) (places : List Place) (n : ℕ) → slice_get places n ≡ None → event_at (events_at bytes places) n ≡ Stop
event_none bytes places n is = ap event_or_stop (record_at bytes places n ∙ ap (option_map (recorded_at bytes)) is)

pub event_some : (bytes : List ℕ) (places : List Place) (n : ℕ) (place : Place) → slice_get places n ≡ Some place → event_at (events_at bytes places) n ≡ event_by bytes place.deed
event_some bytes places n place is = ap event_or_stop (record_at bytes places n ∙ ap (option_map (recorded_at bytes)) is)

pub mark_at : (bytes : List ℕ) (places : List Place) (n : ℕ) (found : Option Place) → slice_get places n ≡ found → option_map mark_of (slice_get (events_at bytes places) n) ≡ option_map (λ p. (p.offset, p.losing)) found
mark_at bytes places n None is = ap (option_map mark_of) (record_at bytes places n ∙ ap (option_map (recorded_at bytes)) is)
mark_at bytes places n (Some place) is = ap (option_map mark_of) (record_at bytes places n ∙ ap (option_map (recorded_at bytes)) is)
