-- How the bytes of one side of a connection are cut into frames, one byte after the other, so that it can't depend on
-- the pieces in which they come.
use Rattle.std.specs.Prelude.{◌≡◌, ℕ, ◌≤◌, ◌<◌, List, [], ◌∷◌, ◌++◌, length, slice_index, Option, Some, None, nat_lt, ◌==◌, ◌||◌, if◌then◌else◌}
use Rattle.std.specs.Option.{option_to_list}
use Rattle.std.specs.List.{concat, AllByRecursion}
use Rattle.of_frame.specs.declared.fault.FrameFault.{FrameFault}
use Rattle.of_frame.specs.declared.fault.FrameFault.TheVariants.{BadLength, BadVersion}
use Rattle.of_frame.specs.Kinds.{VERSION, HELLO}
use Rattle.of_frame.specs.Header.{length_field, kind_of, IsFrame}

-- what is wrong with a header of eight bytes: its length, and else its version, which only a HELLO may choose
unfoldable pub header_fault : List ℕ → Option FrameFault
header_fault bytes =
    if nat_lt (length_field bytes) 8 then Some BadLength
    else (if (slice_index bytes 0 == VERSION) || (kind_of bytes == HELLO) then None else Some BadVersion)

-- the first n bytes are a whole frame, with no fault in its header
pub record IsWholeAt (n : ℕ) (bytes : List ℕ) : Type 0 where
  pub header : 8 ≤ n
  pub within : n ≤ length bytes
  pub exact : length_field bytes ≡ n
  pub sound : header_fault bytes ≡ None

-- the bytes that have come of the next frame, and the fault after which nothing is cut
pub record Pending : Type 0 where
  pub rest : List ℕ
  pub fault : Option FrameFault

-- the state before the first byte, and behind each whole frame
abbrev pub nothing_yet : Pending
nothing_yet = record { rest = []; fault = None }

-- what is kept between two pieces: a header that is there was judged, and the frame is not whole yet
pub record IsPending (p : Pending) : Type 0 where
  pub judged : p.fault ≡ None → 8 ≤ length p.rest → header_fault p.rest ≡ None
  pub short : p.fault ≡ None → 8 ≤ length p.rest → length p.rest < length_field p.rest

-- a header without a fault: the frame is whole as soon as all bytes of its length are there
abbrev pub completed : List ℕ → Option FrameFault → Pending × Option (List ℕ)
completed bytes (Some fault) = (record { rest = bytes; fault = Some fault }, None)
completed bytes None =
    if length bytes == length_field bytes then (nothing_yet, Some bytes)
    else (record { rest = bytes; fault = None }, None)

-- the bytes of the next frame so far; it is judged as soon as its header is there
abbrev pub grown : List ℕ → Pending × Option (List ℕ)
grown bytes =
    if nat_lt (length bytes) 8 then (record { rest = bytes; fault = None }, None)
    else completed bytes (header_fault bytes)

-- one byte more, and the frame that it completes
abbrev pub after_byte : List ℕ → ℕ → Option FrameFault → Pending × Option (List ℕ)
after_byte rest byte (Some fault) = (record { rest = rest; fault = Some fault }, None)
after_byte rest byte None = grown (rest ++ byte ∷ [])

-- the bytes in order, and the frames that they complete
abbrev pub cut : Pending → List ℕ → Pending × List (List ℕ)
cut pending [] = (pending, [])
cut pending (byte ∷ bytes) =
    let one = after_byte pending.rest byte pending.fault in
    let more = cut one.0 bytes in
    (more.0, option_to_list one.1 ++ more.1)

-- the pieces one after the other, and the frames that they complete
abbrev pub cut_pieces : Pending → List (List ℕ) → Pending × List (List ℕ)
cut_pieces pending [] = (pending, [])
cut_pieces pending (piece ∷ pieces) =
    let one = cut pending piece in
    let more = cut_pieces one.0 pieces in
    (more.0, one.1 ++ more.1)

-- the bytes are frames, then what is pending, and then, behind a fault alone, bytes that are not cut
pub record IsCutInto (bytes : List ℕ) (found : Pending × List (List ℕ)) (uncut : List ℕ) : Type 0 where
  pub whole : bytes ≡ concat found.1 ++ (found.0.rest ++ uncut)
  pub frames : AllByRecursion IsFrame found.1
  pub pending : IsPending found.0
  pub all_cut : found.0.fault ≡ None → uncut ≡ []
