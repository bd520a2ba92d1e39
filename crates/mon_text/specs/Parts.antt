-- What is read at the front of a text, and the text behind it; None where nothing stands there that is looked for.
use Rattle.std.specs.Prelude.{ℕ, suc, zero, Bool, nat_eq, nat_le, ◌&&◌, if◌then◌else◌, List, [], ◌∷◌, length, drop, Option, Some, None, option_map, option_and_then}
use Rattle.std.specs.List.{starts_with}
use Rattle.std.specs.Int.{w64, from_be_bytes}
use Rattle.mon_text.specs.Hex.{byte_of}
use Rattle.mon_text.specs.Numbers.{number_in}

-- the end of a line
abbrev pub feed : List ℕ
feed = 10 ∷ []

abbrev pub Part : Type 0 → Type 0
Part X = Option (X × List ℕ)

-- the text behind these bytes
abbrev pub behind : List ℕ → List ℕ → Option (List ℕ)
behind front text = if starts_with nat_eq text front then Some (drop (length front) text) else None

-- these bytes, and then the part
abbrev pub led : {X : Type 0} → List ℕ → (List ℕ → Part X) → List ℕ → Part X
led front part text = option_and_then part (behind front text)

-- the part, and then these bytes
abbrev pub ended : {X : Type 0} → List ℕ → (List ℕ → Part X) → List ℕ → Part X
ended back part text = option_and_then (λ p. option_map (λ rest. (p.0, rest)) (behind back p.1)) (part text)

-- the first part, and then the second
abbrev pub both : {X Y : Type 0} → (List ℕ → Part X) → (List ℕ → Part Y) → List ℕ → Part (X × Y)
both first second text = option_and_then (λ p. option_map (λ q. ((p.0, q.0), q.1)) (second p.1)) (first text)

-- the part, seen as something else
abbrev pub seen : {X Y : Type 0} → (X → Y) → (List ℕ → Part X) → List ℕ → Part Y
seen view part text = option_map (λ p. (view p.0, p.1)) (part text)

-- the part, where it passes a test
abbrev pub passing : {X : Type 0} → (X → Bool) → (List ℕ → Part X) → List ℕ → Part X
passing test part text = option_and_then (λ p. if test p.0 then Some p else None) (part text)

-- the byte of two digits
abbrev pub pair_in : List ℕ → Part ℕ
pair_in [] = None
pair_in (a ∷ []) = None
pair_in (a ∷ b ∷ text) = option_map (λ byte. (byte, text)) (byte_of a b)

-- a byte, and then those that the part reads
abbrev pub byte_before : Option ℕ → Part (List ℕ) → Part (List ℕ)
byte_before None part = None
byte_before (Some byte) None = None
byte_before (Some byte) (Some p) = Some (byte ∷ p.0, p.1)

-- so many bytes in pairs of digits
abbrev pub bytes_in : ℕ → List ℕ → Part (List ℕ)
bytes_in zero text = Some ([], text)
bytes_in (suc n) [] = None
bytes_in (suc n) (a ∷ []) = None
bytes_in (suc n) (a ∷ b ∷ text) = byte_before (byte_of a b) (bytes_in n text)

abbrev pub run_with : Option ℕ → List ℕ → List ℕ × List ℕ → List ℕ × List ℕ
run_with None text run = ([], text)
run_with (Some byte) text run = (byte ∷ run.0, run.1)

-- the bytes of all pairs of digits that stand there, and the text behind them
abbrev pub run_in : List ℕ → List ℕ × List ℕ
run_in [] = ([], [])
run_in (a ∷ []) = ([], a ∷ [])
run_in (a ∷ b ∷ text) = run_with (byte_of a b) (a ∷ b ∷ text) (run_in text)

-- a number from low to high
unfoldable pub number_within : ℕ → ℕ → List ℕ → Part ℕ
number_within low high = passing (λ n. nat_le low n && nat_le n high) number_in

-- a number of 64 bits in sixteen digits
unfoldable pub datapath_in : List ℕ → Part ℕ
datapath_in = seen (from_be_bytes w64) (bytes_in 8)
