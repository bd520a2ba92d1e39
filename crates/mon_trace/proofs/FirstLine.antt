-- The first line feed ends the first line.
use Rattle.std.proofs.Common.{◌≡◌, ℕ, zero, suc, ◌<◌, Bool, true, false, cond, List, [], ◌∷◌, length, take, drop, Option, Some, None, refl, sym, ap, ◌∙◌, arith, add-one}
use Rattle.std.specs.Prelude.{◌==◌}
use Rattle.memchr.specs.Find.{Nowhere, IsFirstByte, Passes, is_byte}
use Rattle.mon_trace.specs.Grammar.{Lines, lines_of, line_before, byte_before}
use Rattle.mon_trace.specs.Reading.{FirstLine}

not_true : (b : Bool) → (b ≡ true → ⊥) → b ≡ false
not_true true h = absurd (h refl)
not_true false h = refl

byte_line : (byte : ℕ) (line : List ℕ) (lines : Lines) → byte_before byte (line_before line lines) ≡ line_before (byte ∷ line) lines
byte_line byte line lines = refl

-- the same of the bytes behind the first
later : (byte : ℕ) (bytes : List ℕ) (n : ℕ) → Nowhere (Passes (is_byte 10) (byte ∷ bytes)) 0 (suc n) → Nowhere (Passes (is_byte 10) bytes) 0 n
later byte bytes n none k low high here = none (suc k) (omega arith) (omega (arith, high)) here

pub splits : (text : List ℕ) (n : ℕ) → n < length text → Nowhere (Passes (is_byte 10) text) 0 n → Passes (is_byte 10) text n → lines_of text ≡ line_before (take n text) (lines_of (drop (suc n) text))
splits [] n within none here = absurd (let f : ⊥ = omega arith in f)
splits (byte ∷ bytes) zero within none here = ap (λ (b : Bool). cond b (line_before [] (lines_of bytes)) (byte_before byte (lines_of bytes))) here
splits (byte ∷ bytes) (suc n) within none here =
    let other : (byte == 10) ≡ false = not_true (byte == 10) (none 0 (omega arith) (omega arith)) in
    ap (λ (b : Bool). cond b (line_before [] (lines_of bytes)) (byte_before byte (lines_of bytes))) other
    ∙ ap (byte_before byte) (splits bytes n (omega arith) (later byte bytes n none) here)
    ∙ byte_line byte (take n bytes) (lines_of (drop (suc n) bytes))

pub unended : (text : List ℕ) → Nowhere (Passes (is_byte 10) text) 0 (length text) → lines_of text ≡ record { ended = []; rest = text }
unended [] none = refl
unended (byte ∷ bytes) none =
    let other : (byte == 10) ≡ false = not_true (byte == 10) (none 0 (omega arith) (omega arith)) in
    ap (λ (b : Bool). cond b (line_before [] (lines_of bytes)) (byte_before byte (lines_of bytes))) other
    ∙ ap (byte_before byte) (unended bytes (later byte bytes (length bytes) none))

pub first_line : (text : List ℕ) (found : Option ℕ) → IsFirstByte (is_byte 10) text found → FirstLine text found
first_line text None first = unended text first
first_line text (Some n) first = (first.0.high, splits text n first.0.high first.0.before first.1 ∙ ap (λ (k : ℕ). line_before (take n text) (lines_of (drop k text))) (sym (add-one n)))
