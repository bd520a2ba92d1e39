-- Pairs of digits, read one after the other.
use Rattle.std.proofs.Common.{◌≡◌, ℕ, suc, ◌+◌, ◌-◌, ◌<◌, refl, sym, ap, ◌∙◌, List, [], ◌∷◌, ◌++◌, length, take, set, Option, Some, None, option_map, arith, append_assoc, length-set}
use Rattle.std.proofs.lemmas.List.{take_more_set}
use Rattle.std.proofs.lemmas.Option.{none-some, some_pair_parts}
use Rattle.mon_text.specs.Hex.{byte_of}
use Rattle.mon_text.specs.Parts.{Part, pair_in, bytes_in, byte_before}

-- what was read before, and what is still read
abbrev pub onto : List ℕ → Part (List ℕ) → Part (List ℕ)
onto front None = None
onto front (Some p) = Some (front ++ p.0, p.1)

onto-more : (front : List ℕ) (x : ℕ) (p : Part (List ℕ)) → onto (front ++ x ∷ []) p ≡ onto front (byte_before (Some x) p)
onto-more front x None = refl
onto-more front x (Some p) = ap (λ (xs : List ℕ). Some (xs, p.1)) (append_assoc front (x ∷ []) p.0)

-- the first of several bytes
pair_parts : (o : Option ℕ) (text : List ℕ) (x : ℕ) (after : List ℕ) → option_map {U = ℕ × List ℕ} (λ byte. (byte, text)) o ≡ Some (x, after) → (o ≡ Some x) × (text ≡ after)
pair_parts None text x after e = absurd (none-some (x, after) e)
pair_parts (Some y) text x after e = let p = some_pair_parts y x text after e in (ap Some p.0, p.1)

bytes-pair : (n : ℕ) (rest : List ℕ) (x : ℕ) (after : List ℕ) → pair_in rest ≡ Some (x, after) → bytes_in (suc n) rest ≡ byte_before (Some x) (bytes_in n after)
bytes-pair n [] x after e = absurd (none-some (x, after) e)
bytes-pair n (a ∷ []) x after e = absurd (none-some (x, after) e)
bytes-pair n (a ∷ b ∷ text) x after e =
    let p = pair_parts (byte_of a b) text x after e in
    ap (λ (o : Option ℕ). byte_before o (bytes_in n text)) p.0 ∙ ap (λ (t : List ℕ). byte_before (Some x) (bytes_in n t)) p.1

no_parts : (o : Option ℕ) (text : List ℕ) (more : Part (List ℕ)) → option_map {U = ℕ × List ℕ} (λ byte. (byte, text)) o ≡ None → byte_before o more ≡ None
no_parts None text more e = refl
no_parts (Some y) text more e = absurd (none-some (y, text) (sym e))

bytes-none : (n : ℕ) (rest : List ℕ) → pair_in rest ≡ None → bytes_in (suc n) rest ≡ None
bytes-none n [] e = refl
bytes-none n (a ∷ []) e = refl
bytes-none n (a ∷ b ∷ text) e = no_parts (byte_of a b) text (bytes_in n text) e

-- one byte more
pub one_more : (room rest after : List ℕ) (i x : ℕ) (whole : Part (List ℕ)) → i < length room → pair_in rest ≡ Some (x, after)
    → onto (take i room) (bytes_in (length room - i) rest) ≡ whole → onto (take (i + 1) (set room i x)) (bytes_in (length (set room i x) - (i + 1)) after) ≡ whole
one_more room rest after i x whole lt f h =
    let left : length room - i ≡ suc (length room - (i + 1)) = omega arith in
    let step : bytes_in (length room - i) rest ≡ byte_before (Some x) (bytes_in (length room - (i + 1)) after) =
    ap (λ (n : ℕ). bytes_in n rest) left ∙ bytes-pair (length room - (i + 1)) rest x after f in
    ap (λ (n : ℕ). onto (take (i + 1) (set room i x)) (bytes_in (n - (i + 1)) after)) (length-set room i x)
    ∙ ap (λ (front : List ℕ). onto front (bytes_in (length room - (i + 1)) after)) (take_more_set room i x lt)
    ∙ onto-more (take i room) x (bytes_in (length room - (i + 1)) after)
    ∙ ap (onto (take i room)) (sym step)
    ∙ h

-- a byte is lacking
pub one_none : (room rest : List ℕ) (i : ℕ) (whole : Part (List ℕ)) → i < length room → pair_in rest ≡ None → onto (take i room) (bytes_in (length room - i) rest) ≡ whole → whole ≡ None
one_none room rest i whole lt e h =
    let left : length room - i ≡ suc (length room - (i + 1)) = omega arith in
    sym h ∙ ap (λ (n : ℕ). onto (take i room) (bytes_in n rest)) left ∙ ap (onto (take i room)) (bytes-none (length room - (i + 1)) rest e)
