-- The header that values bear.
use Rattle.std.proofs.Common.{◌≡◌, ℕ, zero, suc, ◌+◌, ◌<◌, ◌≤◌, Bool, true, false, List, [], ◌∷◌, ◌++◌, length, take, get_or, refl, sym, ap, ◌∙◌, subst, ⊎_elim, length-append, arith}
use Rattle.std.proofs.Math.Seq.{get_or-append_seam}
use Rattle.std.proofs.lemmas.Bool.{cases_lt}
use Rattle.std.proofs.lemmas.List.{take_more, ext_get_or, get_or_append_left}
use Rattle.mon_cnf.specs.Truth.{values_of}
use Rattle.mon_header.specs.declared.header.Header.{Header}
use Rattle.mon_header.specs.Classes.{fits}
use Rattle.mon_header.specs.Places.{header_bits, header_of}
use Rattle.mon_header.proofs.Classing.{fits-range}
use Rattle.mon_header.proofs.Spelling.{header-read, header-written, header-long, header-below}
use Rattle.mon_literals.specs.Bearing.{Bears, first_values, borne}
use Rattle.mon_outcome.proofs.Classes.{range-fits}

first_taken : (count : ℕ) (values : List Bool) → count ≤ length values → first_values count (values_of values) ≡ take count values
unfolding first_values
first_taken zero values h = refl
first_taken (suc count) values h =
    let next : count + 1 ≡ suc count = omega arith in
    ap (λ (bs : List Bool). bs ++ values_of values count ∷ []) (first_taken count values (omega arith))
    ∙ (sym (take_more values count false (omega arith)) ∙ ap (λ (n : ℕ). take n values) next)

-- the header of the first 264 values
pub borne_of_values : (values bits : List Bool) → 264 ≤ length values → bits ≡ take 264 values → header_of bits ≡ borne (values_of values)
unfolding borne
borne_of_values values bits h e = ap header_of (e ∙ sym (first_taken 264 values h))

first_length : (count : ℕ) (v : ℕ → Bool) → length (first_values count v) ≡ count
unfolding first_values
first_length zero v = refl
first_length (suc count) v =
    let one : length (first_values count v) ≡ count = first_length count v in
    length-append (first_values count v) (v count ∷ []) ∙ omega arith

first_value : (count : ℕ) (v : ℕ → Bool) (place : ℕ) → place < count → get_or (first_values count v) place false ≡ v place
unfolding first_values
first_value zero v place h = absurd (omega arith)
first_value (suc count) v place h =
    let long : length (first_values count v) ≡ count = first_length count v in
    ⊎_elim
    (λ (p : place < count). get_or_append_left (first_values count v) (v count ∷ []) false place (omega arith) ∙ first_value count v place p)
    (λ (p : count ≤ place).
    let last : place ≡ length (first_values count v) = omega arith in
    let top : count ≡ place = omega arith in
    ap (λ (n : ℕ). get_or (first_values count v ++ v count ∷ []) n false) last
    ∙ get_or-append_seam (first_values count v) (v count) [] false
    ∙ ap v top)
    (cases_lt place count)

pub borne_is_borne : (v : ℕ → Bool) → Bears v (borne v)
unfolding borne
borne_is_borne v =
    let bits : List Bool = first_values 264 v in
    record {
      fit = range-fits (header_of bits) (header-below bits);
      each = λ place h.
          sym (ap (λ (bs : List Bool). get_or bs place false) (header-written bits (first_length 264 v)) ∙ first_value 264 v place h);
    }

pub one_header_borne : (v : ℕ → Bool) (h : Header) → Bears v h → borne v ≡ h
unfolding borne
one_header_borne v h b =
    let long : length (first_values 264 v) ≡ 264 = first_length 264 v in
    let same : (i : ℕ) → i < length (first_values 264 v) → get_or (first_values 264 v) i false ≡ get_or (header_bits h) i false =
    λ i p. first_value 264 v i (subst (λ (n : ℕ). i < n) long p) ∙ b.each i (subst (λ (n : ℕ). i < n) long p) in
    ap header_of (ext_get_or false (first_values 264 v) (header_bits h) (long ∙ sym (header-long h)) same)
    ∙ header-read h (fits-range h b.fit)

-- a header's own bits bear it, whatever stands behind them
pub bits_bear : (h : Header) (rest : List Bool) → fits h ≡ true → Bears (values_of (header_bits h ++ rest)) h
bits_bear h rest fit = record {
  fit = fit;
  each = λ place p. get_or_append_left (header_bits h) rest false place (subst (λ (n : ℕ). place < n) (sym (header-long h)) p);
}
