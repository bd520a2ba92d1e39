-- The values by which a formula bears a header.
use Rattle.std.proofs.Common.{◌≡◌, ℕ, ◌+◌, ◌*◌, Bool, true, false, ◌||◌, List, [], ◌∷◌, ◌++◌, length, refl, sym, ap, subst, ◌∙◌, arith, append_assoc, length-append}
use Rattle.std.proofs.Math.Seq.{get_or-append_seam}
use Rattle.std.proofs.lemmas.Bool.{and_parts}
use Rattle.mon_cnf.specs.Truth.{values_of}
use Rattle.mon_header.specs.declared.class.Class.{Class}
use Rattle.mon_header.specs.declared.header.Header.{Header}
use Rattle.mon_header.specs.Classes.{fits, is_in_class}
use Rattle.mon_header.specs.Matching.{matches}
use Rattle.mon_header.specs.Places.{header_bits}
use Rattle.mon_header.proofs.Spelling.{header-long}
use Rattle.mon_table.specs.declared.rule.Rule.{Rule}
use Rattle.mon_shows.specs.Separation.{without_update}
use Rattle.mon_job.specs.Jobs.{Task}
use Rattle.mon_literals.specs.Bearing.{Bears}
use Rattle.mon_literals.proofs.Values.{bits_bear}
use Rattle.mon_encode.specs.Clauses.{sures}
use Rattle.mon_encode.specs.Formulas.{helpers, vars_of, encoded}
use Rattle.mon_encode.proofs.Truth.{fits as is_fit, Read}
use Rattle.mon_encode.proofs.Chaining.{Helped}

-- helpers in a row, behind other values, are as they should be
pub helped-row : (v : ℕ → Bool) (h : Header) (front : List Bool) (seen : Bool) (t : List Rule) → Read v h t
    → ((x : ℕ) → v x ≡ values_of (front ++ helpers h seen t) x) → Helped v (length front) seen t
helped-row v h front seen [] read e = tt
helped-row v h front seen (r ∷ t) read e =
    let m = matches r.matching h in
    let next = front ++ (m ∷ (seen || m) ∷ []) in
    let n : length next ≡ length front + 2 = length-append front (m ∷ (seen || m) ∷ []) in
    let s : next ++ helpers h (seen || m) t ≡ front ++ (m ∷ (seen || m) ∷ helpers h (seen || m) t) = append_assoc front (m ∷ (seen || m) ∷ []) (helpers h (seen || m) t) in
    let one : v (length front) ≡ m = e (length front) ∙ get_or-append_seam front m ((seen || m) ∷ helpers h (seen || m) t) false in
    let two : v (length front + 1) ≡ (seen || m) =
    e (length front + 1) ∙ (ap (λ (xs : List Bool). values_of xs (length front + 1)) (sym (append_assoc front (m ∷ []) ((seen || m) ∷ helpers h (seen || m) t)))
    ∙ (ap (values_of ((front ++ (m ∷ [])) ++ ((seen || m) ∷ helpers h (seen || m) t))) (sym (length-append front (m ∷ [])))
    ∙ get_or-append_seam (front ++ (m ∷ [])) (seen || m) (helpers h (seen || m) t) false)) in (
      one ∙ sym read.0,
      two ∙ ap (λ (b : Bool). seen || b) (sym read.0),
      subst (λ (k : ℕ). Helped v k (seen || is_fit v r) t) n (subst (λ (b : Bool). Helped v (length next) (seen || b) t) (sym read.0)
          (helped-row v h next (seen || m) t read.1 (λ x. e x ∙ ap (λ (xs : List Bool). values_of xs x) (sym s)))),
    )

pub helpers-long : (h : Header) (seen : Bool) (t : List Rule) → length (helpers h seen t) ≡ 2 * length t
helpers-long h seen [] = refl
helpers-long h seen (r ∷ t) = let n = helpers-long h (seen || matches r.matching h) t in omega arith

pub encoded-long : (j : Task) (h : Header) → length (encoded j h) ≡ vars_of j
unfolding encoded
encoded-long j h =
    length-append (header_bits h) (helpers h false (sures (without_update j.table j.target)))
    ∙ (let a = header-long h in let b = helpers-long h false (sures (without_update j.table j.target)) in omega arith)

pub encoded-bears : (j : Task) (c : Class) (h : Header) → is_in_class c h ≡ true → Bears (values_of (encoded j h)) h
unfolding encoded is_in_class
encoded-bears j c h y = bits_bear h (helpers h false (sures (without_update j.table j.target))) (and_parts (fits h) _ y).0

pub encoded-helped : (j : Task) (h : Header) → Read (values_of (encoded j h)) h (sures (without_update j.table j.target)) → Helped (values_of (encoded j h)) 264 false (sures (without_update j.table j.target))
unfolding encoded
encoded-helped j h read =
    subst (λ (k : ℕ). Helped (values_of (encoded j h)) k false (sures (without_update j.table j.target))) (header-long h)
    (helped-row (values_of (encoded j h)) h (header_bits h) false (sures (without_update j.table j.target)) read (λ x. refl))
