-- Whole slices of a piece, in the place of bytes one by one.
use Rattle.std.proofs.Common.{◌≡◌, ◌≢◌, ℕ, ◌+◌, ◌<◌, ◌≤◌, Bool, true, false, List, [], ◌∷◌, ◌++◌, Option, Some, None, length, slice_index, take, drop, refl, sym, ap, subst, ◌∙◌, append_assoc, arith, inl, inr}
use Rattle.std.specs.Prelude.{nat_lt, eqb, ◌==◌, ◌||◌, if◌then◌else◌}
use Rattle.std.proofs.lemmas.List.{append-nil, length-append, get_or_append_left, take-append-drop}
use Rattle.std.proofs.lemmas.Bool.{lt-ltb, le-ltb, eq-eqb, cases_lt, true≢false}
use Rattle.std.proofs.Math.Arith.{lt_of_le-ne}
use Rattle.std.proofs.lemmas.List.{length-take-le, nil_from_length}
use Rattle.std.proofs.lemmas.Bool.Decides.{eqb_tells}
use Rattle.std.specs.Option.{option_to_list, is_some}
use Rattle.of_frame.specs.declared.fault.FrameFault.{FrameFault}
use Rattle.of_frame.specs.declared.fault.FrameFault.TheVariants.{BadLength, BadVersion}
use Rattle.mon_fields.proofs.Within.{number_at-take, number_at-front}
use Rattle.of_frame.specs.Header.{length_field, IsFrame}
use Rattle.of_frame.specs.Cut.{Pending, IsPending, IsWholeAt, nothing_yet, header_fault, completed, grown, cut, cut_pieces}
use Rattle.of_frame.proofs.Pieces.{with_front, cut-append, regroup}
use Rattle.std.specs.List.{concat}

abbrev pub begun : List ℕ → Pending
begun rest = record { rest = rest; fault = None }

-- a state and at most one frame, as what `cut` gives
abbrev pub listed : Pending × Option (List ℕ) → Pending × List (List ℕ)
listed found = (found.0, option_to_list found.1)

pub ne-eqb : (a b : ℕ) → a ≢ b → eqb a b ≡ false
ne-eqb a b ne = elim (eqb_tells a b) as (λ _. eqb a b ≡ false) [ inl same ↦ absurd (ne same.1) | inr off ↦ off.0 ]

pub field-append : (a b : List ℕ) → 8 ≤ length a → length_field (a ++ b) ≡ length_field a
field-append a b le = number_at-front 2 2 a b (omega (arith, le))

pub fault-append : (a b : List ℕ) → 8 ≤ length a → header_fault (a ++ b) ≡ header_fault a
unfolding header_fault
fault-append a b le =
    rw (
      get_or_append_left a b 0 0 (omega (arith, le)),
      get_or_append_left a b 0 1 (omega (arith, le)),
      field-append a b le,
    ) refl

pub grown-short : (bs : List ℕ) → length bs < 8 → grown bs ≡ (begun bs, None)
grown-short bs lt = rw (lt-ltb (length bs) 8 lt) refl

pub grown-long : (bs : List ℕ) → 8 ≤ length bs → grown bs ≡ completed bs (header_fault bs)
grown-long bs le = rw (le-ltb (length bs) 8 le) refl

pub grown-part : (bs : List ℕ) → 8 ≤ length bs → header_fault bs ≡ None → length bs < length_field bs → grown bs ≡ (begun bs, None)
grown-part bs le sound lt =
    grown-long bs le ∙ (rw (sound, ne-eqb (length bs) (length_field bs) (λ e. omega (arith, e, lt))) refl)

pub grown-whole : (bs : List ℕ) → 8 ≤ length bs → header_fault bs ≡ None → length bs ≡ length_field bs → grown bs ≡ (nothing_yet, Some bs)
grown-whole bs le sound e =
    grown-long bs le ∙ (rw (sound, eq-eqb (length bs) (length_field bs) e) refl)

pub length-one : (r : List ℕ) (b : ℕ) → length (r ++ b ∷ []) ≡ length r + 1
length-one r b = length-append r (b ∷ [])

-- one byte that completes nothing, and then the others
pub one-then : (r bs : List ℕ) (b : ℕ) (total : Pending × List (List ℕ)) → grown (r ++ b ∷ []) ≡ (begun (r ++ b ∷ []), None) → cut (begun (r ++ b ∷ [])) bs ≡ total → cut (begun r) (b ∷ bs) ≡ total
one-then r bs b total e rest = rw e rest

-- bytes up to the end of a header are judged together
pub cut-header : (r bs : List ℕ) (b : ℕ) → length r + length (b ∷ bs) ≤ 8 → cut (begun r) (b ∷ bs) ≡ listed (grown (r ++ b ∷ bs))
cut-header r [] b le = rw (append-nil (option_to_list (grown (r ++ b ∷ [])).1)) refl
cut-header r (c ∷ bs) b le =
    let short : length (r ++ b ∷ []) < 8 = omega (arith, length-one r b, le) in
    let less : length (r ++ b ∷ []) + length (c ∷ bs) ≤ 8 = omega (arith, length-one r b, le) in
    one-then r (c ∷ bs) b (listed (grown (r ++ b ∷ c ∷ bs))) (grown-short (r ++ b ∷ []) short)
    (cut-header (r ++ b ∷ []) bs c less ∙ ap (λ (x : List ℕ). listed (grown x)) (append_assoc r (b ∷ []) (c ∷ bs)))

-- and so are bytes up to the end of the frame
pub cut-body : (r bs : List ℕ) (b : ℕ) → 8 ≤ length r → header_fault r ≡ None → length r + length (b ∷ bs) ≤ length_field r
    → cut (begun r) (b ∷ bs) ≡ listed (grown (r ++ b ∷ bs))
cut-body r [] b le sound fits = rw (append-nil (option_to_list (grown (r ++ b ∷ [])).1)) refl
cut-body r (c ∷ bs) b le sound fits =
    let longer : length (r ++ b ∷ []) ≡ length r + 1 = length-one r b in
    let header : 8 ≤ length (r ++ b ∷ []) = omega (arith, longer, le) in
    let sound_too : header_fault (r ++ b ∷ []) ≡ None = fault-append r (b ∷ []) le ∙ sound in
    let same : length_field (r ++ b ∷ []) ≡ length_field r = field-append r (b ∷ []) le in
    let part : length (r ++ b ∷ []) < length_field (r ++ b ∷ []) = omega (arith, longer, same, fits) in
    let less : length (r ++ b ∷ []) + length (c ∷ bs) ≤ length_field (r ++ b ∷ []) = omega (arith, longer, same, fits) in
    one-then r (c ∷ bs) b (listed (grown (r ++ b ∷ c ∷ bs))) (grown-part (r ++ b ∷ []) header sound_too part)
    (cut-body (r ++ b ∷ []) bs c header sound_too less ∙ ap (λ (x : List ℕ). listed (grown x)) (append_assoc r (b ∷ []) (c ∷ bs)))

-- bytes that are there, up to the end of the header or else of the frame
pub cut-up-to : (p : Pending) (bs : List ℕ) → IsPending p → p.fault ≡ None → 0 < length bs
    → (length p.rest < 8 → length p.rest + length bs ≤ 8) → (8 ≤ length p.rest → length p.rest + length bs ≤ length_field p.rest)
    → cut p bs ≡ listed (grown (p.rest ++ bs))
cut-up-to p [] is sound some header frame = absurd (omega (arith, some))
cut-up-to p (b ∷ bs) is sound some header frame =
    let same : p ≡ begun p.rest = rw sound refl in
    subst (λ (q : Pending). cut q (b ∷ bs) ≡ listed (grown (p.rest ++ b ∷ bs))) (sym same)
    (elim (cases_lt (length p.rest) 8) as (λ _. cut (begun p.rest) (b ∷ bs) ≡ listed (grown (p.rest ++ b ∷ bs))) [
      | inl lt ↦ cut-header p.rest bs b (header lt)
      | inr le ↦ cut-body p.rest bs b le (is.judged sound le) (frame le)
    ])

-- the first of two bodies, where the test holds
pub if_true : {A : Type 0} (x y : A) (b : Bool) → b ≡ true → (if b then x else y) ≡ x
if_true x y b e = rw e refl

pub some≢none : (x : FrameFault) → Some x ≡ None → ⊥
some≢none x e = true≢false (ap is_some e)

not-some : {A : Type 0} (o : Option A) → is_some o ≡ false → o ≡ None
not-some (Some x) e = absurd (true≢false e)
not-some None e = refl

-- a header without a fault names eight bytes or more
pub sound-length : (bs : List ℕ) → header_fault bs ≡ None → 8 ≤ length_field bs
unfolding header_fault
sound-length bs sound =
    elim (cases_lt (length_field bs) 8) as (λ _. 8 ≤ length_field bs) [
      | inl lt ↦ absurd (some≢none BadLength (sym (if_true (Some BadLength) (if (slice_index bs 0 == 1) || (slice_index bs 1 == 0) then None else Some BadVersion) (nat_lt (length_field bs) 8) (lt-ltb (length_field bs) 8 lt)) ∙ sound))
      | inr le ↦ le
    ]

completed-is-pending : (bs : List ℕ) (found : Option FrameFault) → header_fault bs ≡ found → (found ≡ None → length bs ≤ length_field bs) → IsPending (completed bs found).0
completed-is-pending bs (Some fault) e le = record { judged = λ is _. absurd (some≢none fault is); short = λ is _. absurd (some≢none fault is) }
completed-is-pending bs None e le =
    elim (eqb_tells (length bs) (length_field bs)) as (λ _. IsPending (completed bs None).0) [
      | inl same ↦ rw (same.0) (record { judged = λ _ short. absurd (omega (arith, short)); short = λ _ short. absurd (omega (arith, short)) })
      | inr off ↦ rw (off.0) (record { judged = λ _ _. e; short = λ _ _. lt_of_le-ne (le refl) off.1 })
    ]

-- what is grown is judged
pub grown-is-pending : (bs : List ℕ) → (8 ≤ length bs → header_fault bs ≡ None → length bs ≤ length_field bs) → IsPending (grown bs).0
grown-is-pending bs le =
    elim (cases_lt (length bs) 8) as (λ _. IsPending (grown bs).0) [
      | inl lt ↦ rw (grown-short bs lt) (record { judged = λ _ long. absurd (omega (arith, lt, long)); short = λ _ long. absurd (omega (arith, lt, long)) })
      | inr long ↦ rw (grown-long bs long) (completed-is-pending bs (header_fault bs) refl (le long))
    ]

-- bytes up to the end of the header, or else of the frame, are not more than the frame
pub within : (p : Pending) (bs : List ℕ) → IsPending p → p.fault ≡ None
    → (length p.rest < 8 → length p.rest + length bs ≤ 8) → (8 ≤ length p.rest → length p.rest + length bs ≤ length_field p.rest)
    → 8 ≤ length (p.rest ++ bs) → header_fault (p.rest ++ bs) ≡ None → length (p.rest ++ bs) ≤ length_field (p.rest ++ bs)
within p bs is open_yet header frame long sound =
    elim (cases_lt (length p.rest) 8) as (λ _. length (p.rest ++ bs) ≤ length_field (p.rest ++ bs)) [
      | inl lt ↦ omega (arith, sound-length (p.rest ++ bs) sound, header lt, length-append p.rest bs)
      | inr le ↦ omega (arith, frame le, length-append p.rest bs, field-append p.rest bs le)
    ]

-- the first n bytes of a piece that begins with a whole frame
pub field-take : (n : ℕ) (bs : List ℕ) → 8 ≤ n → n ≤ length bs → length_field (take n bs) ≡ length_field bs
field-take n bs le within_bs = number_at-take 2 2 n bs (omega (arith, le))

pub fault-take : (n : ℕ) (bs : List ℕ) → 8 ≤ n → n ≤ length bs → header_fault (take n bs) ≡ header_fault bs
fault-take n bs le within_bs =
    sym (fault-append (take n bs) (drop n bs) (omega (arith, le, length-take-le n bs within_bs))) ∙ ap header_fault (take-append-drop n bs)

pub frame-taken : (n : ℕ) (bs : List ℕ) → IsWholeAt n bs → IsFrame (take n bs)
frame-taken n bs at = record {
  header = omega (arith, at.header, length-take-le n bs at.within);
  exact = length-take-le n bs at.within ∙ sym (field-take n bs at.header at.within ∙ at.exact);
}

-- a frame from the start of its header
pub cut-whole : (f : List ℕ) → IsFrame f → header_fault f ≡ None → cut nothing_yet f ≡ (nothing_yet, f ∷ [])
cut-whole f is sound =
    let head : List ℕ = take 8 f in
    let tail : List ℕ = drop 8 f in
    let whole : head ++ tail ≡ f = take-append-drop 8 f in
    let eight : length head ≡ 8 = length-take-le 8 f is.header in
    let sound_head : header_fault head ≡ None = fault-take 8 f (omega arith) is.header ∙ sound in
    let field_head : length_field head ≡ length_field f = field-take 8 f (omega arith) is.header in
    let sum_is : length head + length tail ≡ length f = sym (length-append head tail) ∙ ap length whole in
    let first : cut nothing_yet head ≡ listed (grown head) = cut-up-to nothing_yet head (record { judged = λ _ long. absurd (omega (arith, long)); short = λ _ long. absurd (omega (arith, long)) }) refl (omega (arith, eight)) (λ _. omega (arith, eight)) (λ long. absurd (omega (arith, long))) in
    elim (cases_lt 8 (length f)) as (λ _. cut nothing_yet f ≡ (nothing_yet, f ∷ [])) [
      | inl longer ↦
          let more : grown head ≡ (begun head, None) = grown-part head (omega (arith, eight)) sound_head (omega (arith, eight, field_head, is.exact, longer)) in
          let after_tail : cut (begun head) tail ≡ listed (grown (head ++ tail)) = cut-up-to (begun head) tail (record { judged = λ _ _. sound_head; short = λ _ _. omega (arith, eight, field_head, is.exact, longer) }) refl (omega (arith, eight, sum_is, longer)) (λ lt. absurd (omega (arith, lt, eight))) (λ _. omega (arith, sum_is, field_head, is.exact)) in
          subst (λ (x : List ℕ). cut nothing_yet x ≡ (nothing_yet, f ∷ [])) whole
          (cut-append nothing_yet head tail ∙ (rw (first, more, after_tail, whole, grown-whole f is.header sound is.exact) refl))
      | inr le ↦
          let none_left : tail ≡ [] = nil_from_length tail (omega (arith, eight, sum_is, le)) in
          let same : head ≡ f = sym (append-nil head) ∙ ap (λ (x : List ℕ). head ++ x) (sym none_left) ∙ whole in
          subst (λ (x : List ℕ). cut nothing_yet x ≡ (nothing_yet, f ∷ [])) same
          (first ∙ (rw (same, grown-whole f is.header sound is.exact) refl))
    ]

pub cut-taken : (n : ℕ) (bs : List ℕ) → IsWholeAt n bs → cut nothing_yet (take n bs) ≡ (nothing_yet, take n bs ∷ [])
cut-taken n bs at = cut-whole (take n bs) (frame-taken n bs at) (fault-take n bs at.header at.within ∙ at.sound)

-- the loop takes more bytes
pub goes-on : (front : List (List ℕ)) (p q : Pending) (found : Option (List ℕ)) (n : ℕ) (rest : List ℕ) (total : Pending × List (List ℕ))
    → cut p (take n rest) ≡ (q, option_to_list found)
    → with_front front (cut p rest) ≡ total → with_front (front ++ option_to_list found) (cut q (drop n rest)) ≡ total
goes-on front p q found n rest total e so_far =
    let split : cut p rest ≡ with_front (option_to_list found) (cut q (drop n rest)) =
    ap (cut p) (sym (take-append-drop n rest)) ∙ cut-append p (take n rest) (drop n rest) ∙ (rw e refl) in
    sym (regroup front (option_to_list found) (cut q (drop n rest))) ∙ sym (ap (with_front front) split) ∙ so_far

-- after a fault nothing more is cut
pub fault-stays : (rest bs : List ℕ) (fault : FrameFault) → let p : Pending = record { rest = rest; fault = Some fault } in cut p bs ≡ (p, [])
fault-stays rest [] fault = refl
fault-stays rest (b ∷ bs) fault = fault-stays rest bs fault

pub faulty-stays : (p : Pending) (fault : FrameFault) (bs : List ℕ) → p.fault ≡ Some fault → cut p bs ≡ (p, [])
faulty-stays p fault bs e = rw e (fault-stays p.rest bs fault)

pub pieces-joined : (p : Pending) (pieces : List (List ℕ)) → cut_pieces p pieces ≡ cut p (concat pieces)
pieces-joined p [] = refl
pieces-joined p (piece ∷ pieces) =
    ap (with_front (cut p piece).1) (pieces-joined (cut p piece).0 pieces) ∙ sym (cut-append p piece (concat pieces))

-- a step that takes bytes into what is pending
pub advance-step : (p : Pending) (rest piece : List ℕ) (missing count : ℕ) (x : List ℕ) (q : Pending) (found : Option (List ℕ))
    → IsPending p → p.fault ≡ None → rest ≡ p.rest → 0 < length piece → 0 < missing
    → (length rest < 8 → length rest + missing ≡ 8) → (8 ≤ length rest → length rest + missing ≡ length_field rest)
    → count ≤ missing → count ≤ length piece → 0 < count
    → x ≡ p.rest ++ take count piece → grown x ≡ (q, found)
    → IsPending q × (cut p (take count piece) ≡ (q, option_to_list found))
advance-step p rest piece missing count x q found is still slice some more header frame few fits taken e after =
    let bs : List ℕ = take count piece in
    let size : length bs ≡ count = length-take-le count piece fits in
    let to_header : length p.rest < 8 → length p.rest + length bs ≤ 8 = λ lt. omega (arith, size, few, header (rw slice lt), ap length slice) in
    let to_frame : 8 ≤ length p.rest → length p.rest + length bs ≤ length_field p.rest = λ le. omega (arith, size, few, frame (rw slice le), ap length slice, ap length_field slice) in
    let after_all : grown (p.rest ++ bs) ≡ (q, found) = sym (ap grown e) ∙ after in
    let judged : IsPending (grown (p.rest ++ bs)).0 = grown-is-pending (p.rest ++ bs) (within p bs is still to_header to_frame) in
    let cut_all : cut p bs ≡ listed (grown (p.rest ++ bs)) = cut-up-to p bs is still (omega (arith, size, taken)) to_header to_frame in
    (subst (λ (g : Pending × Option (List ℕ)). IsPending g.0) after_all judged, cut_all ∙ ap listed after_all)

-- a step that takes a whole frame
pub whole-step : (p : Pending) (n : ℕ) (piece frame : List ℕ) → length p.rest ≡ 0 → p.fault ≡ None → IsWholeAt n piece → frame ≡ take n piece
    → cut p (take n piece) ≡ (p, frame ∷ [])
whole-step p n piece frame none still at e =
    let start : p ≡ nothing_yet = rw (nil_from_length p.rest none, still) refl in
    rw (start, e) (cut-taken n piece at)

pub whole-at : (n : ℕ) (bs : List ℕ) (found : Option FrameFault) → found ≡ header_fault bs → is_some found ≡ false → n ≡ length_field bs → n ≤ length bs → IsWholeAt n bs
whole-at n bs found e off size fits =
    let sound : header_fault bs ≡ None = sym e ∙ not-some found off in
    record { header = rw size (sound-length bs sound); within = fits; exact = sym size; sound = sound }
