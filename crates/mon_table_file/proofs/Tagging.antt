-- Tags that are read one after the other.
use Rattle.std.proofs.Common.{◌≡◌, ℕ, zero, suc, ◌+◌, ◌-◌, ◌<◌, ◌≤◌, refl, sym, ap, ◌∙◌, List, [], ◌∷◌, ◌++◌, Some, None, codes, arith, append_assoc}
use Rattle.std.specs.Prelude.{option_and_then}
use Rattle.std.proofs.lemmas.List.{append-nil}
use Rattle.mon_text.specs.Parts.{Part, behind, led, number_within, feed}
use Rattle.mon_text.proofs.Pairs.{onto}
use Rattle.mon_table_file.specs.Reading.{tags_in, tag_before, end_or}

onto-nothing : (p : Part (List ℕ)) → onto [] p ≡ p
onto-nothing None = refl
onto-nothing (Some p) = refl

onto-tag : (front : List ℕ) (tag : ℕ) (p : Part (List ℕ)) → onto (front ++ tag ∷ []) p ≡ onto front (tag_before tag p)
onto-tag front tag None = refl
onto-tag front tag (Some p) = ap (λ (ts : List ℕ). Some (ts, p.1)) (append_assoc front (tag ∷ []) p.0)

-- what still may be read after some tags
pub tags_start : (text : List ℕ) → onto [] (tags_in (65 - 0) text) ≡ tags_in 65 text
tags_start text = onto-nothing (tags_in 65 text)

module _ (tags rest : List ℕ) (count : ℕ) (whole : Part (List ℕ)) (some : count < 65) (h : onto tags (tags_in (65 - count) rest) ≡ whole) where
  pub tags_end : (after : List ℕ) → Some after ≡ behind feed rest → Some (tags, after) ≡ whole
  unfolding tags_in
  tags_end after e =
      let left : 65 - count ≡ suc (65 - (count + 1)) = omega arith in
      let more = option_and_then (λ (p : ℕ × List ℕ). tag_before p.0 (tags_in (65 - (count + 1)) p.1)) (led (codes " ") (number_within 1 4094) rest) in
      ap (λ (ts : List ℕ). Some (ts, after)) (sym (append-nil tags))
      ∙ ap (λ o. onto tags (end_or o more)) e
      ∙ ap (λ n. onto tags (tags_in n rest)) (sym left)
      ∙ h

  pub tags_none : None ≡ behind feed rest → None ≡ led (codes " ") (number_within 1 4094) rest → None ≡ whole
  unfolding tags_in
  tags_none e f =
      let left : 65 - count ≡ suc (65 - (count + 1)) = omega arith in
      let more : Part ℕ → Part (List ℕ) = option_and_then (λ (p : ℕ × List ℕ). tag_before p.0 (tags_in (65 - (count + 1)) p.1)) in
      ap (λ o. onto tags (end_or None (more o))) f
      ∙ ap (λ o. onto tags (end_or o (more (led (codes " ") (number_within 1 4094) rest)))) e
      ∙ ap (λ n. onto tags (tags_in n rest)) (sym left)
      ∙ h

  pub tags_more : (after : List ℕ) (tag : ℕ) → None ≡ behind feed rest → Some (tag, after) ≡ led (codes " ") (number_within 1 4094) rest → onto (tags ++ tag ∷ []) (tags_in (65 - (count + 1)) after) ≡ whole
  unfolding tags_in
  tags_more after tag e f =
      let left : 65 - count ≡ suc (65 - (count + 1)) = omega arith in
      let more : Part ℕ → Part (List ℕ) = option_and_then (λ (p : ℕ × List ℕ). tag_before p.0 (tags_in (65 - (count + 1)) p.1)) in
      onto-tag tags tag (tags_in (65 - (count + 1)) after)
      ∙ ap (λ o. onto tags (end_or None (more o))) f
      ∙ ap (λ o. onto tags (end_or o (more (led (codes " ") (number_within 1 4094) rest)))) e
      ∙ ap (λ n. onto tags (tags_in n rest)) (sym left)
      ∙ h

pub tags_all : (tags rest : List ℕ) (count : ℕ) (whole : Part (List ℕ)) → 65 ≤ count → onto tags (tags_in (65 - count) rest) ≡ whole → None ≡ whole
unfolding tags_in
tags_all tags rest count whole all h =
    let left : 65 - count ≡ zero = omega arith in
    ap (λ n. onto tags (tags_in n rest)) (sym left) ∙ h
