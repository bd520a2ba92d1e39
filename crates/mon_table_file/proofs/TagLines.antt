-- The line of the tags in use.
use Rattle.std.proofs.Common.{◌≡◌, ℕ, true, false, sym, ap, subst, ◌∙◌, List, ◌++◌, Some, None, arith}
use Rattle.std.proofs.lemmas.Bool.{false≢true}
use Rattle.mon_topo.specs.Ascending.{AreVids}
use Rattle.mon_shows.specs.Views.{is_in_use}
use Rattle.mon_table_file.specs.Lines.{tags_line}
use Rattle.mon_table_file.specs.TableFile.{AreTags}
use Rattle.mon_table_file.specs.Reading.{FitsTags, tags_line_in}
use Rattle.mon_table_file.proofs.LineReaders.{reader_tags_line}
use Rattle.mon_table_file.proofs.SoFar.{same_line, not_read}
use Rattle.mon_table_file.proofs.Heads.{tags_fit}

fits : (tag : ℕ) (tags : List ℕ) → AreTags tag tags → FitsTags tags
fits tag tags all = (all.few, tags_fit 1 tags (omega arith) all.vids)

pub no_tags : (tag : ℕ) (text : List ℕ) → None ≡ tags_line_in text → (tags rest : List ℕ) → AreTags tag tags → text ≡ tags_line tags ++ rest → ⊥
no_tags tag text none tags rest all here = not_read tags_line FitsTags tags_line_in reader_tags_line text rest tags (sym none) (fits tag tags all) here

module _ (tag : ℕ) (text items after slice : List ℕ) (read : Some (items, after) ≡ tags_line_in text) (same : slice ≡ items) where
  -- the tags that stand there are those that are read
  tags_are : (tags rest : List ℕ) → AreTags tag tags → text ≡ tags_line tags ++ rest → tags ≡ slice
  tags_are tags rest all here = same_line tags_line FitsTags tags_line_in reader_tags_line text after rest items tags (sym read) (fits tag tags all) here ∙ sym same

  pub not_own : false ≡ is_in_use tag slice → (tags rest : List ℕ) → AreTags tag tags → text ≡ tags_line tags ++ rest → ⊥
  not_own none tags rest all here = false≢true (none ∙ ap (is_in_use tag) (sym (tags_are tags rest all here)) ∙ all.in_use)

  pub no_vids : (AreVids slice → ⊥) → (tags rest : List ℕ) → AreTags tag tags → text ≡ tags_line tags ++ rest → ⊥
  no_vids none tags rest all here = none (subst AreVids (tags_are tags rest all here) all.vids)

  pub tags_found : (vids given : List ℕ) → given ≡ items → vids ≡ given → AreVids given → true ≡ is_in_use tag slice → AreTags tag vids × (text ≡ tags_line vids ++ after)
  tags_found vids given e is ascend own =
      let r = reader_tags_line.found text items after (sym read) in
      subst (λ (ts : List ℕ). AreTags tag ts × (text ≡ tags_line ts ++ after)) (sym (is ∙ e)) (
        record { vids = subst AreVids e ascend; few = r.0.0; in_use = ap (is_in_use tag) (sym same) ∙ sym own },
        r.1,
      )
