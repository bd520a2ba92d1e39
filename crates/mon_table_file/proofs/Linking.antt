-- Links that are read one after the other.
use Rattle.std.proofs.Common.{◌≡◌, ℕ, suc, ◌+◌, ◌<◌, ◌≤◌, true, false, refl, sym, ap, subst, ◌∙◌, List, [], ◌∷◌, ◌++◌, Some, None, arith}
use Rattle.std.specs.List.{flat_map}
use Rattle.std.proofs.lemmas.Bool.{false≢true}
use Rattle.mon_text.proofs.Growing.{all_push, flat_push}
use Rattle.mon_shows.specs.declared.near.Near.{Near}
use Rattle.mon_table_file.specs.Lines.{link_line}
use Rattle.mon_table_file.specs.Reading.{link_in, has_other_tag}
use Rattle.mon_table_file.specs.TableFile.{FitsLink, AreLinks}
use Rattle.mon_table_file.specs.Sections.{next_port, LinksAt, LinksStop}
use Rattle.mon_table_file.proofs.SoFar.{all_next}
use Rattle.mon_table_file.proofs.LineReaders.{reader_link}
use Rattle.mon_table_file.proofs.Deciding.{other_tag, fits_link, port_follows, port_followed, port_next}

-- the links so far, and the least port that may come next
pub record LinksSoFar (tag : ℕ) (tags text : List ℕ) (links : List Near) (least : ℕ) (rest : List ℕ) : Type 0 where
  pub is : text ≡ flat_map link_line links ++ rest
  pub links_are : AreLinks tag tags links
  pub least_is : least ≡ next_port 0 links

pub no_links_yet : (tag : ℕ) (tags text : List ℕ) (links : List Near) → links ≡ [] → LinksSoFar tag tags text links 0 text
no_links_yet tag tags text links none =
    subst (λ (ns : List Near). LinksSoFar tag tags text ns 0 text) (sym none) (record { is = refl; links_are = record { fit = tt; ascending = tt }; least_is = refl })

module _ (tag : ℕ) (tags text : List ℕ) (links : List Near) (least : ℕ) (rest : List ℕ) (s : LinksSoFar tag tags text links least rest) where
  pub links_end : link_in rest ≡ None → LinksAt tag tags text links rest
  links_end e = record { is = s.is; links_are = s.links_are; ends = e }

  module _ (near : Near) (after : List ℕ) (read : link_in rest ≡ Some (near, after)) where
    stop : (AreLinks tag tags (links ++ near ∷ []) → ⊥) → LinksStop tag tags text rest
    stop wrong = record { links = links; is = s.is; links_are = s.links_are; near = near; after = after; read = read; wrong = wrong }

    pub low_port : near.port < least → LinksStop tag tags text rest
    low_port e = stop (λ all. let k : next_port 0 links ≤ near.port = port_followed 0 links near all.ascending in let l : least ≡ next_port 0 links = s.least_is in omega arith)

    pub wrong_tag : (given : List ℕ) → given ≡ tags → has_other_tag tag given near ≡ false → LinksStop tag tags text rest
    wrong_tag given same e =
        stop (λ all. false≢true (sym e ∙ ap (λ (ts : List ℕ). has_other_tag tag ts near) same ∙ other_tag tag tags near (all_next (FitsLink tag tags) links near [] all.fit)))

    pub one_link : (given : List ℕ) (new : List Near) (next : ℕ) → least ≤ near.port → given ≡ tags → has_other_tag tag given near ≡ true → new ≡ links ++ near ∷ [] → next ≡ near.port + 1 → LinksSoFar tag tags text new next after
    one_link given new next e same other grown rises =
        let r = reader_link.found rest near after read in
        let l : least ≡ next_port 0 links = s.least_is in
        subst (λ (ns : List Near). LinksSoFar tag tags text ns next after) (sym grown) (record {
          is = s.is ∙ ap (λ t. flat_map link_line links ++ t) r.1 ∙ flat_push link_line links near after;
          links_are = record {
            fit = all_push (FitsLink tag tags) links near s.links_are.fit (fits_link tag tags near r.0 (ap (λ (ts : List ℕ). has_other_tag tag ts near) (sym same) ∙ other));
            ascending = port_follows 0 links near s.links_are.ascending (omega arith);
          };
          least_is = rises ∙ (let n : next_port 0 (links ++ near ∷ []) ≡ suc near.port = port_next 0 links near in omega arith);
        })
