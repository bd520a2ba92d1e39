-- What the lines of a table file must say so that they go together.
use Rattle.std.proofs.Common.{◌≡◌, ℕ, zero, suc, ◌<◌, ◌≤◌, true, false, not, refl, sym, ap, ◌∙◌, List, [], ◌∷◌, ◌++◌, length, get_or, take, arith, ⊎_elim}
use Rattle.std.specs.Prelude.{◌==◌}
use Rattle.std.proofs.lemmas.Bool.{and_parts, and_from, le-leb, eqb-true, eqb-false, ne_eqb, not_from_false, not-true, false≢true, or_cases}
use Rattle.mon_topo.specs.Ascending.{Ascends, AreVids, may_follow}
use Rattle.mon_shows.specs.declared.near.Near.{Near}
use Rattle.mon_shows.specs.Views.{is_in_use}
use Rattle.mon_shows.specs.Links.{PortsAscend}
use Rattle.mon_table_file.specs.TableFile.{FitsLink}
use Rattle.mon_table_file.specs.Lines.{IsTag, FitsNear}
use Rattle.mon_table_file.specs.Reading.{has_other_tag}
use Rattle.mon_table_file.specs.Sections.{next_port}

-- each number of an ascending list may follow those before it
ascends-at : (low high : ℕ) (xs : List ℕ) (i : ℕ) → i < length xs → Ascends low high xs → may_follow low high (take i xs) (get_or xs i 0) ≡ true
ascends-at low high [] i within all = absurd (omega arith)
ascends-at low high (x ∷ xs) zero within all = and_from _ _ (le-leb low x all.0) (le-leb x high all.1)
ascends-at low high (x ∷ xs) (suc i) within all = ascends-at (suc x) high xs i (omega arith) all.2

pub not_vids : (tags vids : List ℕ) (i : ℕ) → i < length tags → vids ≡ take i tags → may_follow 1 4094 vids (get_or tags i 0) ≡ false → AreVids tags → ⊥
not_vids tags vids i within e wrong all = false≢true (sym wrong ∙ ap (λ (v : List ℕ). may_follow 1 4094 v (get_or tags i 0)) e ∙ ascends-at 1 4094 tags i within all)

-- a tag in use is a VLAN id
in_range : (low : ℕ) (tags : List ℕ) (tag : ℕ) → Ascends low 4094 tags → is_in_use tag tags ≡ true → (low ≤ tag) × (tag ≤ 4094)
in_range low [] tag all e = absurd (false≢true e)
in_range low (t ∷ tags) tag all e = ⊎_elim
    (λ (same : (t == tag) ≡ true). let is : t ≡ tag = eqb-true t tag same in let least : low ≤ t = all.0 in let most : t ≤ 4094 = all.1 in (omega arith, omega arith))
    (λ (more : is_in_use tag tags ≡ true). let r = in_range (suc t) tags tag all.2 more in let least : low ≤ t = all.0 in let above : suc t ≤ tag = r.0 in (omega arith, r.1))
    (or_cases (t == tag) (is_in_use tag tags) e)

pub tag_in_range : (tags : List ℕ) (tag : ℕ) → AreVids tags → is_in_use tag tags ≡ true → IsTag tag
tag_in_range tags tag all e = in_range 1 tags tag all e

-- a link that goes with the tags
pub other_tag : (tag : ℕ) (tags : List ℕ) (n : Near) → FitsLink tag tags n → has_other_tag tag tags n ≡ true
unfolding has_other_tag
other_tag tag tags n f = and_from _ _ (not_from_false _ (ne_eqb n.tag tag f.other)) f.in_use

pub fits_link : (tag : ℕ) (tags : List ℕ) (n : Near) → FitsNear n → has_other_tag tag tags n ≡ true → FitsLink tag tags n
unfolding has_other_tag
fits_link tag tags n f e =
    let p = and_parts (not (n.tag == tag)) (is_in_use n.tag tags) e in
    record { near = f; in_use = p.1; other = eqb-false n.tag tag (not-true (n.tag == tag) p.0) }

-- ports that rise
pub port_follows : (low : ℕ) (links : List Near) (n : Near) → PortsAscend low links → next_port low links ≤ n.port → PortsAscend low (links ++ n ∷ [])
port_follows low [] n up e = (e, tt)
port_follows low (m ∷ ms) n up e = (up.0, port_follows (suc m.port) ms n up.1 e)

pub port_followed : (low : ℕ) (links : List Near) (n : Near) → PortsAscend low (links ++ n ∷ []) → next_port low links ≤ n.port
port_followed low [] n up = up.0
port_followed low (m ∷ ms) n up = port_followed (suc m.port) ms n up.1

pub port_next : (low : ℕ) (links : List Near) (n : Near) → next_port low (links ++ n ∷ []) ≡ suc n.port
port_next low [] n = refl
port_next low (m ∷ ms) n = port_next (suc m.port) ms n

pub ports_front : (low : ℕ) (a b : List Near) → PortsAscend low (a ++ b) → PortsAscend low a
ports_front low [] b all = tt
ports_front low (n ∷ a) b all = (all.0, ports_front (suc n.port) a b all.1)
