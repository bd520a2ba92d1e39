-- Puts and cuts of rules in chunks, by the place that a search gives.
use Rattle.std.proofs.Common.{◌≡◌, ℕ, zero, suc, ◌+◌, ◌-◌, ◌<◌, ◌≤◌, ◌^◌, Bool, true, false, cond, List, [], ◌∷◌, length, get_or, set, Some, None, refl, sym, ap, subst, ◌∙◌, arith}
use Rattle.std.specs.Prelude.{Option}
use Rattle.std.specs.List.{insert, remove, position}
use Rattle.std.proofs.lemmas.List.{length-set}
use Rattle.std.proofs.lemmas.List.Edits.{length-insert, length-remove}
use Rattle.mon_header.specs.Matching.{Matching, IsNormal, effective}
use Rattle.mon_table.specs.declared.rule.Rule.{Rule}
use Rattle.mon_table.specs.Rules.{Identity, identity, identity_of, same_identity, comes_before}
use Rattle.mon_table.specs.Tables.{IsTable, rule_of, without, with_rule}
use Rattle.mon_table.specs.Places.{place_of, stands_at}
use Rattle.mon_table.specs.Chunks.{Shared, rules_of, place_in, IsSpot, IsKept, AfterPut, AfterCut}
use Rattle.mon_table.proofs.Placing.{Searched, put-set, put-insert, cut-remove, cut-none, old-found, old-none, place-found, place-none}

-- the rank that was computed is that of the identity
pub spot-turned : (k : ℕ) (m : Matching) (p : ℕ) (cs ds : List Shared) (at n : ℕ) (b : Bool) → k ≡ effective m p → ds ≡ cs → IsSpot (record { rank = k; matching = m }) ds at n b → IsSpot (identity m p) cs at n b
spot-turned k m p cs ds at n b e f s =
    let same : (let x : Identity = record { rank = k; matching = m } in x) ≡ identity m p = ap (λ (x : ℕ). let y : Identity = record { rank = x; matching = m } in y) e in
    subst (λ (xs : List Shared). IsSpot (identity m p) xs at n b) f (subst (λ (i : Identity). IsSpot i ds at n b) same s)

spot-searched : (i : Identity) (cs : List Shared) (at n : ℕ) (b c : Bool) → IsSpot i cs at n b → b ≡ c → Searched i (rules_of cs) (place_in cs at n) c
spot-searched i cs at n b c s e = record { place = s.place; stands = sym s.stands ∙ e }

place-le : (i : Identity) (t : List Rule) → place_of i t ≤ length t
place-le i [] = omega arith
place-le i (r ∷ t) = elim (comes_before (identity_of r) i) as (λ b. cond b (suc (place_of i t)) 0 ≤ length (r ∷ t)) [
  | true ↦ let e = place-le i t in omega arith
  | false ↦ omega arith
]

pub spot-le : (i : Identity) (cs : List Shared) (at n : ℕ) (b : Bool) → IsSpot i cs at n b → place_in cs at n ≤ length (rules_of cs)
spot-le i cs at n b s = let e = place-le i (rules_of cs) in let f = s.place in omega arith

place-lt : (i : Identity) (t : List Rule) (n : ℕ) → stands_at i n t ≡ true → n < length t
place-lt i [] n e = absurd (let f : ⊥ = cc in f)
place-lt i (r ∷ t) zero e = omega arith
place-lt i (r ∷ t) (suc n) e = let f = place-lt i t n e in omega arith

-- a put
pub put-found : (r x : Rule) (cs ds : List Shared) (at n : ℕ) (b : Bool) → IsTable (rules_of cs) → IsSpot (identity_of r) cs at n b → b ≡ true
    → rules_of ds ≡ set (rules_of cs) (place_in cs at n) r → x ≡ get_or (rules_of cs) (place_in cs at n) x → AfterPut r (Some x) cs ds
put-found r x cs ds at n b table s e f g =
    let found = spot-searched (identity_of r) cs at n b true s e in
    record {
      rules = f ∙ put-set r r (rules_of cs) (place_in cs at n) table refl found;
      replaced = old-found (identity_of r) (rules_of cs) (place_in cs at n) x x table g found;
      counted = ap length f ∙ length-set (rules_of cs) (place_in cs at n) r;
    }

pub put-missing : (r : Rule) (cs ds : List Shared) (at n : ℕ) (b : Bool) → IsTable (rules_of cs) → IsNormal r.matching → IsSpot (identity_of r) cs at n b → b ≡ false
    → rules_of ds ≡ insert (rules_of cs) (place_in cs at n) r → AfterPut r None cs ds
put-missing r cs ds at n b table m s e f =
    let missing = spot-searched (identity_of r) cs at n b false s e in
    record {
      rules = f ∙ put-insert r (rules_of cs) (place_in cs at n) table m missing;
      replaced = old-none (identity_of r) (rules_of cs) (place_in cs at n) table m missing;
      counted = ap length f ∙ (length-insert (rules_of cs) (place_in cs at n) r (spot-le (identity_of r) cs at n b s) ∙ (let g : length (rules_of cs) + 1 ≡ suc (length (rules_of cs)) = omega arith in g));
    }

pub put-first : (r : Rule) (cs ds : List Shared) → rules_of cs ≡ [] → rules_of ds ≡ insert (rules_of cs) (place_in cs 0 0) r → AfterPut r None cs ds
put-first r cs ds e f =
    let zeros : length {A = Rule} [] + 0 ≡ 0 = omega arith in
    let one : rules_of ds ≡ r ∷ [] = f ∙ (ap (λ (t : List Rule). insert t (length {A = Rule} [] + 0) r) e ∙ ap (λ (k : ℕ). insert [] k r) zeros) in
    record {
      rules = one ∙ ap (with_rule r) (sym e);
      replaced = ap (rule_of (identity_of r)) (sym e);
      counted = ap length one ∙ ap (λ (t : List Rule). suc (length t)) (sym e);
    }

pub put-few : (r : Rule) (o : Option Rule) (cs ds : List Shared) (n : ℕ) → IsKept cs n → AfterPut r o cs ds → n < 2 ^ 32 - 1 → length (rules_of ds) < 2 ^ 32
put-few r None cs ds n k a lt = let e = a.counted in let f = k.counted in omega arith
put-few r (Some x) cs ds n k a lt = let e = a.counted in let f = k.few in omega arith

-- a cut
pub cut-found : (i : Identity) (x : Rule) (cs ds : List Shared) (at n : ℕ) (b : Bool) → IsTable (rules_of cs) → IsSpot i cs at n b → b ≡ true
    → rules_of ds ≡ remove (rules_of cs) (place_in cs at n) → x ≡ get_or (rules_of cs) (place_in cs at n) x → AfterCut i (Some x) cs ds
cut-found i x cs ds at n b table s e f g =
    let found = spot-searched i cs at n b true s e in
    let lt : place_in cs at n < length (rules_of cs) = subst (λ (k : ℕ). k < length (rules_of cs)) (sym s.place) (place-lt i (rules_of cs) (place_of i (rules_of cs)) found.stands) in
    let h = length-remove (rules_of cs) (place_in cs at n) lt in
    let k : length (rules_of ds) ≡ length (remove (rules_of cs) (place_in cs at n)) = ap length f in
    record {
      rules = f ∙ cut-remove i (rules_of cs) (place_in cs at n) table found;
      taken = old-found i (rules_of cs) (place_in cs at n) x x table g found;
      counted = omega arith;
    }

pub cut-missing : (i : Identity) (cs : List Shared) (at n : ℕ) (b : Bool) → IsTable (rules_of cs) → IsNormal i.matching → IsSpot i cs at n b → b ≡ false → AfterCut i None cs cs
cut-missing i cs at n b table m s e =
    let missing = spot-searched i cs at n b false s e in
    record {
      rules = cut-none i (rules_of cs) (place_in cs at n) table m missing;
      taken = old-none i (rules_of cs) (place_in cs at n) table m missing;
      counted = refl;
    }

pub cut-nothing : (i : Identity) (cs : List Shared) → rules_of cs ≡ [] → AfterCut i None cs cs
cut-nothing i cs e = record {
  rules = e ∙ ap (without i) (sym e);
  taken = ap (rule_of i) (sym e);
  counted = refl;
}

-- a place
pub place-there : (i : Identity) (cs : List Shared) (at n : ℕ) (b : Bool) → IsTable (rules_of cs) → IsSpot i cs at n b → b ≡ true
    → Some (place_in cs at n) ≡ position (λ r. same_identity (identity_of r) i) (rules_of cs)
place-there i cs at n b table s e = place-found i (rules_of cs) (place_in cs at n) table (spot-searched i cs at n b true s e)

pub place-missing : (i : Identity) (cs : List Shared) (at n : ℕ) (b : Bool) → IsTable (rules_of cs) → IsNormal i.matching → IsSpot i cs at n b → b ≡ false
    → None ≡ position (λ r. same_identity (identity_of r) i) (rules_of cs)
place-missing i cs at n b table m s e = place-none i (rules_of cs) (place_in cs at n) table m (spot-searched i cs at n b false s e)

pub spot-here : (i : Identity) (cs ds : List Shared) (at n : ℕ) (b : Bool) → ds ≡ cs → IsSpot i ds at n b → IsSpot i cs at n b
spot-here i cs ds at n b e s = subst (λ (xs : List Shared). IsSpot i xs at n b) e s
