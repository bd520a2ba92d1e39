-- What a table of chunks keeps, and what its calls say of its rules.
use Rattle.std.proofs.Common.{◌≡◌, ℕ, suc, ◌+◌, ◌-◌, ◌<◌, ◌≤◌, ◌^◌, Bool, true, false, List, length, get_or, Some, None, refl, sym, ap, subst, ◌∙◌, arith}
use Rattle.std.specs.Prelude.{Option, nat_lt}
use Rattle.std.specs.List.{position}
use Rattle.std.proofs.lemmas.Bool.{le-ltb}
use Rattle.mon_header.specs.Actions.{AllFit}
use Rattle.mon_header.specs.Matching.{Matching, IsNormal, effective, overlaps}
use Rattle.mon_table.specs.declared.rule.Rule.{Rule}
use Rattle.mon_table.specs.Rules.{Identity, identity, identity_of, same_identity}
use Rattle.mon_table.specs.Tables.{IsTable, AllActionsFit, slice}
use Rattle.mon_table.specs.Places.{stands_at}
use Rattle.mon_table.specs.Chunks.{Shared, rules_of, NoneEmpty, place_in, IsSpot, IsKept, AfterPut, AfterCut}
use Rattle.mon_table.proofs.Keeping.{table-filter, table-with, table-without, fit-filter, fit-with, fit-without, filter-short}
use Rattle.mon_table.proofs.Placing.{stands-at-read, stands-past}
use Rattle.mon_table.proofs.Changing.{spot-turned, spot-le, place-there, place-missing}

pub kept-replaced : (r : Rule) (o : Option Rule) (x : Rule) (cs ds : List Shared) (n : ℕ) → o ≡ Some x → IsKept cs n → IsNormal r.matching → AllFit r.actions → AfterPut r o cs ds → NoneEmpty ds → IsKept ds n
kept-replaced r o x cs ds n e k m f a none =
    let b : AfterPut r (Some x) cs ds = subst (λ (p : Option Rule). AfterPut r p cs ds) e a in
    let same : length (rules_of ds) ≡ length (rules_of cs) = b.counted in
    record {
      table = subst IsTable (sym a.rules) (table-with r (rules_of cs) m k.table);
      fit = fit-with r (rules_of cs) (rules_of ds) a.rules f k.fit;
      counted = k.counted ∙ sym same;
      few = (let g = k.few in omega arith);
      none_empty = none;
    }

pub kept-added : (r : Rule) (o : Option Rule) (cs ds : List Shared) (n : ℕ) → o ≡ None → IsKept cs n → IsNormal r.matching → AllFit r.actions → AfterPut r o cs ds → length (rules_of ds) < 2 ^ 32 → NoneEmpty ds → IsKept ds (n + 1)
kept-added r o cs ds n e k m f a few none =
    let b : AfterPut r None cs ds = subst (λ (p : Option Rule). AfterPut r p cs ds) e a in
    let more : length (rules_of ds) ≡ suc (length (rules_of cs)) = b.counted in
    record {
      table = subst IsTable (sym a.rules) (table-with r (rules_of cs) m k.table);
      fit = fit-with r (rules_of cs) (rules_of ds) a.rules f k.fit;
      counted = (let g = k.counted in omega arith);
      few = few;
      none_empty = none;
    }

pub kept-taken : (i : Identity) (o : Option Rule) (x : Rule) (cs ds : List Shared) (n : ℕ) → o ≡ Some x → IsKept cs n → AfterCut i o cs ds → NoneEmpty ds → IsKept ds (n - 1)
kept-taken i o x cs ds n e k a none =
    let b : AfterCut i (Some x) cs ds = subst (λ (p : Option Rule). AfterCut i p cs ds) e a in
    let less : suc (length (rules_of ds)) ≡ length (rules_of cs) = b.counted in
    record {
      table = subst IsTable (sym a.rules) (table-without i (rules_of cs) k.table);
      fit = fit-without i (rules_of cs) (rules_of ds) a.rules k.fit;
      counted = (let g = k.counted in omega arith);
      few = (let g = k.few in omega arith);
      none_empty = none;
    }

pub kept-left : (i : Identity) (o : Option Rule) (cs ds : List Shared) (n : ℕ) → o ≡ None → IsKept cs n → AfterCut i o cs ds → NoneEmpty ds → IsKept ds n
kept-left i o cs ds n e k a none =
    let b : AfterCut i None cs ds = subst (λ (p : Option Rule). AfterCut i p cs ds) e a in
    let same : length (rules_of ds) ≡ length (rules_of cs) = b.counted in
    record {
      table = subst IsTable (sym a.rules) (table-without i (rules_of cs) k.table);
      fit = fit-without i (rules_of cs) (rules_of ds) a.rules k.fit;
      counted = k.counted ∙ sym same;
      few = (let g = k.few in omega arith);
      none_empty = none;
    }

pub slice-few : (m : Matching) (cs es ds fs : List Shared) (n : ℕ) → IsKept cs n → rules_of ds ≡ slice m (rules_of es) → es ≡ cs → fs ≡ ds → length (rules_of fs) < 2 ^ 32
slice-few m cs es ds fs n k e f g =
    let short = filter-short (λ r. overlaps m r.matching) (rules_of cs) in
    let same : length (rules_of fs) ≡ length (slice m (rules_of cs)) = ap (λ (xs : List Shared). length (rules_of xs)) g ∙ ap length (e ∙ ap (λ (xs : List Shared). slice m (rules_of xs)) f) in
    let h = k.few in
    omega arith

pub kept-slice : (m : Matching) (cs es ds fs : List Shared) (n k : ℕ) → IsKept cs n → rules_of ds ≡ slice m (rules_of es) → es ≡ cs → fs ≡ ds → k ≡ length (rules_of fs) → NoneEmpty ds → IsKept ds k
kept-slice m cs es ds fs n k kept e f g h none =
    let is : rules_of ds ≡ slice m (rules_of cs) = e ∙ ap (λ (xs : List Shared). slice m (rules_of xs)) f in
    record {
      table = subst IsTable (sym is) (table-filter (λ r. overlaps m r.matching) (rules_of cs) kept.table);
      fit = subst (λ (t : List Rule). AllActionsFit t) (sym is) (fit-filter (λ r. overlaps m r.matching) (rules_of cs) kept.fit);
      counted = h ∙ ap (λ (xs : List Shared). length (rules_of xs)) g;
      few = slice-few m cs es ds ds n kept e f refl;
      none_empty = none;
    }

pub place-within : (i : Identity) (cs ds es : List Shared) (t : List Rule) (at n k : ℕ) (b : Bool) → k ≡ place_in ds at n → ds ≡ cs → es ≡ cs → IsSpot i es at n b → rules_of cs ≡ t → k ≤ length t
place-within i cs ds es t at n k b e f g s v =
    let le = spot-le i es at n b s in
    let same : k ≡ place_in es at n = e ∙ ap (λ (xs : List Shared). place_in xs at n) (f ∙ sym g) in
    let len : length (rules_of es) ≡ length t = ap (λ (xs : List Shared). length (rules_of xs)) g ∙ ap length v in
    omega arith

pub place-is-there : (q : ℕ) (m : Matching) (p : ℕ) (cs ds es : List Shared) (t : List Rule) (at n k : ℕ) (b : Bool) → IsTable (rules_of cs) → q ≡ effective m p → ds ≡ cs → es ≡ cs
    → IsSpot (record { rank = q; matching = m }) ds at n b → b ≡ true → k ≡ place_in es at n → rules_of cs ≡ t → Some k ≡ position (λ r. same_identity (identity_of r) (identity m p)) t
place-is-there q m p cs ds es t at n k b table e f g s y h v =
    ap Some (h ∙ ap (λ (xs : List Shared). place_in xs at n) g)
    ∙ (place-there (identity m p) cs at n b table (spot-turned q m p cs ds at n b e f s) y ∙ ap (position (λ r. same_identity (identity_of r) (identity m p))) v)

pub place-is-missing : (q : ℕ) (m : Matching) (p : ℕ) (cs ds : List Shared) (t : List Rule) (at n : ℕ) (b : Bool) → IsTable (rules_of cs) → IsNormal m → q ≡ effective m p → ds ≡ cs
    → IsSpot (record { rank = q; matching = m }) ds at n b → b ≡ false → rules_of cs ≡ t → None ≡ position (λ r. same_identity (identity_of r) (identity m p)) t
place-is-missing q m p cs ds t at n b table normal e f s y v =
    place-missing (identity m p) cs at n b table normal (spot-turned q m p cs ds at n b e f s) y ∙ ap (position (λ r. same_identity (identity_of r) (identity m p))) v

pub stands-there : (q : ℕ) (m : Matching) (p n k : ℕ) (cs ds : List Shared) (t : List Rule) (r : Rule) (b : Bool) → q ≡ effective m p → ds ≡ cs → rules_of cs ≡ t → k ≡ length (rules_of cs) → n < k
    → r ≡ get_or (rules_of ds) n r → b ≡ same_identity (identity_of r) (record { rank = q; matching = m }) → b ≡ stands_at (identity m p) n t
stands-there q m p n k cs ds t r b e f v c lt g h =
    let same : (let x : Identity = record { rank = q; matching = m } in x) ≡ identity m p = ap (λ (x : ℕ). let y : Identity = record { rank = x; matching = m } in y) e in
    let is : rules_of ds ≡ t = ap rules_of f ∙ v in
    let len : length (rules_of cs) ≡ length t = ap length v in
    h ∙ (ap (same_identity (identity_of r)) same ∙ sym (stands-at-read (identity m p) t n r (omega arith) (g ∙ ap (λ (u : List Rule). get_or u n r) is)))

pub stands-nowhere : (m : Matching) (p n k : ℕ) (cs : List Shared) (t : List Rule) → rules_of cs ≡ t → k ≡ length (rules_of cs) → k ≤ n → nat_lt n k ≡ stands_at (identity m p) n t
stands-nowhere m p n k cs t v c le =
    let len : length (rules_of cs) ≡ length t = ap length v in
    le-ltb n k le ∙ sym (stands-past (identity m p) t n (omega arith))
