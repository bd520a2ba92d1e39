-- The armed sessions that a core shows.
use Rattle.std.proofs.Common.{◌≡◌, ℕ, zero, suc, ◌+◌, ◌<◌, ◌≤◌, Bool, true, false, cond, List, [], ◌∷◌, ◌++◌, length, take, Some, refl, sym, ap, subst, ◌∙◌, inl, inr, add-zero, zero-add, add-one, arith}
use Rattle.std.specs.Prelude.{slice_get}
use Rattle.std.proofs.lemmas.Option.{slice_get_cases}
use Rattle.std.proofs.lemmas.List.{take_more, take_all, length-take-le}
use Rattle.mon_table.specs.declared.rule.Rule.{Rule}
use Rattle.mon_world.specs.declared.history.Entry.{Entry}
use Rattle.mon_core.specs.History.{Sides, fresh, session_at, sessions, LegalSoFar, Named, armed, armed_from}
use Rattle.mon_core.specs.Streams.{has_ended, expected, armed_below, armed_in}
use Rattle.mon_core.proofs.Ending.{ended-is, opened-in}
use Rattle.mon_core.proofs.Passing.{table-is}

-- none is left once all sessions were looked at
pub all-seen : (core rest : List Sides) (n ahead place : ℕ) → rest ≡ [] → slice_get (armed_from n rest) ahead ≡ slice_get (armed core) place → length (armed core) ≤ place
all-seen core rest n ahead place none same =
    elim (slice_get_cases (armed core) place).1 as (λ _. length (armed core) ≤ place) [
      | inl there ↦ absurd (let e : slice_get (armed_from n []) ahead ≡ Some there.0 = subst (λ (r : List Sides). slice_get (armed_from n r) ahead ≡ Some there.0) none (same ∙ there.2) in cc)
      | inr past ↦ past.0
    ]

-- an element more at the end, behind one that may stand before
behind : {A : Type 0} (p q : Bool) (x y : A) (xs all : List A) → all ≡ cond q xs (xs ++ y ∷ []) → cond p all (x ∷ all) ≡ cond q (cond p xs (x ∷ xs)) (cond p xs (x ∷ xs) ++ y ∷ [])
behind true true x y xs all e = e
behind true false x y xs all e = e
behind false true x y xs all e = ap (λ (l : List _). x ∷ l) e
behind false false x y xs all e = ap (λ (l : List _). x ∷ l) e

-- one session more
armed-more : (n : ℕ) (core : List Sides) (s : Sides) → armed_from n (core ++ s ∷ []) ≡ cond s.ended (armed_from n core) (armed_from n core ++ (n + length core, s.table) ∷ [])
armed-more n [] s = rw (add-zero n) refl
armed-more n (x ∷ core) s =
    let e = armed-more (suc n) core s in
    let same : suc n + length core ≡ n + suc (length core) = omega arith in
    let e' : armed_from (suc n) (core ++ s ∷ []) ≡ cond s.ended (armed_from (suc n) core) (armed_from (suc n) core ++ (n + suc (length core), s.table) ∷ []) =
    subst (λ (k : ℕ). armed_from (suc n) (core ++ s ∷ []) ≡ cond s.ended (armed_from (suc n) core) (armed_from (suc n) core ++ (k, s.table) ∷ [])) same e in
    behind x.ended s.ended (n, x.table) (n + suc (length core), s.table) (armed_from (suc n) core) (armed_from (suc n) (core ++ s ∷ [])) e'

armed-up-to : (h : List Entry) → Named h → LegalSoFar h → (n : ℕ) → n ≤ length (sessions h) → armed (take n (sessions h)) ≡ armed_below n h
armed-up-to h named legal zero within = refl
armed-up-to h named legal (suc n) within =
    let core = sessions h in
    let s = session_at core n in
    let before : armed (take n core) ≡ armed_below n h = armed-up-to h named legal n (omega arith) in
    let lt : n < length core = omega arith in
    let few : length (take n core) ≡ n = length-take-le n core (omega arith) in
    let more : take (suc n) core ≡ take n core ++ s ∷ [] = ap (λ (k : ℕ). take k core) (sym (add-one n)) ∙ take_more core n fresh lt in
    let split : armed (take n core ++ s ∷ []) ≡ cond s.ended (armed (take n core)) (armed (take n core) ++ (n, s.table) ∷ []) =
    armed-more 0 (take n core) s ∙ ap (λ (k : ℕ). cond s.ended (armed (take n core)) (armed (take n core) ++ (k, s.table) ∷ [])) (zero-add (length (take n core)) ∙ few) in
    ap armed more ∙ split
    ∙ ap (λ (b : Bool). cond b (armed (take n core)) (armed (take n core) ++ (n, s.table) ∷ [])) (ended-is n h named legal)
    ∙ ap (λ (t : List Rule). cond (has_ended n h) (armed (take n core)) (armed (take n core) ++ (n, t) ∷ [])) (table-is n h named legal)
    ∙ ap (λ (xs : List (ℕ × List Rule)). cond (has_ended n h) xs (xs ++ (n, expected n h) ∷ [])) before

pub armed-is : (h : List Entry) → Named h → LegalSoFar h → armed (sessions h) ≡ armed_in h
armed-is h named legal =
    ap armed (sym (take_all (length (sessions h)) (sessions h) (omega arith)))
    ∙ armed-up-to h named legal (length (sessions h)) (omega arith)
    ∙ ap (λ (n : ℕ). armed_below n h) (opened-in h)
