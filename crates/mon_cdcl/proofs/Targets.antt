-- How far the trail goes back.
use Rattle.std.proofs.Common.{◌≡◌, ℕ, ◌+◌, ◌<◌, ◌≤◌, Bool, true, false, refl, sym, ap, ◌∙◌, subst, List, [], ◌∷◌, ◌++◌, length, get_or, set, Option, Some, None, MatchOption, ⊎_elim, suc, arith, length-append}
use Rattle.std.specs.Prelude.{slice_index_or}
use Rattle.std.proofs.Math.Seq.{get_or-append_seam}
use Rattle.std.proofs.lemmas.List.{append-nil, get_or_append_left, get_or-append-add}
use Rattle.std.proofs.lemmas.Bool.{cases_eq}
use Rattle.mon_cnf.specs.Formulas.{Cnf}
use Rattle.mon_refute.specs.declared.lines.LogLine.{LogLine}
use Rattle.mon_trail.specs.declared.look.Mark.{Mark}
use Rattle.mon_trail.specs.declared.look.Mark.TheVariants.{Free}
use Rattle.mon_trail.specs.declared.trail.Entry.{Entry}
use Rattle.mon_trail.specs.Trail.{Stands, clauses_with, is_forced}
use Rattle.mon_trail.proofs.Popping.{popped_of, was_more}
use Rattle.mon_trail.proofs.Trails.{freed}
use Rattle.mon_cdcl.specs.Seen.{is_seen}
use Rattle.mon_cdcl.specs.Back.{Asserts, AreUnseen, IsTarget, FellBack}
use Rattle.mon_cdcl.proofs.Walks.{assert_skip, back_stands}

-- what is found so far: the lowest decision from a place on, with the entry behind the others
abbrev pub Aim : List Entry → Entry → ℕ → Option ℕ → Type 0
Aim es e at None = is_forced e ≡ true
Aim es e at (Some len) = (at ≤ len) × (len ≤ length es) × (is_forced (slice_index_or (es ++ (e ∷ [])) len e) ≡ false)

pub record Aims (flags : List Bool) (es : List Entry) (e : Entry) (at : ℕ) (found : Option ℕ) : Type 0 where
  pub within : at ≤ length es
  pub unseen : (j : ℕ) → at ≤ j → j < length es → is_seen flags (slice_index_or es j e).literal.var ≡ false
  pub aim : Aim es e at found

not_forced : (e : Entry) → e.reason ≡ None → is_forced e ≡ false
not_forced e n = ap (λ r. elim r as (λ _. Bool) [ None ↦ false | Some h ↦ true ]) n

first_aim : (es : List Entry) (e : Entry) (found : Option ℕ) → MatchOption found (is_forced e ≡ true) (λ at. (at ≡ length es) × (e.reason ≡ None)) → Aim es e (length es) found
first_aim es e None m = m
first_aim es e (Some k) m = (
  omega arith,
  omega arith,
  ap (λ n. is_forced (get_or (es ++ (e ∷ [])) n e)) m.0 ∙ ap is_forced (get_or-append_seam es e [] e) ∙ not_forced e m.1,
)

pub aims_start : (flags : List Bool) (es : List Entry) (e : Entry) (n : ℕ) (found : Option ℕ) → n ≡ length es → MatchOption found (is_forced e ≡ true) (λ at. (at ≡ n) × (e.reason ≡ None)) → Aims flags es e n found
aims_start flags es e n found z m = record {
  within = omega arith;
  unseen = λ j a b. absurd (omega arith);
  aim = subst (λ k. Aim es e k found) (sym z) (first_aim es e found (subst (λ k. MatchOption found (is_forced e ≡ true) (λ at. (at ≡ k) × (e.reason ≡ None))) z m));
}

lower : (es : List Entry) (e : Entry) (at n : ℕ) (found : Option ℕ) → at ≡ n + 1 → Aim es e at found → Aim es e n found
lower es e at n None z a = a
lower es e at n (Some k) z a = (omega arith, a.1, a.2)

unseen_more : (flags : List Bool) (es : List Entry) (e : Entry) (at n : ℕ) → at ≡ n + 1 → is_seen flags (get_or es n e).literal.var ≡ false
    → ((j : ℕ) → at ≤ j → j < length es → is_seen flags (get_or es j e).literal.var ≡ false) → (j : ℕ) → n ≤ j → j < length es → is_seen flags (get_or es j e).literal.var ≡ false
unseen_more flags es e at n z h f j a b =
    ⊎_elim (λ (c : j ≡ n). ap (λ i. is_seen flags (get_or es i e).literal.var) c ∙ h) (λ (c : j ≡ n → ⊥). f j (omega arith) b) (cases_eq j n)

-- an entry that isn't seen, and was forced
pub aims_more : (flags : List Bool) (es : List Entry) (e here : Entry) (at n : ℕ) (found : Option ℕ) → at ≡ n + 1 → here ≡ get_or es n e → is_seen flags here.literal.var ≡ false → Aims flags es e at found → Aims flags es e n found
aims_more flags es e here at n found z y h a = record {
  within = (let w = a.within in omega arith);
  unseen = unseen_more flags es e at n z (ap (λ (x : Entry). is_seen flags x.literal.var) (sym y) ∙ h) a.unseen;
  aim = lower es e at n found z a.aim;
}

-- a decision that isn't seen
pub aims_decision : (flags : List Bool) (es : List Entry) (e here : Entry) (at n : ℕ) (found : Option ℕ) → at ≡ n + 1 → here ≡ get_or es n e → is_seen flags here.literal.var ≡ false → here.reason ≡ None → Aims flags es e at found → Aims flags es e n (Some n)
aims_decision flags es e here at n found z y h r a =
    let w : at ≤ length es = a.within in
    record {
      within = omega arith;
      unseen = unseen_more flags es e at n z (ap (λ (x : Entry). is_seen flags x.literal.var) (sym y) ∙ h) a.unseen;
      aim = (omega arith, omega arith, ap is_forced (get_or_append_left es (e ∷ []) e n (omega arith) ∙ sym y) ∙ not_forced here r);
    }

pub aims_end : (flags : List Bool) (es : List Entry) (e : Entry) (at : ℕ) (found : Option ℕ) → Aims flags es e at found → MatchOption found (is_forced e ≡ true) (IsTarget flags es e)
aims_end flags es e at None a = a.aim
aims_end flags es e at (Some len) a = (let m = a.aim in record { within = m.1; decided = m.2; unseen = λ j b c. a.unseen j (omega arith) c })

pub fell_none : (f : Cnf) (log : List LogLine) (es : List Entry) (marks : List Mark) → Stands f log es marks → FellBack f log es marks es marks (length es)
fell_none f log es marks s = record { stands = s; cut = []; was = sym (append-nil es); len_is = refl; asserts = λ flags hints a u b. b }

pub fell_pop : (f : Cnf) (log : List LogLine) (old : List Entry) (first : List Mark) (trail es : List Entry) (e : Entry) (marks : List Mark) (n : ℕ) → FellBack f log old first trail marks n → trail ≡ es ++ (e ∷ [])
    → FellBack f log old first es (set marks e.literal.var Free) (length es)
fell_pop f log old first trail es e marks n b t =
    let cs = clauses_with f log in
    let p = popped_of f log trail es e marks b.stands t in
    let q = sym (freed p.before marks e p.can.0 p.marks_are) in
    record {
      stands = back_stands f log trail es e marks b.stands p;
      cut = e ∷ b.cut;
      was = was_more old trail es b.cut e b.was t;
      len_is = refl;
      asserts = λ flags hints a u k.
          subst (λ ms. Asserts cs ms flags hints a) q (assert_skip cs p.before e.literal flags hints p.can.0 a u.0 (subst (λ ms. Asserts cs ms flags hints a) p.marks_are (b.asserts flags hints a u.1 k)));
    }

pub fell_end : (f : Cnf) (log : List LogLine) (old : List Entry) (first : List Mark) (es : List Entry) (marks : List Mark) (n len : ℕ) → FellBack f log old first es marks n → n ≡ len → FellBack f log old first es marks len
fell_end f log old first es marks n len b e = subst (FellBack f log old first es marks) e b

pub one_shorter : (trail es : List Entry) (e : Entry) (len : ℕ) → trail ≡ es ++ (e ∷ []) → len < length trail → len ≤ length es
one_shorter trail es e len t w = omega (arith, ap length t, length-append es (e ∷ []))

pub pop_smaller : (trail es : List Entry) (e : Entry) → trail ≡ es ++ (e ∷ []) → length es < length trail
pop_smaller trail es e t = omega (arith, ap length t, length-append es (e ∷ []))

-- what was cut off isn't seen
unseen_all : (flags : List Bool) (cut : List Entry) (e : Entry) → ((k : ℕ) → k < length cut → is_seen flags (get_or cut k e).literal.var ≡ false) → AreUnseen flags cut
unseen_all flags [] e f = tt
unseen_all flags (c ∷ cs) e f = (f 0 (omega arith), unseen_all flags cs e (λ k w. f (suc k) (omega arith)))

pub unseen_cut : (flags : List Bool) (es new cut : List Entry) (e : Entry) (len : ℕ) → es ≡ new ++ cut → length new ≡ len → IsTarget flags es e len → AreUnseen flags cut
unseen_cut flags es new cut e len w n t =
    unseen_all flags cut e (λ k h.
    let x : get_or es (length new + k) e ≡ get_or cut k e = ap (λ xs. get_or xs (length new + k) e) w ∙ get_or-append-add new cut k e in
    let y : length es ≡ length new + length cut = ap length w ∙ length-append new cut in
    ap (λ (i : Entry). is_seen flags i.literal.var) (sym x) ∙ t.unseen (length new + k) (omega arith) (omega arith))
