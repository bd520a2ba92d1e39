-- A FLOW_REMOVED makes of a session what its kind says.
use Rattle.std.specs.Prelude.{◌≡◌, ℕ, zero, suc, ◌+◌, ◌<◌, ◌≤◌, Bool, true, false, not, ◌==◌, ◌&&◌, List, [], ◌∷◌, length, take, drop, find, slice_index_or, Option, Some, None, is_some, refl}
use Rattle.std.specs.List.{position, position_or_len}
use Rattle.std.proofs.Common.{cond, ap, sym, ◌∙◌, subst, arith}
use Rattle.std.proofs.lemmas.Grind.{common_steps}
use Rattle.std.proofs.lemmas.List.Sums.{fails_before_first}
use Rattle.std.proofs.Math.Bool.{and-false}
use Rattle.std.proofs.lemmas.Bool.{false≢true}
use Rattle.std.proofs.lemmas.List.Quantifiers.{position-Some}
use Rattle.mon_table.specs.declared.rule.Rule.{Rule}
use Rattle.mon_table.specs.Rules.{Identity, identity, identity_of, same_identity}
use Rattle.mon_table.specs.Tables.{rule_of, without}
use Rattle.mon_table.specs.Edits.{after}
use Rattle.mon_table.proofs.Identities.{same-is}
use Rattle.mon_legal.specs.Edits.{Passed, unsure_at, is_guarded}
use Rattle.of_frame.specs.Header.{kind_of}
use Rattle.mon_legal.specs.Runs.{Run}
use Rattle.mon_legal.specs.Owns.{Own}
use Rattle.mon_legal.specs.Owns.Own.{From_switch, Sends}
use Rattle.mon_world.specs.declared.event.Side.TheVariants.{Controller}
use Rattle.mon_header.specs.Matching.{Matching}
use Rattle.mon_fields.specs.Fields.{number_at}
use Rattle.of_match.specs.Layout.{match_of}
use Rattle.mon_legal.specs.Messages.{is_error, is_features_reply, is_barrier_reply, is_vanished, identity_gone}
use Rattle.mon_session.specs.Now.{Now, step, tells, vanishing_at}
use Rattle.mon_session.specs.Walks.{Known, takes, walks}
use Rattle.mon_session.specs.Entering.{greets, loses, vanishing, vanishes}
use Rattle.mon_session.specs.Entries.{with_now}
use Rattle.mon_session.proofs.Framed.{no-reply, same-known, rejects-none, or-false}

find-first : {A : Type 0} (p : A → Bool) (xs : List A) (i : ℕ) (d : A) → i < length xs → p (slice_index_or xs i d) ≡ true
    → ((k : ℕ) → k < i → p (slice_index_or xs k d) ≡ false) → find p xs ≡ Some (slice_index_or xs i d)
find-first p [] i d lt e f = absurd (omega (arith, lt))
find-first p (x ∷ xs) zero d lt e f = rw e refl
find-first p (x ∷ xs) (suc i) d lt e f =
    let none : p x ≡ false = f 0 (omega arith) in
    let less : i < length xs = omega (arith, lt) in
    rw none (find-first p xs i d less e (λ k lt. f (suc k) (omega (arith, lt))))

pub found_at : {A : Type 0} (p : A → Bool) (xs : List A) (i : ℕ) (d : A) → position p xs ≡ Some i → find p xs ≡ Some (slice_index_or xs i d)
found_at p xs i d e =
    let at = position-Some p xs i d e in
    find-first p xs i d at.0 at.1 at.2

-- and where none passes there is none
none-found : {A : Type 0} (p : A → Bool) (xs : List A) (d : A) → ((k : ℕ) → k < length xs → p (slice_index_or xs k d) ≡ false) → find p xs ≡ None
none-found p [] d f = refl
none-found p (x ∷ xs) d f =
    let none : p x ≡ false = f 0 (omega arith) in
    rw none (none-found p xs d (λ k lt. f (suc k) (omega (arith, lt))))

past-end : {A : Type 0} (p : A → Bool) (xs : List A) → position p xs ≡ None → length xs ≤ position_or_len p xs
past-end p xs e = grind (arith, common_steps)

pub found_none : {A : Type 0} (p : A → Bool) (xs : List A) → position p xs ≡ None → find p xs ≡ None
found_none p [] e = refl
found_none p (x ∷ xs) e =
    let all : length (x ∷ xs) ≤ position_or_len p (x ∷ xs) = past-end p (x ∷ xs) e in
    none-found p (x ∷ xs) x (λ k lt. fails_before_first p (x ∷ xs) k x (omega (arith, lt, all)))

-- what is found passes
found-passes : {A : Type 0} (p : A → Bool) (xs : List A) (r : A) → find p xs ≡ Some r → p r ≡ true
found-passes p [] r e = absurd (let g : None ≡ Some r = e in cc)
found-passes p (x ∷ xs) r e =
    elim (p x) as (λ b. p x ≡ b → cond b (Some x) (find p xs) ≡ Some r → p r ≡ true) [
      | true ↦ λ y f.
          let same : x ≡ r = cc in
          subst (λ q. p q ≡ true) same y
      | false ↦ λ y f. found-passes p xs r f
    ] refl e

-- an entry that vanishes
gone-is : (i : Identity) (edits : List Passed) (guards : List (Option Identity)) (found : Option Rule) → is_some (unsure_at i edits guards found) ≡ true
    → (r : Rule) × (found ≡ Some r) × (unsure_at i edits guards found ≡ Some r)
gone-is i edits guards None e = absurd (false≢true e)
gone-is i edits guards (Some r) e =
    elim (r.unsure && not (is_guarded i edits guards)) as (λ b. is_some (cond b (Some r) None) ≡ true → (q : Rule) × (Some r ≡ Some q) × (cond b (Some r) None ≡ Some q)) [
      | true ↦ λ f. (r, refl, refl)
      | false ↦ λ f. absurd (false≢true f)
    ] e

pub vanished_one : (i : Identity) (edits : List Passed) (guards : List (Option Identity)) (k : Known) → is_some (unsure_at i edits guards (rule_of i k.now.table)) ≡ true
    → with_now k (vanishes (unsure_at i edits guards (rule_of i k.now.table)) k.now) ≡ with_now k (record k.now { table = without i k.now.table; version = k.now.version + 1 })
unfolding after
vanished_one i edits guards k e =
    let g = gone-is i edits guards (rule_of i k.now.table) e in
    let own : identity_of g.0 ≡ i = same-is (identity_of g.0) i (found-passes (λ r. same_identity (identity_of r) i) k.now.table g.0 g.1) in
    ap (λ (o : Option Rule). with_now k (vanishes o k.now)) g.2
    ∙ ap (λ (j : Identity). with_now k (record k.now { table = without j k.now.table; version = k.now.version + 1 })) own

none-if : (o : Option Rule) → is_some o ≡ false → o ≡ None
none-if None e = refl
none-if (Some r) e = absurd (false≢true (sym e))

pub vanished_none : (i : Identity) (edits : List Passed) (guards : List (Option Identity)) (k : Known) → is_some (unsure_at i edits guards (rule_of i k.now.table)) ≡ false
    → with_now k (vanishes (unsure_at i edits guards (rule_of i k.now.table)) k.now) ≡ k
vanished_none i edits guards k e = ap (λ (o : Option Rule). with_now k (vanishes o k.now)) (none-if (unsure_at i edits guards (rule_of i k.now.table)) e)

as-removal : (run : Run) (n : Now) (frame others : List ℕ) → kind_of frame ≡ 11 → step run n (From_switch frame others) ≡ loses frame n
as-removal run n frame others k =
    let e6 : is_features_reply frame ≡ false = ap (λ (x : ℕ). x == 6) k in
    let e1 : is_error frame ≡ false = ap (λ (x : ℕ). x == 1) k in
    let e19 : is_barrier_reply frame ≡ false = ap (λ (x : ℕ). x == 19) k in
    let none = rejects-none frame n.unsettled e1 in
    let r = no-reply n frame e6 in
    let kn = same-known n frame others e6 in
    elim (tells n frame) as (λ b. tells n frame ≡ b → step run n (From_switch frame others) ≡ loses frame n) [
      | true ↦ λ t. rw r (rw kn (rw t (rw e19 (rw none (rw (or-false n.armed) refl)))))
      | false ↦ λ t. rw r (rw kn (rw t (rw e19 (rw none (rw (or-false n.armed) refl)))))
    ] refl

pub as_removal : (run : Run) (k : Known) (frame others : List ℕ) (os : List Own) → kind_of frame ≡ 11
    → walks run k (From_switch frame others ∷ os) ≡ walks run (with_now k (loses frame k.now)) os
as_removal run k frame others os kind = ap (λ (n : Now). walks run (with_now k n) os) (as-removal run k.now frame others kind)

-- an entry goes from the table, and the version rises
pub vanish_is : (i : Identity) (edits : List Passed) (guards : List (Option Identity)) (k view raised : Known) (t : List Rule) → view ≡ raised
    → raised ≡ with_now k (record k.now { version = k.now.version + 1 }) → t ≡ without i view.now.table → is_some (unsure_at i edits guards (rule_of i k.now.table)) ≡ true
    → with_now view (record view.now { table = t }) ≡ with_now k (vanishes (unsure_at i edits guards (rule_of i k.now.table)) k.now)
vanish_is i edits guards k view raised t v r c e =
    ap (λ (u : List Rule). with_now view (record view.now { table = u })) c
    ∙ (ap (λ (x : Known). with_now x (record x.now { table = without i x.now.table })) (v ∙ r) ∙ sym (vanished_one i edits guards k e))

-- what the frame tells
quiet-walk : (k : Known) (frame : List ℕ) → tells k.now frame ≡ false → with_now k (vanishes (vanishing k.now frame) k.now) ≡ k
quiet-walk k frame t = rw t refl

pub unarmed_tells : (k : Known) (frame : List ℕ) → k.now.armed ≡ false → with_now k (vanishes (vanishing k.now frame) k.now) ≡ k
unarmed_tells k frame a = quiet-walk k frame (ap (λ (b : Bool). is_vanished frame && b) a ∙ and-false (is_vanished frame))

pub other_tells : (k : Known) (frame : List ℕ) → is_vanished frame ≡ false → with_now k (vanishes (vanishing k.now frame) k.now) ≡ k
other_tells k frame v = quiet-walk k frame (ap (λ (b : Bool). b && k.now.armed) v)

pub lost_at : (k : Known) (frame bytes : List ℕ) (m : Matching) (priority : ℕ) → k.now.armed ≡ true → is_vanished frame ≡ true → bytes ≡ frame
    → m ≡ match_of (take 40 (drop 8 bytes)) → priority ≡ number_at 2 56 bytes
    → with_now k (vanishes (unsure_at (identity m priority) k.now.unsettled k.now.guards (rule_of (identity m priority) k.now.table)) k.now)
    ≡ with_now k (vanishes (vanishing k.now frame) k.now)
lost_at k frame bytes m priority a v b f p =
    let told : tells k.now frame ≡ true = ap (λ (x : Bool). x && k.now.armed) v ∙ a in
    let same : identity m priority ≡ identity_gone frame =
    ap (λ (x : Matching). identity x priority) (f ∙ ap (λ (ys : List ℕ). match_of (take 40 (drop 8 ys))) b)
    ∙ ap (λ (x : ℕ). identity (match_of (take 40 (drop 8 frame))) x) (p ∙ ap (number_at 2 56) b) in
    ap (λ (i : Identity). with_now k (vanishes (unsure_at i k.now.unsettled k.now.guards (rule_of i k.now.table)) k.now)) same
    ∙ ap (λ (x : Bool). with_now k (vanishes (vanishing_at x (identity_gone frame) k.now.guards k.now.unsettled k.now.table) k.now)) (sym told)

-- the whole frame
pub removal_walk : (run : Run) (k g l m : Known) (frame others : List ℕ) → kind_of frame ≡ 11 → g ≡ with_now k (greets k.now)
    → l ≡ with_now g (vanishes (vanishing g.now frame) g.now) → m ≡ takes run l (Sends Controller frame false)
    → m ≡ walks run k (From_switch frame others ∷ Sends Controller frame false ∷ [])
removal_walk run k g l m frame others kind e v w =
    w ∙ (ap (λ (x : Known). takes run x (Sends Controller frame false)) (v ∙ ap (λ (x : Known). with_now x (vanishes (vanishing x.now frame) x.now)) e)
    ∙ sym (as_removal run k frame others (Sends Controller frame false ∷ []) kind))
