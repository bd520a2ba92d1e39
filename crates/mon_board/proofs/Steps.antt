-- Each step keeps the rule of the board.
use Rattle.std.proofs.Common.{◌≡◌, ◌≢◌, ℕ, zero, suc, ◌<◌, ◌≤◌, ◌⊎◌, ◌&&◌, ◌||◌, Bool, true, false, true≢false, eqb, eq-eqb, ne_eqb, if◌then◌else◌, List, [], ◌∷◌, ◌++◌, length, replicate, set, slice_index, sym, refl, ap, ◌∙◌, subst, inl, inr, ⊎_elim, le_refl, le_trans}
use Rattle.std.proofs.lemmas.Bool.{eqb-true}
use Rattle.std.proofs.lemmas.List.{get_or-set_same, get_or-set_other, set-get_or}
use mathlib.Core.Option.{some, some-ne-none}
use Rattle.std.proofs.Math.ListN.{length-set}
use mathlib.Core.Logic.{dite}
use native.Mathlib.Decide.{ℕ_discrete}
use lib.ListN.{get_elem?}
use Rattle.atomic_table.specs.Table.{Allows, Splits, Joins, Me, keeps, opening}
use Rattle.atomic_table.proofs.Lists.{at_set, at_snoc, set_again}
use Rattle.mon_board.specs.declared.rule.View.{View}
use Rattle.mon_board.specs.Rule.{view, Fits, Holds}
use Rattle.mon_board.specs.Versions.{Marks, has, Has, last, last_from, Published, AllPublished, NoneAbove}

or_cases : (a b : Bool) → (a || b) ≡ true → (a ≡ true) ⊎ (b ≡ true)
or_cases true b h = inl refl
or_cases false b h = inr h

or_left : (a b : Bool) → a ≡ true → (a || b) ≡ true
or_left true b h = refl
or_left false b h = absurd (true≢false (sym h))

or_right : (a b : Bool) → b ≡ true → (a || b) ≡ true
or_right true b h = refl
or_right false b h = h

pub and_both : (a b : Bool) → a ≡ true → b ≡ true → (a && b) ≡ true
and_both true b h i = i
and_both false b h i = absurd (true≢false (sym h))

pub and_first : (a b : Bool) → (a && b) ≡ true → a ≡ true
and_first true b h = refl
and_first false b h = absurd (true≢false (sym h))

pub and_second : (a b : Bool) → (a && b) ≡ true → b ≡ true
and_second true b h = h
and_second false b h = absurd (true≢false (sym h))

pub has_here : (p : ℕ × ℕ) (ps : Marks) (slot version : ℕ) → p.0 ≡ slot → p.1 ≡ version → Has (p ∷ ps) slot version
has_here p ps slot version a b = or_left (eqb p.0 slot && eqb p.1 version) (has ps slot version) (and_both (eqb p.0 slot) (eqb p.1 version) (eq-eqb p.0 slot a) (eq-eqb p.1 version b))

has_there : (p : ℕ × ℕ) (ps : Marks) (slot version : ℕ) → Has ps slot version → Has (p ∷ ps) slot version
has_there p ps slot version h = or_right (eqb p.0 slot && eqb p.1 version) (has ps slot version) h

pub has_first : (p : ℕ × ℕ) (ps : Marks) (slot version : ℕ) → Has (p ∷ ps) slot version → ((p.0 ≡ slot) × (p.1 ≡ version)) ⊎ Has ps slot version
has_first p ps slot version h = ⊎_elim
    (λ (x : (eqb p.0 slot && eqb p.1 version) ≡ true). inl (eqb-true p.0 slot (and_first (eqb p.0 slot) (eqb p.1 version) x), eqb-true p.1 version (and_second (eqb p.0 slot) (eqb p.1 version) x)))
    (λ x. inr x) (or_cases (eqb p.0 slot && eqb p.1 version) (has ps slot version) h)

pub has_left : (ps qs : Marks) (slot version : ℕ) → Has ps slot version → Has (ps ++ qs) slot version
has_left [] qs slot version h = absurd (true≢false (sym h))
has_left (p ∷ ps) qs slot version h = ⊎_elim (λ (x : (p.0 ≡ slot) × (p.1 ≡ version)). has_here p (ps ++ qs) slot version x.0 x.1) (λ x. has_there p (ps ++ qs) slot version (has_left ps qs slot version x)) (has_first p ps slot version h)

pub has_right : (ps qs : Marks) (slot version : ℕ) → Has qs slot version → Has (ps ++ qs) slot version
has_right [] qs slot version h = h
has_right (p ∷ ps) qs slot version h = has_there p (ps ++ qs) slot version (has_right ps qs slot version h)

pub has_either : (ps qs : Marks) (slot version : ℕ) → Has (ps ++ qs) slot version → Has ps slot version ⊎ Has qs slot version
has_either [] qs slot version h = inr h
has_either (p ∷ ps) qs slot version h = ⊎_elim (λ (x : (p.0 ≡ slot) × (p.1 ≡ version)). inl (has_here p ps slot version x.0 x.1))
    (λ x. ⊎_elim (λ y. inl (has_there p ps slot version y)) (λ y. inr y) (has_either ps qs slot version x)) (has_first p (ps ++ qs) slot version h)

-- the last of a list that is one longer
pub last_from_here : (d : ℕ) (ps : Marks) (slot version : ℕ) → last_from d (ps ++ (slot, version) ∷ []) slot ≡ version
last_from_here d [] slot version = ap (λ (b : Bool). if b then version else d) (eq-eqb slot slot refl)
last_from_here d (p ∷ ps) slot version = last_from_here (if eqb p.0 slot then p.1 else d) ps slot version

pub last_from_else : (d : ℕ) (ps : Marks) (slot version other : ℕ) → slot ≢ other → last_from d (ps ++ (slot, version) ∷ []) other ≡ last_from d ps other
last_from_else d [] slot version other ne = ap (λ (b : Bool). if b then version else d) (ne_eqb slot other ne)
last_from_else d (p ∷ ps) slot version other ne = last_from_else (if eqb p.0 other then p.1 else d) ps slot version other ne

-- the last is in the list, or is what the list began from
last_from_has : (d : ℕ) (ps : Marks) (slot : ℕ) → (last_from d ps slot ≡ d) ⊎ Has ps slot (last_from d ps slot)
last_from_has d [] slot = inl refl
last_from_has d (p ∷ ps) slot = dite (ℕ_discrete p.0 slot)
    (λ e. let is : (if eqb p.0 slot then p.1 else d) ≡ p.1 = ap (λ (b : Bool). if b then p.1 else d) (eq-eqb p.0 slot e) in
    ⊎_elim (λ same. inr (has_here p ps slot (last_from (if eqb p.0 slot then p.1 else d) ps slot) e (sym (same ∙ is)))) (λ x. inr (has_there p ps slot (last_from (if eqb p.0 slot then p.1 else d) ps slot) x)) (last_from_has (if eqb p.0 slot then p.1 else d) ps slot))
    (λ ne. let is : (if eqb p.0 slot then p.1 else d) ≡ d = ap (λ (b : Bool). if b then p.1 else d) (ne_eqb p.0 slot ne) in
    ⊎_elim (λ same. inl (same ∙ is)) (λ x. inr (has_there p ps slot (last_from (if eqb p.0 slot then p.1 else d) ps slot) x)) (last_from_has (if eqb p.0 slot then p.1 else d) ps slot))

pub last_published : (ps : Marks) (slot : ℕ) → Published ps slot (last ps slot)
last_published ps slot = last_from_has 0 ps slot

-- views in which one seat's view is another
views_set : (log log' : Marks) (writer : ℕ) (views : List View) (seat : ℕ) (w : View) → Fits log' writer seat w
    → ((j : ℕ) (u : View) → j ≢ seat → Fits log writer j u → Fits log' writer j u)
    → ((j : ℕ) (u : View) → get_elem? views j ≡ some u → Fits log writer j u)
    → (j : ℕ) (u : View) → get_elem? (set views seat w) j ≡ some u → Fits log' writer j u
views_set log log' writer views seat w mine others all j u e =
    ⊎_elim (λ (x : (j ≡ seat) × (w ≡ u)). subst (λ (y : ℕ × View). Fits log' writer y.0 y.1) (λ i. (sym x.0 i, x.1 i)) mine)
    (λ (x : (j ≢ seat) × (get_elem? views j ≡ some u)). others j u x.0 (all j u x.1)) (at_set views seat j w u e)

-- a load tells the last version of the slot
pub looks : (key slots seat : ℕ) (me : Me (Unit {0}) View) (slot : ℕ)
    → Allows (Holds key) slots seat me slot (λ n. n) (λ n w. (w.1 ≡ me.1) × (w.0 ≡ view me.0.writes me.0.published (me.0.seen ++ (slot, n) ∷ [])) × NoneAbove me.0.seen slot n)
looks key slots seat me slot s h homes at fits =
    let v : View = me.0 in
    let kept = h.1 in
    let n : ℕ = slice_index s.words slot in
    let log : Marks = kept.1 in
    let mine : Fits log kept.0 seat v = kept.3 seat v at in
    let is : n ≡ last log slot = kept.2 slot in
    let w : View = view v.writes v.published (v.seen ++ (slot, n) ∷ []) in
    let now : (k x : ℕ) → Has (v.seen ++ (slot, n) ∷ []) k x → Published log k x × (x ≤ last log k) =
    (λ k x has. ⊎_elim (λ (old : Has v.seen k x). mine.1 k x old)
    (λ (new : Has ((slot, n) ∷ []) k x). ⊎_elim
    (λ (e : (slot ≡ k) × (n ≡ x)). subst (λ (y : ℕ). Published log k y × (y ≤ last log k)) (ap (last log) (sym e.0) ∙ (sym is ∙ e.1)) (last_published log k, le_refl (last log k)))
    (λ (no : Has [] k x). absurd (true≢false (sym no))) (has_first (slot, n) [] k x new))
    (has_either v.seen ((slot, n) ∷ []) k x has)) in (
      w,
      keeps,
      tt,
      (
        simp length-set h.0,
        (
          kept.0,
          log,
          (λ k. rw (set-get_or s.words slot 0) (kept.2 k)),
          views_set log log kept.0 s.views seat w (mine.0, now) (λ j u _ f. f) kept.3,
        ),
      ),
      (refl, refl, λ old has. subst (λ (y : ℕ). old ≤ y) (sym is) ((mine.1 slot old has).1)),
    )

-- a load that shows the writer that what its seat saw was published
pub shows : (key slots seat : ℕ) (me : Me (Unit {0}) View) (slot : ℕ) → me.0.writes ≡ true
    → Allows (Holds key) slots seat me slot (λ n. n) (λ n w. (w ≡ me) × AllPublished me.0.published me.0.seen)
shows key slots seat me slot may s h homes at fits =
    let v : View = me.0 in
    let kept = h.1 in
    let mine : Fits kept.1 kept.0 seat v = kept.3 seat v at in
    let whole : v.published ≡ kept.1 = (mine.0 may).1 in (
      v,
      keeps,
      tt,
      (
        simp length-set h.0,
        (
          kept.0,
          kept.1,
          (λ k. rw (set-get_or s.words slot 0) (kept.2 k)),
          views_set kept.1 kept.1 kept.0 s.views seat v mine (λ j u _ f. f) kept.3,
        ),
      ),
      (refl, λ k x has. subst (λ (l : Marks). Published l k x) (sym whole) ((mine.1 k x has).0)),
    )

published_longer : (ps qs : Marks) (slot version : ℕ) → Published ps slot version → Published (ps ++ qs) slot version
published_longer ps qs slot version p = ⊎_elim (λ e. inl e) (λ has. inr (has_left ps qs slot version has)) p

-- a version that is not below the last one keeps what each seat saw below the last
pub higher : (log : Marks) (slot version k x : ℕ) → last log slot ≤ version → x ≤ last log k → x ≤ last (log ++ (slot, version) ∷ []) k
higher log slot version k x up h = dite (ℕ_discrete slot k)
    (λ (e : slot ≡ k). let to : last (log ++ (slot, version) ∷ []) k ≡ version = subst (λ (j : ℕ). last (log ++ (slot, version) ∷ []) j ≡ version) e (last_from_here 0 log slot version) in
    let le : x ≤ version = le_trans (subst (λ (j : ℕ). x ≤ last log j) (sym e) h) up in subst (λ (y : ℕ). x ≤ y) (sym to) le)
    (λ (ne : slot ≢ k). subst (λ (y : ℕ). x ≤ y) (sym (last_from_else 0 log slot version k ne)) h)

word_after : (ws : List ℕ) (log : Marks) (slot version : ℕ) → slot < length ws → ((k : ℕ) → slice_index ws k ≡ last log k)
    → (k : ℕ) → slice_index (set ws slot version) k ≡ last (log ++ (slot, version) ∷ []) k
word_after ws log slot version room words k = dite (ℕ_discrete slot k)
    (λ (e : slot ≡ k). subst (λ (j : ℕ). slice_index (set ws slot version) j ≡ last (log ++ (slot, version) ∷ []) j) e
    (get_or-set_same ws slot version 0 room ∙ sym (last_from_here 0 log slot version)))
    (λ (ne : slot ≢ k). get_or-set_other ws slot k version 0 (λ e. ne (sym e)) ∙ (words k ∙ sym (last_from_else 0 log slot version k ne)))

-- a store of a version that is not below the last one
pub publishes : (key slots seat : ℕ) (me : Me (Unit {0}) View) (slot version : ℕ) → me.0.writes ≡ true → slot < key → last me.0.published slot ≤ version
    → Allows (Holds key) slots seat me slot (λ _. version) (λ _ w. (w.1 ≡ me.1) × (w.0 ≡ view me.0.writes (me.0.published ++ (slot, version) ∷ []) me.0.seen))
publishes key slots seat me slot version may within up s h homes at fits =
    let v : View = me.0 in
    let kept = h.1 in
    let log : Marks = kept.1 in
    let log' : Marks = log ++ (slot, version) ∷ [] in
    let mine : Fits log kept.0 seat v = kept.3 seat v at in
    let whole : v.published ≡ log = (mine.0 may).1 in
    let w : View = view v.writes (v.published ++ (slot, version) ∷ []) v.seen in
    let up' : last log slot ≤ version = subst (λ (l : Marks). last l slot ≤ version) whole up in
    let saw : (u : View) → ((k x : ℕ) → Has u.seen k x → Published log k x × (x ≤ last log k)) → (k x : ℕ) → Has u.seen k x → Published log' k x × (x ≤ last log' k) =
    (λ u old k x has. (published_longer log ((slot, version) ∷ []) k x (old k x has).0, higher log slot version k x up' (old k x has).1)) in (
      w,
      keeps,
      tt,
      (
        simp length-set h.0,
        (
          kept.0,
          log',
          word_after s.words log slot version (subst (λ (n : ℕ). slot < n) (sym h.0) within) kept.2,
          views_set log log' kept.0 s.views seat w
              ((λ _. ((mine.0 may).0, ap (λ (l : Marks). l ++ (slot, version) ∷ []) whole)), saw v mine.1)
              (λ j u other f. ((λ writes. absurd (other ((f.0 writes).0 ∙ sym (mine.0 may).0))), saw u f.1))
              kept.3,
        ),
      ),
      (refl, refl),
    )

-- a new seat that saw as much
pub splits : (key seat : ℕ) (v : View) → Splits (Holds key) seat v v (view false [] v.seen)
splits key seat v s h at =
    let kept = h.1 in
    let new : View = view false [] v.seen in
    let mine : Fits kept.1 kept.0 seat v = kept.3 seat v at in (
      h.0,
      (
        kept.0,
        kept.1,
        kept.2,
        λ j u e. ⊎_elim (λ (was : get_elem? (set s.views seat v) j ≡ some u). kept.3 j u (subst (λ (l : List View). get_elem? l j ≡ some u) (set_again s.views seat v at) was))
            (λ (is : new ≡ u). subst (λ (y : View). Fits kept.1 kept.0 j y) is ((λ no. absurd (true≢false (sym no))), mine.1)) (at_snoc (set s.views seat v) new u j e),
      ),
    )

-- a new seat that saw nothing
pub starts_blank : (key seat : ℕ) (v : View) → Splits (Holds key) seat v v (view false [] [])
starts_blank key seat v s h at =
    let kept = h.1 in
    let new : View = view false [] [] in (
      h.0,
      (
        kept.0,
        kept.1,
        kept.2,
        λ j u e. ⊎_elim (λ (was : get_elem? (set s.views seat v) j ≡ some u). kept.3 j u (subst (λ (l : List View). get_elem? l j ≡ some u) (set_again s.views seat v at) was))
            (λ (is : new ≡ u). subst (λ (y : View). Fits kept.1 kept.0 j y) is ((λ no. absurd (true≢false (sym no))), (λ k x none. absurd (true≢false (sym none)))))
            (at_snoc (set s.views seat v) new u j e),
      ),
    )

-- a seat that takes in what another saw
pub joins : (key seat : ℕ) (v : View) (other : ℕ) (w : View) → Joins (Holds key) seat v other w (view v.writes v.published (v.seen ++ w.seen)) (view false [] [])
joins key seat v other w s h at two at' =
    let kept = h.1 in
    let both : View = view v.writes v.published (v.seen ++ w.seen) in
    let mine : Fits kept.1 kept.0 seat v = kept.3 seat v at in
    let was : get_elem? s.views other ≡ some w = ⊎_elim (λ (x : (other ≡ seat) × (both ≡ w)). absurd (two x.0)) (λ (x : (other ≢ seat) × (get_elem? s.views other ≡ some w)). x.1) (at_set s.views seat other both w at') in
    let theirs : Fits kept.1 kept.0 other w = kept.3 other w was in
    let saw : (k x : ℕ) → Has (v.seen ++ w.seen) k x → Published kept.1 k x × (x ≤ last kept.1 k) =
    (λ k x has. ⊎_elim (λ (a : Has v.seen k x). mine.1 k x a) (λ (b : Has w.seen k x). theirs.1 k x b) (has_either v.seen w.seen k x has)) in (
      h.0,
      (
        kept.0,
        kept.1,
        kept.2,
        views_set kept.1 kept.1 kept.0 (set s.views seat both) other (view false [] []) ((λ no. absurd (true≢false (sym no))), λ k x no. absurd (true≢false (sym no))) (λ j u _ f. f)
            (views_set kept.1 kept.1 kept.0 s.views seat both (mine.0, saw) (λ j u _ f. f) kept.3),
      ),
    )

-- at the start nothing was published
pub begins : (ws : List ℕ) (slots : ℕ) → length ws ≡ slots → ((k : ℕ) → slice_index ws k ≡ 0) → Holds slots (opening ws [] (view true [] []))
begins ws slots len zeros = (
  len,
  (
    0,
    [],
    zeros,
    λ j u e. ⊎_elim (λ (x : (j ≡ 0) × (view true [] [] ≡ u)). subst (λ (y : ℕ × View). Fits [] 0 y.0 y.1) (λ i. (sym x.0 i, x.1 i)) ((λ _. (refl, refl)), λ k x no. absurd (true≢false (sym no))))
        (λ (x : (j ≢ 0) × (get_elem? (view true [] [] ∷ []) j ≡ some u)). absurd (alone (view true [] []) j u x.0 x.1)) (at_set (view true [] [] ∷ []) 0 j (view true [] []) u e),
  ),
)
  where
    alone : (v : View) (j : ℕ) (u : View) → j ≢ 0 → get_elem? (v ∷ []) j ≢ some u
    alone v zero u ne e = ne refl
    alone v (suc j) u ne e = some-ne-none u (sym e)

pub zeros : (n k : ℕ) → slice_index (replicate n 0) k ≡ 0
zeros zero k = refl
zeros (suc n) zero = refl
zeros (suc n) (suc k) = zeros n k
