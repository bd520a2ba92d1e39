-- What one table shows and another does not.
use Rattle.std.proofs.Common.{◌≡◌, ℕ, Bool, true, false, not, cond, ◌&&◌, ◌||◌, List, [], ◌∷◌, Some, None, refl, sym, ap, ap₂, subst, ◌∙◌, inl, inr, ⊎_elim}
use Rattle.std.specs.Prelude.{nat_le}
use Rattle.std.specs.List.{list_any}
use Rattle.std.proofs.lemmas.Bool.{and_parts, and_from, or_left, or_right, or_cases, cases_Bool, not_from_false, false≢true}
use Rattle.mon_list.specs.Has.{Has}
use Rattle.mon_header.specs.declared.header.Header.{Header}
use Rattle.mon_header.specs.declared.action.Action.{Action}
use Rattle.mon_header.specs.Matching.{matches}
use Rattle.mon_table.specs.declared.rule.Rule.{Rule}
use Rattle.mon_table.specs.declared.edit.Edit.TheVariants as edit
use Rattle.mon_table.specs.Edits.{after}
use Rattle.mon_table.specs.Rules.{Identity, identity_of, rank, same_identity}
use Rattle.mon_table.specs.Tables.{InOrder, rule_of}
use Rattle.mon_table.specs.Winners.{is_highest, wins, winners, may_miss, left}
use Rattle.mon_table.proofs.Listing.{has-list_all, list_all-has}
use Rattle.mon_table.proofs.Keeping.{order-filter}
use Rattle.mon_table.proofs.Members.{has-filter, filter-has, after-members, members-after}
use Rattle.mon_table.proofs.Undoing.{none-there}
use Rattle.mon_table.proofs.Vanishing.{winners-left, misses-left, no-winner}
use Rattle.mon_outcome.specs.declared.emission.Emission.{Emission}
use Rattle.mon_outcome.specs.Emitting.{Emitted, same_emission, any_unknown, emissions, is_among, is_among_whole, must, may}
use Rattle.mon_shows.specs.declared.target.Target.{Target}
use Rattle.mon_shows.specs.declared.target.Target.TheVariants.{Put, Cut}
use Rattle.mon_shows.specs.Separation.{made_unsure, with_update, without_update, is_miss, is_certain, must_show, may_show, separates}
use Rattle.mon_shows.specs.Under.{HasLike, HasSure, Under}
use Rattle.mon_shows.specs.Views.{Viewing, craftable, caught}

-- what must be emitted can be
among-whole : (e : Emission) (ms : List Emitted) → is_among_whole e ms ≡ true → is_among e ms ≡ true
among-whole e [] y = y
among-whole e (m ∷ ms) y = ⊎_elim
    (λ a. or_left _ _ (and_parts m.1 _ a).1)
    (λ a. or_right _ _ (among-whole e ms a))
    (or_cases (m.1 && same_emission m.0 e) _ y)

pub must-may : (actions : List Action) (h : Header) (e : Emission) → must actions h e ≡ true → may actions h e ≡ true
unfolding must may
must-may actions h e y = or_right _ _ (among-whole e (emissions actions h) (and_parts (not (any_unknown actions)) _ y).1)

certain-may : (ws : List Rule) (misses : Bool) (h : Header) (e : Emission) → is_certain ws misses h e ≡ true
    → (list_any (λ r. may r.actions h e) ws || (misses && is_miss h e)) ≡ true
certain-may [] misses h e y = y
certain-may (r ∷ []) misses h e y = or_left _ _ (or_left _ _ (must-may r.actions h e (and_parts (not misses) _ y).1))
certain-may (r ∷ s ∷ rest) misses h e y = absurd (false≢true y)

pub must-may-show : (t : List Rule) (h : Header) (e : Emission) → must_show t h e ≡ true → may_show t h e ≡ true
must-may-show t h e y = certain-may (winners t h) (may_miss t h) h e y

-- some rule passes
record Passing (q : Rule → Bool) (ws : List Rule) : Type 0 where
  rule : Rule
  has : Has ws rule
  passes : q rule ≡ true

any-passing : (q : Rule → Bool) (ws : List Rule) → list_any q ws ≡ true → Passing q ws
any-passing q [] y = absurd (false≢true y)
any-passing q (r ∷ ws) y = ⊎_elim
    (λ a. record { rule = r; has = inl refl; passes = a })
    (λ a. let f = any-passing q ws a in record { rule = f.rule; has = inr f.has; passes = f.passes })
    (or_cases (q r) _ y)

pub passing-any : (q : Rule → Bool) (ws : List Rule) (r : Rule) → Has ws r → q r ≡ true → list_any q ws ≡ true
passing-any q [] r i y = absurd i
passing-any q (s ∷ ws) r i y = ⊎_elim
    (λ (same : r ≡ s). or_left _ _ (ap q (sym same) ∙ y))
    (λ j. or_right _ _ (passing-any q ws r j y))
    i

-- winners are like winners, and a miss is a miss
sure-matches : (h : Header) (t : List Rule) (s : Rule) (x : HasSure t s) → matches s.matching h ≡ true → matches x.sure.matching h ≡ true
sure-matches h t s x m = ap (λ (i : Identity). matches i.matching h) x.identity ∙ m

like-highest : (h : Header) (t u : List Rule) → Under h t u → (r : Rule) (k : HasLike u r) → is_highest t h r ≡ true → is_highest u h k.like ≡ true
unfolding is_highest
like-highest h t u under r k high =
    list_all-has (λ s. not (matches s.matching h) || (s.unsure || nat_le (rank s) (rank k.like))) u (λ s j. ⊎_elim
    (λ m. ⊎_elim
    (λ un. or_right _ _ (or_left _ _ un))
    (λ sure.
    let x = under.sure s m sure j in
    let low : (not (matches x.sure.matching h) || (x.sure.unsure || nat_le (rank x.sure) (rank r))) ≡ true =
    has-list_all (λ s. not (matches s.matching h) || (s.unsure || nat_le (rank s) (rank r))) t x.sure high x.has in
    let le : nat_le (rank x.sure) (rank r) ≡ true = rw (sure-matches h t s x m, x.is_sure) at low in
    let one : rank x.sure ≡ rank s = ap (λ (i : Identity). i.rank) x.identity in
    let other : rank k.like ≡ rank r = ap (λ (i : Identity). i.rank) k.identity in
    or_right _ _ (or_right _ _ (ap₂ nat_le (sym one) other ∙ le)))
    (cases_Bool s.unsure))
    (λ n. or_left _ _ (not_from_false _ n))
    (cases_Bool (matches s.matching h)))

winner-like : (h : Header) (t u : List Rule) → Under h t u → (r : Rule) → Has (winners t h) r → HasLike (winners u h) r
winner-like h t u under r i =
    let f = has-filter (wins t h) t r i in
    let g = and_parts (matches r.matching h) _ f.1 in
    let k = under.like r g.0 f.0 in
    record {
      like = k.like;
      has = filter-has (wins u h) u k.like k.has
          (and_from _ _ (ap (λ (i : Identity). matches i.matching h) k.identity ∙ g.0) (like-highest h t u under r k g.1));
      identity = k.identity;
      actions = k.actions;
    }

miss-under : (h : Header) (t u : List Rule) → Under h t u → may_miss t h ≡ true → may_miss u h ≡ true
miss-under h t u under y =
    list_all-has (λ s. not (matches s.matching h) || s.unsure) u (λ s j. ⊎_elim
    (λ m. ⊎_elim
    (λ un. or_right _ _ un)
    (λ sure.
    let x = under.sure s m sure j in
    let low : (not (matches x.sure.matching h) || x.sure.unsure) ≡ true = has-list_all (λ s. not (matches s.matching h) || s.unsure) t x.sure y x.has in
    let bad : false ≡ true = rw (sure-matches h t s x m, x.is_sure) at low in
    absurd (false≢true bad))
    (cases_Bool s.unsure))
    (λ n. or_left _ _ (not_from_false _ n))
    (cases_Bool (matches s.matching h)))

-- what the other table can't show it can't
pub under-shows : (h : Header) (t u : List Rule) (e : Emission) → Under h t u → may_show t h e ≡ true → may_show u h e ≡ true
under-shows h t u e under y = ⊎_elim
    (λ a.
    let f = any-passing (λ r. may r.actions h e) (winners t h) a in
    let l = winner-like h t u under f.rule f.has in
    or_left _ _ (passing-any (λ r. may r.actions h e) (winners u h) l.like l.has (ap (λ (actions : List Action). may actions h e) l.actions ∙ f.passes)))
    (λ b. let p = and_parts (may_miss t h) _ b in or_right _ _ (and_from _ _ (miss-under h t u under p.0) p.1))
    (or_cases (list_any (λ r. may r.actions h e) (winners t h)) _ y)

-- what is left where unsure rules are gone is under the whole
kept : (u g : Bool) → u ≡ false → not (u && g) ≡ true
kept false g e = refl
kept true g e = absurd (false≢true (sym e))

pub left-under : (t : List Rule) (goes : Rule → Bool) (h : Header) → Under h (left goes t) t
left-under t goes h = record {
  like = λ r m i. record { like = r; has = (has-filter (λ s. not (s.unsure && goes s)) t r i).0; identity = refl; actions = refl };
  sure = λ s m sure j. record { sure = s; has = filter-has (λ r. not (r.unsure && goes r)) t s j (kept s.unsure (goes s) sure); is_sure = sure; identity = refl };
}

-- ---- whichever unsure rules are gone

missed-not : (misses : Bool) → misses ≡ true → not misses ≡ true → false ≡ true
missed-not true m n = n
missed-not false m n = m

-- one winner, where the packet cannot miss, is not gone
certain-left : (ws : List Rule) (misses : Bool) (goes : Rule → Bool) (h : Header) (e : Emission) → (left goes ws ≡ [] → misses ≡ true)
    → is_certain ws misses h e ≡ true → is_certain (left goes ws) misses h e ≡ true
certain-left [] misses goes h e none y = y
certain-left (r ∷ []) misses goes h e none y =
    elim (r.unsure && goes r) as (λ b. (cond (not b) (r ∷ []) [] ≡ [] → misses ≡ true) → is_certain (cond (not b) (r ∷ []) []) misses h e ≡ true) [
      | true ↦ λ f. absurd (false≢true (missed-not misses (f refl) (and_parts (not misses) _ y).0))
      | false ↦ λ f. y
    ] none
certain-left (r ∷ s ∷ rest) misses goes h e none y = absurd (false≢true y)

must-left : (t : List Rule) (goes : Rule → Bool) (h : Header) (e : Emission) → InOrder t → must_show t h e ≡ true → must_show (left goes t) h e ≡ true
must-left t goes h e o y =
    let none : left goes (winners t h) ≡ [] → may_miss t h ≡ true =
    λ (z : left goes (winners t h) ≡ []). sym (misses-left t goes h)
    ∙ no-winner (left goes t) h (order-filter (λ r. not (r.unsure && goes r)) t o) (winners-left t goes h ∙ z) in
    ap₂ (λ (ws : List Rule) (b : Bool). is_certain ws b h e) (winners-left t goes h) (misses-left t goes h)
    ∙ certain-left (winners t h) (may_miss t h) goes h e none y

pub with-shown : (v : Viewing) (t : List Rule) (x : Target) (goes : Rule → Bool) (h : Header) (e : Emission) → InOrder (with_update t x)
    → separates v t x h e ≡ true → must_show (left goes (with_update t x)) h e ≡ true
unfolding separates
with-shown v t x goes h e o y =
    must-left (with_update t x) goes h e o (and_parts (must_show (with_update t x) h e) _ (and_parts (craftable v h) _ y).1).0

not-shown : (p q : Bool) → (p ≡ true → q ≡ true) → not q ≡ true → p ≡ false
not-shown false q f n = refl
not-shown true true f n = absurd (false≢true n)
not-shown true false f n = absurd (false≢true (f refl))

pub without-hidden : (v : Viewing) (t : List Rule) (x : Target) (goes : Rule → Bool) (h : Header) (e : Emission)
    → separates v t x h e ≡ true → may_show (left goes (without_update t x)) h e ≡ false
unfolding separates
without-hidden v t x goes h e y =
    let rest = (and_parts (must_show (with_update t x) h e) _ (and_parts (craftable v h) _ y).1).1 in
    not-shown (may_show (left goes (without_update t x)) h e) (may_show (without_update t x) h e)
    (under-shows h (left goes (without_update t x)) (without_update t x) e (left-under (without_update t x) goes h))
    (and_parts (caught v e) _ rest).1

-- where the one table is under the other nothing separates them
pub never : (c s k p : Bool) → (s ≡ true → p ≡ true) → (c && (s && (k && not p))) ≡ false
never false s k p f = refl
never true false k p f = refl
never true true false p f = refl
never true true true p f = rw (f refl) refl

cut-under : (t : List Rule) (r : Rule) (h : Header) → rule_of (identity_of r) t ≡ None → r.unsure ≡ true → Under h t (after t (edit.Put r None))
cut-under t r h none u = record {
  like = λ s m i. record { like = s; has = members-after t (edit.Put r None) s (inr (i, none-there (identity_of r) t s none i)); identity = refl; actions = refl };
  sure = λ s m sure j. ⊎_elim
      (λ (p : s ≡ r). absurd (false≢true (sym sure ∙ (ap (λ (x : Rule). x.unsure) p ∙ u))))
      (λ l. record { sure = s; has = l.0; is_sure = sure; identity = refl })
      (after-members t (edit.Put r None) s j);
}

pub cut-never : (v : Viewing) (t : List Rule) (r : Rule) (h : Header) (e : Emission) → rule_of (identity_of r) t ≡ None → r.unsure ≡ true
    → separates v t (Cut r) h e ≡ false
unfolding separates
cut-never v t r h e none u =
    never (craftable v h) (must_show t h e) (caught v e) (may_show (without_update t (Cut r)) h e)
    (λ y. under-shows h t (without_update t (Cut r)) e (cut-under t r h none u) (must-may-show t h e y))

twin-under : (t : List Rule) (r old : Rule) (u : Bool) (h : Header) → identity_of old ≡ identity_of r → old.actions ≡ r.actions
    → Under h (after t (edit.Put (made_unsure false r) None)) (after t (edit.Put (made_unsure u old) (Some r)))
twin-under t r old u h own same = record {
  like = λ s m i. ⊎_elim
      (λ (p : s ≡ made_unsure false r). record {
        like = made_unsure u old;
        has = members-after t (edit.Put (made_unsure u old) (Some r)) (made_unsure u old) (inl refl);
        identity = own ∙ ap identity_of (sym p);
        actions = same ∙ ap (λ (x : Rule). x.actions) (sym p);
      })
      (λ l. record {
        like = s;
        has = members-after t (edit.Put (made_unsure u old) (Some r)) s (inr (l.0, subst (λ (i : Identity). same_identity (identity_of s) i ≡ false) (sym own) l.1));
        identity = refl;
        actions = refl;
      })
      (after-members t (edit.Put (made_unsure false r) None) s i);
  sure = λ s m sure j. ⊎_elim
      (λ (p : s ≡ made_unsure u old). record {
        sure = made_unsure false r;
        has = members-after t (edit.Put (made_unsure false r) None) (made_unsure false r) (inl refl);
        is_sure = refl;
        identity = sym own ∙ ap identity_of (sym p);
      })
      (λ l. record {
        sure = s;
        has = members-after t (edit.Put (made_unsure false r) None) s (inr (l.0, subst (λ (i : Identity). same_identity (identity_of s) i ≡ false) own l.1));
        is_sure = sure;
        identity = refl;
      })
      (after-members t (edit.Put (made_unsure u old) (Some r)) s j);
}

pub twin-never : (v : Viewing) (t : List Rule) (r old : Rule) (h : Header) (e : Emission) → identity_of old ≡ identity_of r → old.actions ≡ r.actions
    → separates v t (Put r (Some old)) h e ≡ false
unfolding separates
twin-never v t r old h e own same =
    never (craftable v h) (must_show (with_update t (Put r (Some old))) h e) (caught v e) (may_show (without_update t (Put r (Some old))) h e)
    (λ y. under-shows h (with_update t (Put r (Some old))) (without_update t (Put r (Some old))) e (twin-under t r old (old.unsure || r.unsure) h own same)
    (must-may-show (with_update t (Put r (Some old))) h e y))

-- the law
pub ruleset showing = (under-shows, left-under, must-may-show)
