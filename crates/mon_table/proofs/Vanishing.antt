-- What unsure rules change where they are gone, and what they do not.
use Rattle.std.proofs.Common.{◌≡◌, ℕ, ◌↔◌, ◌⊎◌, Bool, true, false, not, cond, ◌&&◌, ◌||◌, List, [], ◌∷◌, refl, sym, ap, subst, ◌∙◌, arith, inl, inr, ⊎_elim}
use Rattle.std.specs.Prelude.{nat_le}
use Rattle.std.specs.List.{filter, list_all, AllByRecursion}
use Rattle.std.proofs.lemmas.Bool.{and_parts, and_from, and_left, or_left, or_right, cases_Bool, false≢true, le-leb}
use Rattle.mon_list.specs.Has.{Has}
use Rattle.mon_header.specs.declared.header.Header.{Header}
use Rattle.mon_header.specs.Matching.{matches}
use Rattle.mon_table.specs.declared.rule.Rule.{Rule}
use Rattle.mon_table.specs.Rules.{rank}
use Rattle.mon_table.specs.Tables.{InOrder}
use Rattle.mon_table.specs.Winners.{is_highest, wins, winners, may_miss, left, AllSure}
use Rattle.mon_table.specs.Places.{hides, least_rank, is_from_rank}
use Rattle.mon_table.proofs.Listing.{wins-from}
use Rattle.mon_table.proofs.Members.{filter-has}

-- filters
pub filter-same : (p q : Rule → Bool) (t : List Rule) → AllByRecursion (λ r. p r ≡ q r) t → filter p t ≡ filter q t
filter-same p q [] f = refl
filter-same p q (r ∷ t) f =
    ap (λ (b : Bool). cond b (r ∷ filter p t) (filter p t)) f.0 ∙ ap (λ (ts : List Rule). cond (q r) (r ∷ ts) ts) (filter-same p q t f.1)

every : (P : Rule → Type 0) (t : List Rule) → ((r : Rule) → P r) → AllByRecursion P t
every P [] f = tt
every P (r ∷ t) f = (f r, every P t f)

filter-in : (p : Rule → Bool) (r : Rule) (t : List Rule) → p r ≡ true → filter p (r ∷ t) ≡ r ∷ filter p t
filter-in p r t e = rw e refl

filter-out : (p : Rule → Bool) (r : Rule) (t : List Rule) → p r ≡ false → filter p (r ∷ t) ≡ filter p t
filter-out p r t e = rw e refl

filter-turned : (p q : Rule → Bool) (t : List Rule) → filter p (filter q t) ≡ filter q (filter p t)
filter-turned p q [] = refl
filter-turned p q (r ∷ t) =
    let rest = filter-turned p q t in
    ⊎_elim
    (λ a. ⊎_elim
    (λ b. ap (filter p) (filter-in q r t b) ∙ (filter-in p r (filter q t) a ∙ (ap (λ (ts : List Rule). r ∷ ts) rest ∙ sym (ap (filter q) (filter-in p r t a) ∙ filter-in q r (filter p t) b))))
    (λ b. ap (filter p) (filter-out q r t b) ∙ (rest ∙ sym (ap (filter q) (filter-in p r t a) ∙ filter-out q r (filter p t) b)))
    (cases_Bool (q r)))
    (λ a. ⊎_elim
    (λ b. ap (filter p) (filter-in q r t b) ∙ (filter-out p r (filter q t) a ∙ (rest ∙ sym (ap (filter q) (filter-out p r t a)))))
    (λ b. ap (filter p) (filter-out q r t b) ∙ (rest ∙ sym (ap (filter q) (filter-out p r t a))))
    (cases_Bool (q r)))
    (cases_Bool (p r))

-- what holds of each unsure rule holds of all of what is left exactly where it holds of all
all-left : (p : Rule → Bool) (goes : Rule → Bool) (t : List Rule) → ((r : Rule) → r.unsure ≡ true → p r ≡ true) → list_all p (left goes t) ≡ list_all p t
all-left p goes [] f = refl
all-left p goes (r ∷ t) f =
    elim (r.unsure && goes r) as (λ b. (r.unsure && goes r) ≡ b → list_all p (cond (not b) (r ∷ left goes t) (left goes t)) ≡ (p r && list_all p t)) [
      | true ↦ λ y. all-left p goes t f ∙ ap (λ (b : Bool). b && list_all p t) (sym (f r (and_parts r.unsure _ y).0))
      | false ↦ λ n. ap (λ (b : Bool). p r && b) (all-left p goes t f)
    ] refl

highest-left : (goes : Rule → Bool) (t : List Rule) (h : Header) (r : Rule) → is_highest (left goes t) h r ≡ is_highest t h r
unfolding is_highest
highest-left goes t h r = all-left (λ s. not (matches s.matching h) || (s.unsure || nat_le (rank s) (rank r))) goes t (λ s u. or_right _ _ (or_left _ _ u))

pub winners-left : (t : List Rule) (goes : Rule → Bool) (h : Header) → winners (left goes t) h ≡ left goes (winners t h)
winners-left t goes h =
    filter-same (wins (left goes t) h) (wins t h) (left goes t)
    (every (λ r. wins (left goes t) h r ≡ wins t h r) (left goes t) (λ r. ap (λ (b : Bool). matches r.matching h && b) (highest-left goes t h r)))
    ∙ filter-turned (wins t h) (λ r. not (r.unsure && goes r)) t

pub misses-left : (t : List Rule) (goes : Rule → Bool) (h : Header) → may_miss (left goes t) h ≡ may_miss t h
misses-left t goes h = all-left (λ s. not (matches s.matching h) || s.unsure) goes t (λ s u. or_right _ _ u)

-- without unsure rules
all-same : (p q : Rule → Bool) (t : List Rule) → AllByRecursion (λ r. p r ≡ q r) t → list_all p t ≡ list_all q t
all-same p q [] f = refl
all-same p q (r ∷ t) f = ap (λ (b : Bool). b && list_all p t) f.0 ∙ ap (λ (b : Bool). q r && b) (all-same p q t f.1)

sure-low : (h : Header) (n : ℕ) (t : List Rule) → AllSure t
    → AllByRecursion (λ s. (not (matches s.matching h) || (s.unsure || nat_le (rank s) n)) ≡ (not (matches s.matching h) || nat_le (rank s) n)) t
sure-low h n [] a = tt
sure-low h n (s ∷ t) a = (ap (λ (b : Bool). not (matches s.matching h) || (b || nat_le (rank s) n)) a.0, sure-low h n t a.1)

sure-highest : (h : Header) (t : List Rule) (r : Rule) → AllSure t → is_highest t h r ≡ list_all (λ s. not (matches s.matching h) || nat_le (rank s) (rank r)) t
unfolding is_highest
sure-highest h t r a =
    all-same (λ s. not (matches s.matching h) || (s.unsure || nat_le (rank s) (rank r))) (λ s. not (matches s.matching h) || nat_le (rank s) (rank r)) t (sure-low h (rank r) t a)

pub winners-sure : (t : List Rule) (h : Header) → AllSure t
    → winners t h ≡ filter (λ r. matches r.matching h && list_all (λ s. not (matches s.matching h) || nat_le (rank s) (rank r)) t) t
winners-sure t h a =
    filter-same (wins t h) (λ r. matches r.matching h && list_all (λ s. not (matches s.matching h) || nat_le (rank s) (rank r)) t) t
    (every (λ r. wins t h r ≡ (matches r.matching h && list_all (λ s. not (matches s.matching h) || nat_le (rank s) (rank r)) t)) t
    (λ r. ap (λ (b : Bool). matches r.matching h && b) (sure-highest h t r a)))

-- a sure rule that matches, of the least rank that may win
pub record Hider (h : Header) (t : List Rule) : Type 0 where
  pub rule : Rule
  pub has : Has t rule
  pub hidden : hides h rule ≡ true
  pub least : least_rank h t ≡ rank rule

not-hidden : (m u : Bool) → (not u && m) ≡ false → (not m || u) ≡ true
not-hidden true true n = refl
not-hidden true false n = absurd (false≢true (sym n))
not-hidden false u n = refl

pub misses-or-hides : (h : Header) (t : List Rule) → (may_miss t h ≡ true) ⊎ Hider h t
misses-or-hides h [] = inl refl
misses-or-hides h (r ∷ t) = ⊎_elim
    (λ y. inr (record { rule = r; has = inl refl; hidden = y; least = rw y refl }))
    (λ n. ⊎_elim
    (λ m. inl (and_from _ _ (not-hidden (matches r.matching h) r.unsure n) m))
    (λ x. inr (record { rule = x.rule; has = inr x.has; hidden = x.hidden; least = (let e : least_rank h (r ∷ t) ≡ least_rank h t = rw n refl in e) ∙ x.least }))
    (misses-or-hides h t))
    (cases_Bool (hides h r))

pub hider-wins : (t : List Rule) (h : Header) → InOrder t → (x : Hider h t) → Has (winners t h) x.rule
hider-wins t h o x =
    let m : matches x.rule.matching h ≡ true = (and_parts (not x.rule.unsure) _ x.hidden).1 in
    let high : is_from_rank h (least_rank h t) x.rule ≡ true = and_from _ _ (le-leb (least_rank h t) (rank x.rule) (let e = x.least in omega arith)) m in
    filter-has (wins t h) t x.rule x.has (sym (wins-from h t x.rule o) ∙ high)

pub no-winner : (t : List Rule) (h : Header) → InOrder t → winners t h ≡ [] → may_miss t h ≡ true
no-winner t h o none = ⊎_elim
    (λ m. m)
    (λ x. absurd (subst (λ (ws : List Rule). Has ws x.rule) none (hider-wins t h o x)))
    (misses-or-hides h t)

sure-unmatched : (m u : Bool) → u ≡ false → (not m || u) ≡ true → m ≡ false
sure-unmatched true true s e = absurd (false≢true (sym s))
sure-unmatched true false s e = absurd (false≢true e)
sure-unmatched false u s e = refl

unmatched : (h : Header) (t : List Rule) → AllSure t → may_miss t h ≡ true → AllByRecursion (λ r. matches r.matching h ≡ false) t
unmatched h [] a e = tt
unmatched h (r ∷ t) a e =
    let parts = and_parts (not (matches r.matching h) || r.unsure) _ e in
    (sure-unmatched (matches r.matching h) r.unsure a.0 parts.0, unmatched h t a.1 parts.1)

filter-none : (p : Rule → Bool) (t : List Rule) → AllByRecursion (λ r. p r ≡ false) t → filter p t ≡ []
filter-none p [] a = refl
filter-none p (r ∷ t) a = rw a.0 (filter-none p t a.1)

unmatched-lose : (h : Header) (t u : List Rule) → AllByRecursion (λ r. matches r.matching h ≡ false) t → AllByRecursion (λ r. wins u h r ≡ false) t
unmatched-lose h [] u a = tt
unmatched-lose h (r ∷ t) u a = (and_left _ _ a.0, unmatched-lose h t u a.1)

pub sure-misses : (t : List Rule) (h : Header) → InOrder t → AllSure t → (may_miss t h ≡ true) ↔ (winners t h ≡ [])
sure-misses t h o a = (λ e. filter-none (wins t h) t (unmatched-lose h t t (unmatched h t a e)), no-winner t h o)
