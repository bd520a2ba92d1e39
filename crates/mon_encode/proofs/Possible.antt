-- What a table can show, rule by rule.
use Rattle.std.proofs.Common.{◌≡◌, ℕ, ◌<◌, ◌≤◌, Bool, true, false, not, cond, ◌&&◌, ◌||◌, List, [], ◌∷◌, refl, sym, ap, ◌∙◌, ⊎_elim}
use Rattle.std.specs.Prelude.{nat_lt, nat_le}
use Rattle.std.specs.List.{list_any, list_all}
use Rattle.std.proofs.lemmas.Bool.{lt-ltb, le-ltb, le-leb, lt-leb, cases_lt}
use Rattle.mon_header.specs.declared.header.Header.{Header}
use Rattle.mon_header.specs.Matching.{matches}
use Rattle.mon_table.specs.declared.rule.Rule.{Rule}
use Rattle.mon_table.specs.Rules.{rank}
use Rattle.mon_table.specs.Winners.{is_highest, wins, winners, may_miss}
use Rattle.mon_outcome.specs.declared.emission.Emission.{Emission}
use Rattle.mon_outcome.specs.Emitting.{may}
use Rattle.mon_shows.specs.Separation.{is_miss, may_show}
use Rattle.mon_encode.proofs.Truth.{fits, Read, or_yes}
use Rattle.mon_encode.proofs.Chaining.{is_above}
use Rattle.mon_encode.specs.Clauses.{sures}
use Rattle.mon_shows.proofs.Looking.{any-filter}

not-any : (p : Rule → Bool) (t : List Rule) → not (list_any p t) ≡ list_all (λ r. not (p r)) t
not-any p [] = refl
not-any p (r ∷ t) =
    elim (p r) as (λ b. not (b || list_any p t) ≡ (not b && list_all (λ r. not (p r)) t)) [ true ↦ refl | false ↦ not-any p t ]

-- the packet cannot miss exactly where some sure rule matches
not-and : (m x : Bool) → not ((not m || false) && x) ≡ (m || not x)
not-and true x = refl
not-and false x = refl

missed-is : (h : Header) (t : List Rule) → not (may_miss t h) ≡ list_any (λ r. matches r.matching h) (sures t)
missed-is h [] = refl
missed-is h (r ∷ t) =
    elim r.unsure as (λ u. not ((not (matches r.matching h) || u) && may_miss t h) ≡ list_any (λ s. matches s.matching h) (cond (not u) (r ∷ sures t) (sures t))) [
      | true ↦ ap (λ (b : Bool). not (b && may_miss t h)) (or_yes (not (matches r.matching h))) ∙ missed-is h t
      | false ↦ not-and (matches r.matching h) (may_miss t h) ∙ ap (λ (b : Bool). matches r.matching h || b) (missed-is h t)
    ]

parted : (a b c : Bool) → not (a || (b && c)) ≡ (not a && (not c || not b))
parted true b c = refl
parted false true true = refl
parted false true false = refl
parted false false true = refl
parted false false false = refl

-- none of these rules wins in the whole table and may show this
abbrev pub all_hidden : Header → Emission → List Rule → List Rule → Bool
all_hidden h e whole t = list_all (λ r. not (wins whole h r && may r.actions h e)) t

pub hidden-is : (h : Header) (e : Emission) (t : List Rule)
    → not (may_show t h e) ≡ (all_hidden h e t t && (not (is_miss h e) || list_any (λ r. matches r.matching h) (sures t)))
hidden-is h e t =
    parted (list_any (λ r. may r.actions h e) (winners t h)) (may_miss t h) (is_miss h e)
    ∙ (ap (λ (b : Bool). not b && (not (is_miss h e) || not (may_miss t h))) (any-filter (wins t h) (λ r. may r.actions h e) t)
    ∙ (ap (λ (b : Bool). b && (not (is_miss h e) || not (may_miss t h))) (not-any (λ r. wins t h r && may r.actions h e) t)
    ∙ ap (λ (b : Bool). all_hidden h e t t && (not (is_miss h e) || b)) (missed-is h t)))

-- that no rule above matches is that a rule is the highest that does
turn : (a b : ℕ) → nat_lt a b ≡ not (nat_le b a)
turn a b = ⊎_elim (λ (p : a < b). lt-ltb a b p ∙ sym (ap not (lt-leb b a p))) (λ (p : b ≤ a). le-ltb a b p ∙ sym (ap not (le-leb b a p))) (cases_lt a b)

split : (x y f m o a : Bool) → f ≡ m → x ≡ not y → not o ≡ a → not ((x && f) || o) ≡ ((not m || y) && a)
split x true f m o a d e g = ap (λ (x : Bool). not ((x && f) || o)) e ∙ (g ∙ sym (ap (λ (b : Bool). b && a) (or_yes (not m))))
split x false true m o a d e g = ap (λ (x : Bool). not ((x && true) || o)) e ∙ ap (λ (b : Bool). (not b || false) && a) d
split x false false m o a d e g = ap (λ (x : Bool). not ((x && false) || o)) e ∙ (g ∙ ap (λ (b : Bool). (not b || false) && a) d)

above-or : (v : ℕ → Bool) (h : Header) (n : ℕ) (t : List Rule) → Read v h t → not (list_any (is_above v n) t) ≡ list_all (λ s. not (matches s.matching h) || nat_le (rank s) n) t
above-or v h n [] read = refl
above-or v h n (r ∷ t) read = split (nat_lt n (rank r)) (nat_le (rank r) n) (fits v r) (matches r.matching h) _ _ read.0 (turn n (rank r)) (above-or v h n t read.1)

-- unsure rules are above none
sure-highest : (h : Header) (n : ℕ) (t : List Rule)
    → list_all (λ s. not (matches s.matching h) || (s.unsure || nat_le (rank s) n)) t ≡ list_all (λ s. not (matches s.matching h) || nat_le (rank s) n) (sures t)
sure-highest h n [] = refl
sure-highest h n (r ∷ t) =
    elim r.unsure as (λ u. ((not (matches r.matching h) || (u || nat_le (rank r) n)) && list_all (λ s. not (matches s.matching h) || (s.unsure || nat_le (rank s) n)) t)
    ≡ list_all (λ s. not (matches s.matching h) || nat_le (rank s) n) (cond (not u) (r ∷ sures t) (sures t))) [
      | true ↦ ap (λ (b : Bool). b && list_all (λ s. not (matches s.matching h) || (s.unsure || nat_le (rank s) n)) t) (or_yes (not (matches r.matching h))) ∙ sure-highest h n t
      | false ↦ ap (λ (b : Bool). (not (matches r.matching h) || nat_le (rank r) n) && b) (sure-highest h n t)
    ]

pub wins-is : (v : ℕ → Bool) (h : Header) (t : List Rule) (r : Rule) → Read v h (sures t) → fits v r ≡ matches r.matching h
    → wins t h r ≡ (fits v r && not (list_any (is_above v (rank r)) (sures t)))
unfolding is_highest
wins-is v h t r read e =
    ap (λ (b : Bool). b && list_all (λ s. not (matches s.matching h) || (s.unsure || nat_le (rank s) (rank r))) t) (sym e)
    ∙ ap (λ (b : Bool). fits v r && b) (sure-highest h (rank r) t ∙ sym (above-or v h (rank r) (sures t) read))
