-- Which variables are seen, as a clause is noted.
use Rattle.std.proofs.Common.{◌≡◌, ◌≢◌, ℕ, ◌+◌, ◌<◌, Bool, true, false, refl, sym, ap, ◌∙◌, subst, List, [], ◌∷◌, ◌++◌, length, get_or, set, take, replicate, ⊎_elim, inl, inr, zero, suc, arith}
use Rattle.std.proofs.lemmas.List.{get_or-set_other, get_or-set_same, length-set}
use Rattle.std.proofs.lemmas.Bool.{false≢true, cases_eq}
use Rattle.mon_list.specs.Has.{Has}
use Rattle.mon_cnf.specs.declared.clause.Lit.{Lit}
use Rattle.mon_cnf.specs.Truth.{Within}
use Rattle.mon_trail.proofs.Has.{has_more, more_has, last_has}
use Rattle.mon_cdcl.specs.Seen.{is_seen, Noted}

pub var_left : (xs ys : List ℕ) (k : ℕ) → Has xs k → Has (xs ++ ys) k
var_left [] ys k h = absurd h
var_left (x ∷ xs) ys k h = ⊎_elim (λ e. inl e) (λ i. inr (var_left xs ys k i)) h

pub var_last : (xs : List ℕ) (y : ℕ) → Has (xs ++ (y ∷ [])) y
var_last [] y = inl refl
var_last (x ∷ xs) y = inr (var_last xs y)

pub seen_same : (flags : List Bool) (x : ℕ) (b : Bool) → x < length flags → is_seen (set flags x b) x ≡ b
seen_same flags x b w = get_or-set_same flags x b false w

pub seen_other : (flags : List Bool) (x y : ℕ) (b : Bool) → y ≢ x → is_seen (set flags x b) y ≡ is_seen flags y
seen_other flags x y b n = get_or-set_other flags x y b false n

pub seen_more : (flags : List Bool) (x y : ℕ) → x < length flags → is_seen flags y ≡ true → is_seen (set flags x true) y ≡ true
seen_more flags x y w s =
    ⊎_elim (λ (e : y ≡ x). ap (is_seen (set flags x true)) e ∙ seen_same flags x true w) (λ (n : y ≡ x → ⊥). seen_other flags x y true n ∙ s) (cases_eq y x)

pub none_seen : (n y : ℕ) → is_seen (replicate n false) y ≡ false
none_seen zero y = refl
none_seen (suc n) zero = refl
none_seen (suc n) (suc y) = none_seen n y

-- what is seen without a variable
pub seen_without : (flags : List Bool) (x y : ℕ) → x < length flags → is_seen (set flags x false) y ≡ true → (y ≢ x) × (is_seen flags y ≡ true)
seen_without flags x y w s =
    ⊎_elim (λ (e : y ≡ x). absurd (false≢true (sym (seen_same flags x false w) ∙ ap (is_seen (set flags x false)) (sym e) ∙ s)))
    (λ (n : y ≡ x → ⊥). let p : (y ≢ x) × (is_seen flags y ≡ true) = (n, sym (seen_other flags x y false n) ∙ s) in p) (cases_eq y x)

pub noted_none : (old : List Bool) (had : List ℕ) (x : ℕ) → Noted old had [] x old had
noted_none old had x = record { kept = λ y h. h; added = λ k h. absurd h; only = λ y h. inl h; listed = λ a. a; sized = refl }

pub noted_skip : (old : List Bool) (had : List ℕ) (c : List Lit) (x i : ℕ) (d : Lit) (new : List Bool) (has : List ℕ) → i < length c
    → ((get_or c i d).var ≢ x → is_seen new (get_or c i d).var ≡ true) → Noted old had (take i c) x new has → Noted old had (take (i + 1) c) x new has
noted_skip old had c x i d new has w n j = record {
  kept = j.kept;
  added = λ k h m. ⊎_elim (λ (a : Has (take i c) k). j.added k a m) (λ (e : k ≡ get_or c i d). ap (λ (l : Lit). is_seen new l.var) e ∙ n (λ v. m (ap (λ (l : Lit). l.var) e ∙ v))) (has_more c i d k w h);
  only = λ y h. ⊎_elim (λ o. inl o) (λ (o : (k : Lit) × Has (take i c) k × (k.var ≢ x) × (y ≡ k.var)). inr (o.0, more_has c i d o.0 w o.1, o.2, o.3)) (j.only y h);
  listed = j.listed;
  sized = j.sized;
}

pub noted_push : (old : List Bool) (had : List ℕ) (c : List Lit) (x i : ℕ) (d : Lit) (new : List Bool) (has : List ℕ) → i < length c → (get_or c i d).var < length new
    → (get_or c i d).var ≢ x → Noted old had (take i c) x new has → Noted old had (take (i + 1) c) x (set new (get_or c i d).var true) (has ++ ((get_or c i d).var ∷ []))
noted_push old had c x i d new has w v n j =
    let l = get_or c i d in
    record {
      kept = λ y h. seen_more new l.var y v (j.kept y h);
      added = λ k h m. ⊎_elim (λ (a : Has (take i c) k). seen_more new l.var k.var v (j.added k a m)) (λ (e : k ≡ get_or c i d). ap (λ (q : Lit). is_seen (set new (get_or c i d).var true) q.var) e ∙ seen_same new l.var true v) (has_more c i d k w h);
      only = λ y h. ⊎_elim
          (λ (e : y ≡ l.var). inr (l, last_has c i d w, n, e))
          (λ (m : y ≡ l.var → ⊥). ⊎_elim (λ o. inl o) (λ (o : (k : Lit) × Has (take i c) k × (k.var ≢ x) × (y ≡ k.var)). inr (o.0, more_has c i d o.0 w o.1, o.2, o.3)) (j.only y (sym (seen_other new l.var y true m) ∙ h)))
          (cases_eq y l.var);
      listed = λ a. record {
        each = λ y h. ⊎_elim
            (λ (e : y ≡ l.var). subst (Has (has ++ (l.var ∷ []))) (sym e) (var_last has l.var))
            (λ (m : y ≡ l.var → ⊥). var_left has (l.var ∷ []) y ((j.listed a).each y (sym (seen_other new l.var y true m) ∙ h)))
            (cases_eq y l.var);
      };
      sized = length-set new l.var true ∙ j.sized;
    }

pub var_within : (n : ℕ) (c : List Lit) (i : ℕ) (d : Lit) → Within n c → i < length c → (get_or c i d).var < n
var_within n [] i d w h = absurd (omega arith)
var_within n (l ∷ ls) zero d w h = w.0
var_within n (l ∷ ls) (suc i) d w h = var_within n ls i d w.1 (omega arith)

-- the flag at a place, whatever stands past the end
pub flag_read : (flags : List Bool) (x : ℕ) (d r : Bool) → x < length flags → r ≡ get_or flags x d → r ≡ true → is_seen flags x ≡ true
flag_read [] x d r w e t = absurd (omega arith)
flag_read (b ∷ bs) zero d r w e t = sym e ∙ t
flag_read (b ∷ bs) (suc x) d r w e t = flag_read bs x d r (omega arith) e t

-- a literal that stands for none
abbrev pub blank : Lit
blank = record { var = 0; positive = false }
