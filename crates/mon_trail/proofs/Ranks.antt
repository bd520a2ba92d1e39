-- The rank of a trail rises when an entry comes, and when a jump puts a forced literal in a decision's place.
use Rattle.std.proofs.Common.{◌≡◌, ℕ, zero, suc, ◌+◌, ◌-◌, ◌*◌, ◌^◌, ◌<◌, Bool, true, false, cond, sym, ap, ◌∙◌, subst, List, [], ◌∷◌, ◌++◌, length, map, arith}
use Rattle.std.proofs.Math.Nat.{pow-suc}
use Rattle.std.proofs.lemmas.List.{map-append, length-map}
use Rattle.mon_cnf.specs.Formulas.{Cnf}
use Rattle.mon_trail.specs.declared.trail.Entry.{Entry}
use Rattle.mon_trail.specs.Trail.{is_forced, rank, rank_of}

pow_pos : (n : ℕ) → 0 < 3 ^ n
pow_pos zero = omega arith
pow_pos (suc n) = omega (arith, pow-suc 3 n, pow_pos n)

three : (n : ℕ) → 3 ^ suc n ≡ 3 * 3 ^ n
three n = omega (arith, pow-suc 3 n)

add_left : (k i j : ℕ) → i < j → k + i < k + j
add_left k i j h = omega arith

one_two : (p r : ℕ) → r < p → 1 * p + r < 2 * p + 0
one_two p r h = omega arith

below : (d : Bool) (p q r : ℕ) → q ≡ 3 * p → r < p → cond d 2 1 * p + r < q
below true p q r e h = omega arith
below false p q r e h = omega arith

pub rank_below : (n : ℕ) (ds : List Bool) → rank n ds < 3 ^ n
rank_below n [] = pow_pos n
rank_below zero (d ∷ ds) = pow_pos zero
rank_below (suc n) (d ∷ ds) = below d (3 ^ n) (3 ^ suc n) (rank n ds) (three n) (rank_below n ds)

one_digit : (d : Bool) (p : ℕ) → 0 < p → 0 < cond d 2 1 * p + 0
one_digit true p h = omega arith
one_digit false p h = omega arith

push_rises : (n : ℕ) (ds : List Bool) (d : Bool) → length ds < n → rank n ds < rank n (ds ++ (d ∷ []))
push_rises zero [] d h = absurd (omega arith)
push_rises (suc n) [] d h = one_digit d (3 ^ n) (pow_pos n)
push_rises zero (e ∷ es) d h = absurd (omega arith)
push_rises (suc n) (e ∷ es) d h = add_left (cond e 2 1 * 3 ^ n) _ _ (push_rises n es d (omega arith))

jump_rises : (n : ℕ) (kept cut : List Bool) → length kept < n → rank n (kept ++ (false ∷ cut)) < rank n (kept ++ (true ∷ []))
jump_rises zero [] cut h = absurd (omega arith)
jump_rises (suc n) [] cut h = one_two (3 ^ n) (rank n cut) (rank_below n cut)
jump_rises zero (e ∷ es) cut h = absurd (omega arith)
jump_rises (suc n) (e ∷ es) cut h = add_left (cond e 2 1 * 3 ^ n) _ _ (jump_rises n es cut (omega arith))

digits_push : (es : List Entry) (e : Entry) → map is_forced (es ++ (e ∷ [])) ≡ map is_forced es ++ (is_forced e ∷ [])
digits_push es e = map-append is_forced es (e ∷ [])

pub entering_rises : (f : Cnf) (es : List Entry) (e : Entry) → length es < f.vars → rank_of f es < rank_of f (es ++ (e ∷ []))
entering_rises f es e w = subst (λ ds. rank f.vars (map is_forced es) < rank f.vars ds) (sym (digits_push es e)) (push_rises f.vars (map is_forced es) (is_forced e) (subst (λ n. n < f.vars) (sym (length-map es is_forced)) w))

pub jumping_rises : (f : Cnf) (old es cut : List Entry) (d e : Entry) → old ≡ es ++ (d ∷ cut) → is_forced d ≡ false → is_forced e ≡ true → length es < f.vars → rank_of f old < rank_of f (es ++ (e ∷ []))
jumping_rises f old es cut d e w a b v =
    let h = jump_rises f.vars (map is_forced es) (map is_forced cut) (subst (λ n. n < f.vars) (sym (length-map es is_forced)) v) in
    let x : map is_forced old ≡ map is_forced es ++ (false ∷ map is_forced cut) = ap (map is_forced) w ∙ map-append is_forced es (d ∷ cut) ∙ ap (λ b. map is_forced es ++ (b ∷ map is_forced cut)) a in
    let y : map is_forced (es ++ (e ∷ [])) ≡ map is_forced es ++ (true ∷ []) = digits_push es e ∙ ap (λ b. map is_forced es ++ (b ∷ [])) b in
    subst (λ ds. rank f.vars ds < rank f.vars (map is_forced (es ++ (e ∷ [])))) (sym x) (subst (λ ds. rank f.vars (map is_forced es ++ (false ∷ map is_forced cut)) < rank f.vars ds) (sym y) h)

less_left : (p i j : ℕ) → i < j → j < p → p - j < p - i
less_left p i j h k = omega arith

-- so less is left
pub rising_ends : (f : Cnf) (old new : List Entry) → rank_of f old < rank_of f new → 3 ^ f.vars - rank_of f new < 3 ^ f.vars - rank_of f old
rising_ends f old new h = less_left (3 ^ f.vars) _ _ h (rank_below f.vars (map is_forced new))
