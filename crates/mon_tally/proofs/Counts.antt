-- Each step keeps the rule of a queue.
use Rattle.std.proofs.Common.{◌≡◌, ◌≢◌, ℕ, zero, suc, ◌+◌, ◌-◌, ◌<◌, ◌⊎◌, List, [], ◌∷◌, ◌++◌, length, map, set, take, drop, sym, refl, ap, ◌∙◌, subst, ⊎_elim, arith, length-append, append_assoc}
use Rattle.std.proofs.Math.Seq.{take-append_seam, drop-append_seam}
use mathlib.Core.Option.{some, some-injective, some-ne-none}
use lib.ListN.{get_elem?}
use Rattle.crossbeam_queue.specs.Fifo.{Pushes, Pops, Forks, Merges, Learns}
use Rattle.crossbeam_queue.proofs.Lists.{at_set, at_snoc}
use Rattle.mon_tally.specs.declared.counted.Tally.{Tally}
use Rattle.mon_tally.specs.Tallies.{weigh, tally, total, popped, IdleIsEmpty, dropping, Balanced, Settled, WasSo}

module _ {P : Type 0} where
  pub weigh-append : (h : P → ℕ) (xs ys : List P) → weigh h (xs ++ ys) ≡ weigh h xs + weigh h ys
  weigh-append h [] ys = omega arith
  weigh-append h (x ∷ xs) ys = omega (arith, weigh-append h xs ys)

  total_set : (f : Tally P → ℕ) (views : List (Tally P)) (port : ℕ) (v w : Tally P) → get_elem? views port ≡ some v → total f (set views port w) + f v ≡ total f views + f w
  total_set f [] port v w at = absurd (some-ne-none v (sym at))
  total_set f (x ∷ xs) zero v w at = let e : f x ≡ f v = ap f (some-injective x v at) in omega arith
  total_set f (x ∷ xs) (suc port) v w at = omega (arith, total_set f xs port v w at)

  total_snoc : (f : Tally P → ℕ) (views : List (Tally P)) (v : Tally P) → total f (views ++ v ∷ []) ≡ total f views + f v
  total_snoc f [] v = omega arith
  total_snoc f (x ∷ xs) v = omega (arith, total_snoc f xs v)

  abbrev Empty : Tally P → Type 0
  Empty v = (v.put ≡ []) × (v.taken ≡ []) × (v.dropped ≡ [])

  idle_set : (views : List (Tally P)) (port : ℕ) (w : Tally P) → (w.parts ≡ 0 → Empty w) → IdleIsEmpty views → IdleIsEmpty (set views port w)
  idle_set views port w mine idle j u at none = ⊎_elim
      (λ (x : (j ≡ port) × (w ≡ u)). subst Empty x.1 (mine (ap (λ (y : Tally P). y.parts) x.1 ∙ none)))
      (λ (x : (j ≢ port) × (get_elem? views j ≡ some u)). idle j u x.1 none) (at_set views port j w u at)

  idle_snoc : (views : List (Tally P)) (w : Tally P) → (w.parts ≡ 0 → Empty w) → IdleIsEmpty views → IdleIsEmpty (views ++ w ∷ [])
  idle_snoc views w mine idle j u at none = ⊎_elim
      (λ (x : get_elem? views j ≡ some u). idle j u x none)
      (λ (x : w ≡ u). subst Empty x (mine (ap (λ (y : Tally P). y.parts) x ∙ none))) (at_snoc views w u j at)

  -- where the passes have no part, nothing was done by them
  none_done : (f : Tally P → ℕ) → ((v : Tally P) → Empty v → f v ≡ 0) → (views : List (Tally P)) → total (λ v. v.parts) views ≡ 0 → IdleIsEmpty views → total f views ≡ 0
  none_done f zeros [] e idle = refl
  none_done f zeros (x ∷ xs) e idle =
      let a : f x ≡ 0 = zeros x (idle 0 x refl (omega arith)) in
      let b : total f xs ≡ 0 = none_done f zeros xs (omega arith) (λ j u at. idle (suc j) u at) in omega arith

  -- where one pass has all parts, it did all
  alone_did : (f : Tally P → ℕ) → ((v : Tally P) → Empty v → f v ≡ 0) → (views : List (Tally P)) (port : ℕ) (v : Tally P) → get_elem? views port ≡ some v
      → total (λ u. u.parts) views ≡ v.parts → IdleIsEmpty views → total f views ≡ f v
  alone_did f zeros views port v at all idle =
      let none : Tally P = tally 0 [] [] [] in
      let p = total_set (λ u. u.parts) views port v none at in
      let rest : total f (set views port none) ≡ 0 = none_done f zeros (set views port none) (omega arith) (idle_set views port none (λ _. (refl, refl, refl)) idle) in
      let q = total_set f views port v none at in
      let z : f none ≡ 0 = zeros none (refl, refl, refl) in
      omega arith

  put_zero : (h : P → ℕ) (v : Tally P) → Empty v → weigh h v.put ≡ 0
  put_zero h v e = ap (weigh h) e.0

  popped_zero : (h : P → ℕ) (v : Tally P) → Empty v → popped h v ≡ 0
  popped_zero h v e = let a : weigh h v.taken ≡ 0 = ap (weigh h) e.1 in let b : weigh h v.dropped ≡ 0 = ap (weigh h) e.2 in omega arith

-- the last one that was taken goes to those that were dropped
pub dropping_last : {P : Type 0} (parts : ℕ) (put taken dropped : List P) (t : P) → dropping (tally parts put (taken ++ t ∷ []) dropped) ≡ tally parts put taken (dropped ++ t ∷ [])
dropping_last parts put taken dropped t =
    let n : length (taken ++ t ∷ []) - 1 ≡ length taken = omega (arith, length-append taken (t ∷ [])) in
    let a : take (length (taken ++ t ∷ []) - 1) (taken ++ t ∷ []) ≡ taken = ap (λ k. take k (taken ++ t ∷ [])) n ∙ take-append_seam taken (t ∷ []) in
    let b : drop (length (taken ++ t ∷ []) - 1) (taken ++ t ∷ []) ≡ t ∷ [] = ap (λ k. drop k (taken ++ t ∷ [])) n ∙ drop-append_seam taken (t ∷ []) in
    ap (λ l. tally parts put l (dropped ++ drop (length (taken ++ t ∷ []) - 1) (taken ++ t ∷ []))) a ∙ ap (λ l. tally parts put taken (dropped ++ l)) b

module _ {T P : Type 0} (plain : T → P) where
  map_snoc : (items : List T) (x : T) → map plain (items ++ x ∷ []) ≡ map plain items ++ plain x ∷ []
  map_snoc [] x = refl
  map_snoc (y ∷ ys) x = ap (λ l. plain y ∷ l) (map_snoc ys x)

  pub puts : (n port : ℕ) (v : Tally P) (x : T) → 0 < v.parts → Pushes (Balanced plain) n port v x (λ w. w ≡ tally v.parts (v.put ++ plain x ∷ []) v.taken v.dropped)
  puts n port v x some_part items views room b at = let w : Tally P = tally v.parts (v.put ++ plain x ∷ []) v.taken v.dropped in (
    w,
    (
      (let s = total_set (λ u. u.parts) views port v w at in let p = b.0 in omega arith),
      (λ h.
          let s = total_set (λ u. weigh h u.put) views port v w at in
          let t = total_set (popped h) views port v w at in
          let p = b.1 h in
          let m : weigh h (map plain (items ++ x ∷ [])) ≡ weigh h (map plain items ++ plain x ∷ []) = ap (weigh h) (map_snoc items x) in
          omega (arith, weigh-append h v.put (plain x ∷ []), weigh-append h (map plain items) (plain x ∷ []))),
      idle_set views port w (λ none. absurd (omega arith)) b.2,
    ),
    refl,
  )

  pub takes : (port : ℕ) (v : Tally P) → 0 < v.parts → Pops (Balanced plain) port v (λ x w. w ≡ tally v.parts v.put (v.taken ++ plain x ∷ []) v.dropped)
  takes port v some_part x items views b at = let w : Tally P = tally v.parts v.put (v.taken ++ plain x ∷ []) v.dropped in (
    w,
    (
      (let s = total_set (λ u. u.parts) views port v w at in let p = b.0 in omega arith),
      (λ h.
          let s = total_set (λ u. weigh h u.put) views port v w at in
          let t = total_set (popped h) views port v w at in
          let p = b.1 h in
          omega (arith, weigh-append h v.taken (plain x ∷ []))),
      idle_set views port w (λ none. absurd (omega arith)) b.2,
    ),
    refl,
  )

  pub forks : (port : ℕ) (v : Tally P) → 1 < v.parts → Forks (Balanced plain) port v (tally (v.parts - 1) v.put v.taken v.dropped) (tally 1 [] [] [])
  forks port v two items views b at = let l : Tally P = tally (v.parts - 1) v.put v.taken v.dropped in let r : Tally P = tally 1 [] [] [] in (
    (let s = total_set (λ u. u.parts) views port v l at in let t = total_snoc (λ u. u.parts) (set views port l) r in let p = b.0 in omega arith),
    (λ h.
        let s = total_set (λ u. weigh h u.put) views port v l at in
        let s' = total_snoc (λ u. weigh h u.put) (set views port l) r in
        let t = total_set (popped h) views port v l at in
        let t' = total_snoc (popped h) (set views port l) r in
        let p = b.1 h in
        omega arith),
    idle_snoc (set views port l) r (λ none. absurd (omega arith)) (idle_set views port l (λ none. absurd (omega arith)) b.2),
  )

  pub drops : (port : ℕ) (v : Tally P) → 0 < v.parts → Forks (Balanced plain) port v (dropping v) (tally 0 [] [] [])
  drops port v some_part items views b at = let l : Tally P = dropping v in let r : Tally P = tally 0 [] [] [] in (
    (let s = total_set (λ u. u.parts) views port v l at in let t = total_snoc (λ u. u.parts) (set views port l) r in let p = b.0 in omega arith),
    (λ h.
        let s = total_set (λ u. weigh h u.put) views port v l at in
        let s' = total_snoc (λ u. weigh h u.put) (set views port l) r in
        let t = total_set (popped h) views port v l at in
        let t' = total_snoc (popped h) (set views port l) r in
        let p = b.1 h in
        let n : ℕ = length v.taken - 1 in
        let whole : weigh h (take n v.taken ++ drop n v.taken) ≡ weigh h v.taken = ap (weigh h) (take_drop n v.taken) in
        omega (arith, weigh-append h (take n v.taken) (drop n v.taken), weigh-append h v.dropped (drop n v.taken))),
    idle_snoc (set views port l) r (λ _. (refl, refl, refl)) (idle_set views port l (λ none. absurd (omega arith)) b.2),
  )
    where
      take_drop : (n : ℕ) (xs : List P) → take n xs ++ drop n xs ≡ xs
      take_drop zero xs = refl
      take_drop (suc n) [] = refl
      take_drop (suc n) (x ∷ xs) = ap (λ l. x ∷ l) (take_drop n xs)

  pub merges : (port : ℕ) (v : Tally P) (other : ℕ) (u : Tally P) → 0 < v.parts
      → Merges (Balanced plain) port v other u (tally (v.parts + u.parts) (v.put ++ u.put) (v.taken ++ u.taken) (v.dropped ++ u.dropped)) (tally 0 [] [] [])
  merges port v other u some_part items views b at two at' =
      let both : Tally P = tally (v.parts + u.parts) (v.put ++ u.put) (v.taken ++ u.taken) (v.dropped ++ u.dropped) in
      let spent : Tally P = tally 0 [] [] [] in
      let vs : List (Tally P) = set views port both in (
        (let s = total_set (λ y. y.parts) views port v both at in let t = total_set (λ y. y.parts) vs other u spent at' in let p = b.0 in omega arith),
        (λ h.
            let s = total_set (λ y. weigh h y.put) views port v both at in
            let s' = total_set (λ y. weigh h y.put) vs other u spent at' in
            let t = total_set (popped h) views port v both at in
            let t' = total_set (popped h) vs other u spent at' in
            let p = b.1 h in
            omega (arith, weigh-append h v.put u.put, weigh-append h v.taken u.taken, weigh-append h v.dropped u.dropped)),
        idle_set vs other spent (λ _. (refl, refl, refl)) (idle_set views port both (λ none. absurd (omega arith)) b.2),
      )

  pub learns : (port : ℕ) (v : Tally P) → v.parts ≡ 65 → Learns (Balanced plain) port v (Settled plain v)
  learns port v all items views b at h =
      let p = b.1 h in
      let parts : total (λ u. u.parts) views ≡ v.parts = b.0 ∙ sym all in
      let s = alone_did (λ u. weigh h u.put) (put_zero h) views port v at parts b.2 in
      let t = alone_did (popped h) (popped_zero h) views port v at parts b.2 in
      omega arith

  pub begins : Balanced plain [] (tally 65 [] [] [] ∷ [])
  begins = (refl, (λ h. refl), λ j u at none. absurd (first j u at none))
    where
      first : (j : ℕ) (u : Tally P) → get_elem? (tally 65 [] [] [] ∷ []) j ≡ some u → u.parts ≡ 0 → ⊥
      first zero u at none = let e : 65 ≡ u.parts = ap (λ (y : Tally P). y.parts) (some-injective (tally 65 [] [] []) u at) in omega arith
      first (suc j) u at none = some-ne-none u (sym at)

  pub was_so : (port : ℕ) (v : Tally P) → Learns (Balanced plain) port v (WasSo plain v)
  was_so port v items views h at = (views, port, h, at)

  weigh_one : (items : List T) → weigh (λ (x : P). 1) (map plain items) ≡ length items
  weigh_one [] = refl
  weigh_one (x ∷ xs) = omega (arith, weigh_one xs)

  weigh_none : (h : P → ℕ) (items : List T) → length items ≡ 0 → weigh h (map plain items) ≡ 0
  weigh_none h [] e = refl
  weigh_none h (x ∷ xs) e = absurd (omega arith)

  -- the pass has all parts and took these; now the queue holds nothing, so these are what was left
  pub finished : (v w : Tally P) (took items : List T) → w ≡ tally v.parts v.put (v.taken ++ map plain took) v.dropped → length items ≡ 0 → Settled plain w items
      → (h : P → ℕ) → weigh h v.put ≡ popped h v + weigh h (map plain took)
  finished v w took items is none settled h =
      let s : weigh h w.put ≡ popped h w + weigh h (map plain items) = settled h in
      let a : weigh h w.put ≡ weigh h v.put = ap (λ (u : Tally P). weigh h u.put) is in
      let b : popped h w ≡ weigh h (v.taken ++ map plain took) + weigh h v.dropped = ap (popped h) is in
      omega (arith, weigh-append h v.taken (map plain took), weigh_none h items none)

  -- as many were taken as the queue held, so it holds nothing
  pub none_left : (v w : Tally P) (took before items : List T) → w ≡ tally v.parts v.put (v.taken ++ map plain took) v.dropped → length took ≡ length before
      → Settled plain v before → Settled plain w items → length items ≡ 0
  none_left v w took before items is same was settled =
      let one : P → ℕ = λ x. 1 in
      let s : weigh one w.put ≡ popped one w + weigh one (map plain items) = settled one in
      let r : weigh one v.put ≡ popped one v + weigh one (map plain before) = was one in
      let a : weigh one w.put ≡ weigh one v.put = ap (λ (u : Tally P). weigh one u.put) is in
      let b : popped one w ≡ weigh one (v.taken ++ map plain took) + weigh one v.dropped = ap (popped one) is in
      omega (arith, weigh-append one v.taken (map plain took), weigh_one took, weigh_one before, weigh_one items)

  pub took_more : (v : Tally P) (took : List T) (x : T) → tally v.parts v.put ((v.taken ++ map plain took) ++ plain x ∷ []) v.dropped ≡ tally v.parts v.put (v.taken ++ map plain (took ++ x ∷ [])) v.dropped
  took_more v took x = ap (λ l. tally v.parts v.put l v.dropped) (append_assoc v.taken (map plain took) (plain x ∷ []) ∙ ap (λ l. v.taken ++ l) (sym (map_snoc took x)))
