-- What a queue of jobs and a queue of answers say together, once nobody works.
use Rattle.std.proofs.Common.{◌≡◌, ◌≢◌, ℕ, ◌+◌, Bool, true, false, List, [], ◌∷◌, ◌++◌, map, sym, refl, ap, arith, inl, inr}
use base.Stored.{Coded}
use Rattle.mon_list.specs.Has.{Has}
use Rattle.mon_tally.specs.Tallies.{weigh, AsOften, Apart}
use Rattle.mon_tally.proofs.Counts.{weigh-append}
use Rattle.mon_tally.proofs.Telling.{same, same_self, same_means}

pub weigh_map : {V J : Type 0} (f : V → J) (h : J → ℕ) (ts : List V) → weigh h (map f ts) ≡ weigh (λ t. h (f t)) ts
weigh_map f h [] = refl
weigh_map f h (t ∷ ts) = omega (arith, weigh_map f h ts)

abbrev count : Bool → ℕ
count true = 1
count false = 0

module _ {J : Type 0} (c : Coded J) where
  -- 1 for this job, and 0 for others
  abbrev is : J → J → ℕ
  is job x = count (same (c.code x) (c.code job))

  is_one : (job : J) → is job job ≡ 1
  is_one job = ap count (same_self (c.code job))

  is_none : (job x : J) → x ≢ job → is job x ≡ 0
  is_none job x other = by_test (same (c.code x) (c.code job)) refl
    where
      by_test : (b : Bool) → same (c.code x) (c.code job) ≡ b → count (same (c.code x) (c.code job)) ≡ 0
      by_test true h = absurd (other (c.inj x job (same_means (c.code x) (c.code job) h)))
      by_test false h = ap count h

  none_there : (job : J) (xs : List J) → (Has xs job → ⊥) → weigh (is job) xs ≡ 0
  none_there job [] none = refl
  none_there job (x ∷ xs) none =
      let a : is job x ≡ 0 = is_none job x (λ e. none (inl (sym e))) in
      let b : weigh (is job) xs ≡ 0 = none_there job xs (λ has. none (inr has)) in
      omega arith

  module _ {V : Type 0} (job_of : V → J) where
    -- What was pushed is what workers took and what is left; what they told of that was taken, dropped or is left. No job
    -- of a dropped answer is out, so it would have been answered twice, and it was offered once as often. So none was
    pub none_dropped : (pushed waiting workers left out : List J) (answered dropped told_left told : List V)
        → ((h : J → ℕ) → weigh h pushed ≡ weigh h workers + weigh h left)
        → ((h : V → ℕ) → weigh h told ≡ (weigh h answered + weigh h dropped) + weigh h told_left)
        → map job_of told ≡ workers
        → ((h : J → ℕ) → weigh h (pushed ++ waiting) ≡ weigh h (map job_of answered) + weigh h out)
        → Apart (map job_of dropped) out
        → dropped ≡ []
    none_dropped pushed waiting workers left out answered [] told_left told a b t rest apart = refl
    none_dropped pushed waiting workers left out answered (d ∷ ds) told_left told a b t rest apart = absurd (
        let one : J → ℕ = is (job_of d) in
        let o : weigh one out ≡ 0 = none_there (job_of d) out (apart (job_of d) (inl refl)) in
        let p : weigh one pushed ≡ weigh one workers + weigh one left = a one in
        let q : weigh (λ (v : V). one (job_of v)) told ≡ (weigh (λ (v : V). one (job_of v)) answered + (one (job_of d) + weigh (λ (v : V). one (job_of v)) ds)) + weigh (λ (v : V). one (job_of v)) told_left = b (λ v. one (job_of v)) in
        let r : weigh one (map job_of told) ≡ weigh one workers = ap (weigh one) t in
        let s : weigh one (pushed ++ waiting) ≡ weigh one (map job_of answered) + weigh one out = rest one in
        let u : one (job_of d) ≡ 1 = is_one (job_of d) in
        omega (arith, weigh_map job_of one told, weigh_map job_of one answered, weigh-append one pushed waiting))

-- each job that was offered is among the answers taken, those handed back and the jobs handed back, as often
pub all_accounted : {J V : Type 0} (job_of : V → J) (pushed waiting workers left : List J) (answered dropped told_left told : List V) → dropped ≡ []
    → ((h : J → ℕ) → weigh h pushed ≡ weigh h workers + weigh h left)
    → ((h : V → ℕ) → weigh h told ≡ (weigh h answered + weigh h dropped) + weigh h told_left)
    → map job_of told ≡ workers
    → AsOften (pushed ++ waiting) ((map job_of answered ++ map job_of told_left) ++ (left ++ waiting))
all_accounted {J} {V} job_of pushed waiting workers left answered dropped told_left told none a b t h =
    let g : V → ℕ = λ v. h (job_of v) in
    let p : weigh h pushed ≡ weigh h workers + weigh h left = a h in
    let q : weigh g told ≡ (weigh g answered + weigh g dropped) + weigh g told_left = b g in
    let r : weigh h (map job_of told) ≡ weigh h workers = ap (weigh h) t in
    let z : weigh g dropped ≡ 0 = ap (weigh g) none in
    omega (
      arith,
      weigh_map job_of h told,
      weigh_map job_of h answered,
      weigh_map job_of h told_left,
      weigh-append h pushed waiting,
      weigh-append h left waiting,
      weigh-append h (map job_of answered ++ map job_of told_left) (left ++ waiting),
      weigh-append h (map job_of answered) (map job_of told_left),
    )
