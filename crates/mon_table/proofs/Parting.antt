-- Edits inside one chunk, and of the list of chunks: what they make of the rules of all.
use Rattle.std.proofs.Common.{◌≡◌, ℕ, zero, suc, ◌+◌, ◌-◌, ◌<◌, ◌≤◌, List, [], ◌∷◌, ◌++◌, length, get_or, set, take, drop, append_assoc, add-one, refl, sym, ap, subst, ◌∙◌, arith}
use Rattle.std.specs.Prelude.{Result, OnOk, OnErr, IfOk, Ok, Err, min}
use Rattle.std.specs.List.{insert, remove}
use Rattle.std.specs.Arc.{arc_value}
use Rattle.std.proofs.lemmas.List.{append-nil, length-append, length-take, length-drop, set-append_left, set-append_right, take-append-drop}
use Rattle.std.proofs.lemmas.List.Edits.{length-remove, insert-append_left, insert-append_right, remove-append_left, remove-append_right}
use Rattle.mon_table.specs.declared.rule.Rule.{Rule}
use Rattle.mon_table.specs.Chunks.{Shared, rules_of, chunk_at, place_in, NoneEmpty}
use Rattle.mon_table.proofs.Seeking.{parted, chunk-read, read-chunk}

-- the rules of chunks
pub rules-append : (cs ds : List Shared) → rules_of (cs ++ ds) ≡ rules_of cs ++ rules_of ds
rules-append [] ds = refl
rules-append (c ∷ cs) ds = ap (λ (t : List Rule). arc_value c ++ t) (rules-append cs ds) ∙ sym (append_assoc (arc_value c) (rules_of cs) (rules_of ds))

rules-set : (cs : List Shared) (at : ℕ) (x : Shared) → at < length cs → rules_of (set cs at x) ≡ rules_of (take at cs) ++ (arc_value x ++ rules_of (drop (suc at) cs))
rules-set [] at x lt = absurd (omega arith)
rules-set (c ∷ cs) zero x lt = refl
rules-set (c ∷ cs) (suc at) x lt =
    ap (λ (t : List Rule). arc_value c ++ t) (rules-set cs at x (omega arith))
    ∙ sym (append_assoc (arc_value c) (rules_of (take at cs)) (arc_value x ++ rules_of (drop (suc at) cs)))

-- edits in the middle of a list
behind-front : (f : List Rule) (n : ℕ) → (length f + n) - length f ≡ n
behind-front f n = omega arith

set-middle : (f t b : List Rule) (n : ℕ) (r : Rule) → n < length t → set (f ++ (t ++ b)) (length f + n) r ≡ f ++ (set t n r ++ b)
set-middle f t b n r lt =
    set-append_right f (t ++ b) (length f) (length f + n) r refl (omega arith)
    ∙ ap (λ (u : List Rule). f ++ u) (ap (λ (k : ℕ). set (t ++ b) k r) (behind-front f n) ∙ set-append_left t b n r lt)

insert-middle : (f t b : List Rule) (n : ℕ) (r : Rule) → n ≤ length t → insert (f ++ (t ++ b)) (length f + n) r ≡ f ++ (insert t n r ++ b)
insert-middle f t b n r le =
    insert-append_right f (t ++ b) (length f) (length f + n) r refl (omega arith)
    ∙ ap (λ (u : List Rule). f ++ u) (ap (λ (k : ℕ). insert (t ++ b) k r) (behind-front f n) ∙ insert-append_left t b n r le)

remove-middle : (f t b : List Rule) (n : ℕ) → n < length t → remove (f ++ (t ++ b)) (length f + n) ≡ f ++ (remove t n ++ b)
remove-middle f t b n lt =
    remove-append_right f (t ++ b) (length f) (length f + n) refl (omega arith)
    ∙ ap (λ (u : List Rule). f ++ u) (ap (λ (k : ℕ). remove (t ++ b) k) (behind-front f n) ∙ remove-append_left t b n lt)

get-front : (t b : List Rule) (n : ℕ) (d : Rule) → n < length t → get_or (t ++ b) n d ≡ get_or t n d
get-front [] b n d lt = absurd (omega arith)
get-front (r ∷ t) b zero d lt = refl
get-front (r ∷ t) b (suc n) d lt = get-front t b n d (omega arith)

get-back : (f t : List Rule) (n : ℕ) (d : Rule) → get_or (f ++ t) (length f + n) d ≡ get_or t n d
get-back [] t n d = let e : length {A = Rule} [] + n ≡ n = omega arith in ap (λ (k : ℕ). get_or t k d) e
get-back (r ∷ f) t n d =
    let e : length (r ∷ f) + n ≡ suc (length f + n) = omega arith in
    ap (λ (k : ℕ). get_or (r ∷ (f ++ t)) k d) e ∙ get-back f t n d

-- a rule of a chunk, among all
pub rule-in : (cs : List Shared) (at n : ℕ) (d : Rule) → n < length (chunk_at cs at) → get_or (rules_of cs) (place_in cs at n) d ≡ get_or (chunk_at cs at) n d
rule-in cs at n d lt =
    ap (λ (t : List Rule). get_or t (place_in cs at n) d) (parted cs at)
    ∙ (get-back (rules_of (take at cs)) (chunk_at cs at ++ rules_of (drop (suc at) cs)) n d ∙ get-front (chunk_at cs at) (rules_of (drop (suc at) cs)) n d lt)

-- a chunk that was read and changed
pub record Changed (cs : List Shared) (at : ℕ) (c : Shared) : Type 0 where
  pub within : at < length cs
  pub read : c ≡ get_or cs at c

pub changed-is : (cs : List Shared) (at : ℕ) (c : Shared) → Changed cs at c → chunk_at cs at ≡ arc_value c
changed-is cs at c h = chunk-read cs at c h.within ∙ ap arc_value (sym h.read)

module _ (cs : List Shared) (at : ℕ) (c x : Shared) (h : Changed cs at c) where
  pub same-rules : arc_value x ≡ arc_value c → rules_of (set cs at x) ≡ rules_of cs
  same-rules e =
      rules-set cs at x h.within
      ∙ (ap (λ (t : List Rule). rules_of (take at cs) ++ (t ++ rules_of (drop (suc at) cs))) (e ∙ sym (changed-is cs at c h)) ∙ sym (parted cs at))

  set-rules : (n : ℕ) (r : Rule) → n < length (chunk_at cs at) → arc_value x ≡ set (arc_value c) n r → rules_of (set cs at x) ≡ set (rules_of cs) (place_in cs at n) r
  set-rules n r lt e =
      rules-set cs at x h.within
      ∙ (ap (λ (t : List Rule). rules_of (take at cs) ++ (t ++ rules_of (drop (suc at) cs))) (e ∙ ap (λ (t : List Rule). set t n r) (sym (changed-is cs at c h)))
      ∙ (sym (set-middle (rules_of (take at cs)) (chunk_at cs at) (rules_of (drop (suc at) cs)) n r lt) ∙ ap (λ (t : List Rule). set t (place_in cs at n) r) (sym (parted cs at))))

  insert-rules : (n : ℕ) (r : Rule) → n ≤ length (chunk_at cs at) → arc_value x ≡ insert (arc_value c) n r → rules_of (set cs at x) ≡ insert (rules_of cs) (place_in cs at n) r
  insert-rules n r le e =
      rules-set cs at x h.within
      ∙ (ap (λ (t : List Rule). rules_of (take at cs) ++ (t ++ rules_of (drop (suc at) cs))) (e ∙ ap (λ (t : List Rule). insert t n r) (sym (changed-is cs at c h)))
      ∙ (sym (insert-middle (rules_of (take at cs)) (chunk_at cs at) (rules_of (drop (suc at) cs)) n r le) ∙ ap (λ (t : List Rule). insert t (place_in cs at n) r) (sym (parted cs at))))

  remove-rules : (n : ℕ) → n < length (chunk_at cs at) → arc_value x ≡ remove (arc_value c) n → rules_of (set cs at x) ≡ remove (rules_of cs) (place_in cs at n)
  remove-rules n lt e =
      rules-set cs at x h.within
      ∙ (ap (λ (t : List Rule). rules_of (take at cs) ++ (t ++ rules_of (drop (suc at) cs))) (e ∙ ap (λ (t : List Rule). remove t n) (sym (changed-is cs at c h)))
      ∙ (sym (remove-middle (rules_of (take at cs)) (chunk_at cs at) (rules_of (drop (suc at) cs)) n lt) ∙ ap (λ (t : List Rule). remove t (place_in cs at n)) (sym (parted cs at))))

  -- where the change may have failed
  pub on-same : {A E : Type 0} (z : Result A E) → OnErr z (arc_value x ≡ arc_value c) → OnErr z (rules_of (set cs at x) ≡ rules_of cs)
  on-same (Ok a) p = tt
  on-same (Err e) p = same-rules p

  pub on-set : {A E : Type 0} (z : Result A E) (n : ℕ) (r : Rule) → n < length (chunk_at cs at) → OnOk z (arc_value x ≡ set (arc_value c) n r)
      → OnOk z (rules_of (set cs at x) ≡ set (rules_of cs) (place_in cs at n) r)
  on-set (Ok a) n r lt p = set-rules n r lt p
  on-set (Err e) n r lt p = tt

  pub on-insert : {A E : Type 0} (z : Result A E) (n : ℕ) (r : Rule) → n ≤ length (chunk_at cs at) → OnOk z (arc_value x ≡ insert (arc_value c) n r)
      → OnOk z (rules_of (set cs at x) ≡ insert (rules_of cs) (place_in cs at n) r)
  on-insert (Ok a) n r le p = insert-rules n r le p
  on-insert (Err e) n r le p = tt

  pub on-remove : {A E : Type 0} (z : Result A E) (n : ℕ) → n < length (chunk_at cs at) → OnOk z (arc_value x ≡ remove (arc_value c) n)
      → OnOk z (rules_of (set cs at x) ≡ remove (rules_of cs) (place_in cs at n))
  on-remove (Ok a) n lt p = remove-rules n lt p
  on-remove (Err e) n lt p = tt

pub on-old : {E : Type 0} (cs : List Shared) (at n : ℕ) (c : Shared) (z : Result Rule E) → Changed cs at c → n < length (chunk_at cs at) → IfOk z (λ r. r ≡ get_or (arc_value c) n r)
    → IfOk z (λ r. r ≡ get_or (rules_of cs) (place_in cs at n) r)
on-old cs at n c (Ok r) h lt p = p ∙ (ap (λ (t : List Rule). get_or t n r) (sym (changed-is cs at c h)) ∙ sym (rule-in cs at n r lt))
on-old cs at n c (Err e) h lt p = tt

-- a chunk more
pub insert-one : (cs : List Shared) (at : ℕ) (x : Shared) (r : Rule) → arc_value x ≡ r ∷ [] → rules_of (insert cs at x) ≡ insert (rules_of cs) (place_in cs at 0) r
insert-one cs at x r e =
    let f = rules_of (take at cs) in
    let g = rules_of (drop at cs) in
    let whole : rules_of cs ≡ f ++ g = ap rules_of (sym (take-append-drop at cs)) ∙ rules-append (take at cs) (drop at cs) in
    rules-append (take at cs) (x ∷ drop at cs)
    ∙ (ap (λ (t : List Rule). f ++ (t ++ g)) e
    ∙ (sym (insert-append_right f g (length f) (length f + 0) r refl (omega arith) ∙ ap (λ (k : ℕ). f ++ insert g k r) (behind-front f 0))
    ∙ ap (λ (t : List Rule). insert t (length f + 0) r) (sym whole)))

-- a chunk of one rule less
one-removed : (t : List Rule) → length t ≡ 1 → remove t 0 ≡ []
one-removed [] e = refl
one-removed (r ∷ []) e = refl
one-removed (r ∷ s ∷ t) e = absurd (omega arith)

pub remove-one : (cs new : List Shared) (at : ℕ) → new ≡ remove cs at → length (chunk_at cs at) ≡ 1 → rules_of new ≡ remove (rules_of cs) (place_in cs at 0)
remove-one cs new at e one =
    let f = rules_of (take at cs) in
    let b = rules_of (drop (suc at) cs) in
    ap rules_of e
    ∙ (rules-append (take at cs) (drop (suc at) cs)
    ∙ (ap (λ (t : List Rule). f ++ (t ++ b)) (sym (one-removed (chunk_at cs at) one))
    ∙ (sym (remove-middle f (chunk_at cs at) b 0 (omega arith)) ∙ ap (λ (t : List Rule). remove t (length f + 0)) (sym (parted cs at)))))

-- the first rule of a chunk that is read
pub first-read : (cs : List Shared) (at : ℕ) (c : Shared) (t : List Rule) (r : Rule) → at < length cs → c ≡ get_or cs at c → t ≡ arc_value c → length (chunk_at cs at) ≡ 1
    → r ≡ get_or t 0 r → r ≡ get_or (rules_of cs) (place_in cs at 0) r
first-read cs at c t r lt e f one g =
    g ∙ (ap (λ (u : List Rule). get_or u 0 r) (sym (read-chunk cs at c t lt e f)) ∙ sym (rule-in cs at 0 r (omega arith)))

-- a chunk in two
pub moved-read : (cs ds : List Shared) (at : ℕ) (c : Shared) → ds ≡ cs → at < length cs → c ≡ get_or ds at c → Changed cs at c
moved-read cs ds at c e lt f = record { within = lt; read = f ∙ ap (λ (xs : List Shared). get_or xs at c) e }

-- the chunks with two in place of one
abbrev pub halved : List Shared → ℕ → Shared → Shared → List Shared
halved cs at x y = take at cs ++ (x ∷ y ∷ drop (suc at) cs)

halved-is : (cs : List Shared) (at : ℕ) (x y : Shared) → at < length cs → insert (set cs at x) (suc at) y ≡ halved cs at x y
halved-is [] at x y lt = absurd (omega arith)
halved-is (c ∷ cs) zero x y lt = refl
halved-is (c ∷ cs) (suc at) x y lt = ap (λ (xs : List Shared). c ∷ xs) (halved-is cs at x y (omega arith))

pub made-halved : (cs ds new : List Shared) (at k : ℕ) (x y : Shared) → ds ≡ cs → at < length cs → k ≡ suc at → new ≡ insert (set ds at x) k y → new ≡ halved cs at x y
made-halved cs ds new at k x y e lt f g =
    g ∙ (ap (λ (xs : List Shared). insert (set xs at x) k y) e ∙ (ap (λ (n : ℕ). insert (set cs at x) n y) f ∙ halved-is cs at x y lt))

halved-rules : (cs : List Shared) (at : ℕ) (x y : Shared) → arc_value x ++ arc_value y ≡ chunk_at cs at → rules_of (halved cs at x y) ≡ rules_of cs
halved-rules cs at x y e =
    let b = rules_of (drop (suc at) cs) in
    rules-append (take at cs) (x ∷ y ∷ drop (suc at) cs)
    ∙ (ap (λ (t : List Rule). rules_of (take at cs) ++ t) (sym (append_assoc (arc_value x) (arc_value y) b) ∙ ap (λ (t : List Rule). t ++ b) e) ∙ sym (parted cs at))

halved-lower : (cs : List Shared) (at : ℕ) (x y : Shared) → at < length cs → chunk_at (halved cs at x y) at ≡ arc_value x
halved-lower [] at x y lt = absurd (omega arith)
halved-lower (c ∷ cs) zero x y lt = refl
halved-lower (c ∷ cs) (suc at) x y lt = halved-lower cs at x y (omega arith)

halved-upper : (cs : List Shared) (at : ℕ) (x y : Shared) → at < length cs → chunk_at (halved cs at x y) (suc at) ≡ arc_value y
halved-upper [] at x y lt = absurd (omega arith)
halved-upper (c ∷ cs) zero x y lt = refl
halved-upper (c ∷ cs) (suc at) x y lt = halved-upper cs at x y (omega arith)

halved-some : (cs : List Shared) (at : ℕ) (x y : Shared) → at < length cs → 0 < length (arc_value x) → 0 < length (arc_value y) → NoneEmpty cs → NoneEmpty (halved cs at x y)
halved-some [] at x y lt p q a = absurd (omega arith)
halved-some (c ∷ cs) zero x y lt p q a = (p, (q, a.1))
halved-some (c ∷ cs) (suc at) x y lt p q a = (a.0, halved-some cs at x y (omega arith) p q a.1)

module _ (cs new : List Shared) (at : ℕ) (c x y : Shared) (h : Changed cs at c) (is : new ≡ halved cs at x y) (low : arc_value x ≡ take 32 (arc_value c)) (high : arc_value y ≡ drop 32 (arc_value c)) where
  pub split-rules : rules_of new ≡ rules_of cs
  split-rules =
      ap rules_of is
      ∙ halved-rules cs at x y (ap (λ (t : List Rule). t ++ arc_value y) low ∙ (ap (λ (t : List Rule). take 32 (arc_value c) ++ t) high ∙ (take-append-drop 32 (arc_value c) ∙ sym (changed-is cs at c h))))

  pub split-lower : chunk_at new at ≡ take 32 (chunk_at cs at)
  split-lower = ap (λ (xs : List Shared). chunk_at xs at) is ∙ (halved-lower cs at x y h.within ∙ (low ∙ ap (take 32) (sym (changed-is cs at c h))))

  pub split-upper : chunk_at new (suc at) ≡ drop 32 (chunk_at cs at)
  split-upper = ap (λ (xs : List Shared). chunk_at xs (suc at)) is ∙ (halved-upper cs at x y h.within ∙ (high ∙ ap (drop 32) (sym (changed-is cs at c h))))

  pub split-some : length (chunk_at cs at) ≡ 64 → NoneEmpty cs → NoneEmpty new
  split-some full a =
      let f : length (arc_value c) ≡ 64 = ap length (sym (changed-is cs at c h)) ∙ full in
      let p : length (arc_value x) ≡ min 32 (length (arc_value c)) = ap length low ∙ length-take 32 (arc_value c) in
      let q : length (arc_value y) ≡ length (arc_value c) - 32 = ap length high ∙ length-drop 32 (arc_value c) in
      subst NoneEmpty (sym is) (halved-some cs at x y h.within (omega arith) (omega arith) a)

-- the lengths of the halves
pub lower-length : (t u : List Rule) → u ≡ take 32 t → length t ≡ 64 → length u ≡ 32
lower-length t u e full = let p : length u ≡ min 32 (length t) = ap length e ∙ length-take 32 t in omega arith

pub upper-length : (t u : List Rule) → u ≡ drop 32 t → length t ≡ 64 → length u ≡ 32
upper-length t u e full = let p : length u ≡ length t - 32 = ap length e ∙ length-drop 32 t in omega arith

-- the rules before the next chunk
next-before : (cs : List Shared) (at : ℕ) → at < length cs → length (rules_of (take (suc at) cs)) ≡ length (rules_of (take at cs)) + length (chunk_at cs at)
next-before [] at lt = absurd (omega arith)
next-before (c ∷ cs) zero lt = let e : length (arc_value c ++ []) ≡ length (arc_value c) = ap length (append-nil (arc_value c)) in omega arith
next-before (c ∷ cs) (suc at) lt =
    let e = next-before cs at (omega arith) in
    let f = length-append (arc_value c) (rules_of (take (suc at) cs)) in
    let g = length-append (arc_value c) (rules_of (take at cs)) in
    omega arith

pub place-next : (cs : List Shared) (at n : ℕ) → at < length cs → n ≡ length (chunk_at cs at) → place_in cs (at + 1) 0 ≡ place_in cs at n
place-next cs at n lt e =
    let f = next-before cs at lt in
    ap (λ (k : ℕ). place_in cs k 0) (add-one at) ∙ (let g : length (rules_of (take (suc at) cs)) + 0 ≡ length (rules_of (take at cs)) + n = omega arith in g)

pub place-upper : (cs ds : List Shared) (at n : ℕ) → take at ds ≡ take at cs → suc at < length ds → length (chunk_at ds at) ≡ 32 → 32 < n → place_in ds (at + 1) (n - 32) ≡ place_in cs at n
place-upper cs ds at n e lt low gt =
    let f = next-before ds at (omega arith) in
    let g : length (rules_of (take at ds)) ≡ length (rules_of (take at cs)) = ap (λ (xs : List Shared). length (rules_of xs)) e in
    ap (λ (k : ℕ). place_in ds k (n - 32)) (add-one at) ∙ (let h : length (rules_of (take (suc at) ds)) + (n - 32) ≡ length (rules_of (take at cs)) + n = omega arith in h)

pub on-upper : {A E : Type 0} (z : Result A E) (cs ds new : List Shared) (p q : ℕ) (r : Rule) → rules_of ds ≡ rules_of cs → p ≡ q
    → OnOk z (rules_of new ≡ insert (rules_of ds) p r) → OnOk z (rules_of new ≡ insert (rules_of cs) q r)
on-upper (Ok a) cs ds new p q r e f h = h ∙ (ap (λ (t : List Rule). insert t p r) e ∙ ap (λ (k : ℕ). insert (rules_of cs) k r) f)
on-upper (Err a) cs ds new p q r e f h = tt

-- a chunk that loses a rule and keeps another
some-set : (cs : List Shared) (at : ℕ) (x : Shared) → 0 < length (arc_value x) → NoneEmpty cs → NoneEmpty (set cs at x)
some-set [] at x p a = tt
some-set (c ∷ cs) zero x p a = (p, a.1)
some-set (c ∷ cs) (suc at) x p a = (a.0, some-set cs at x p a.1)

left-some : {A E : Type 0} (z : Result A E) (c x : Shared) (n : ℕ) → OnOk z (arc_value x ≡ remove (arc_value c) n) → OnErr z (arc_value x ≡ arc_value c) → n < length (arc_value c)
    → 1 < length (arc_value c) → 0 < length (arc_value x)
left-some (Ok a) c x n e f lt more = let g = length-remove (arc_value c) n lt in let h : length (arc_value x) ≡ length (remove (arc_value c) n) = ap length e in omega arith
left-some (Err a) c x n e f lt more = let h : length (arc_value x) ≡ length (arc_value c) = ap length f in omega arith

pub removed-some : {A E : Type 0} (z : Result A E) (cs : List Shared) (at n : ℕ) (c x : Shared) → Changed cs at c → NoneEmpty cs → OnOk z (arc_value x ≡ remove (arc_value c) n) → OnErr z (arc_value x ≡ arc_value c)
    → n < length (arc_value c) → 1 < length (arc_value c) → NoneEmpty (set cs at x)
removed-some z cs at n c x h a e f lt more = some-set cs at x (left-some z c x n e f lt more) a

-- a chunk that has not one rule has more
more-than : (n k : ℕ) → n < k → (k ≡ 1 → ⊥) → 1 < k
more-than n zero lt ne = absurd (omega arith)
more-than n (suc zero) lt ne = absurd (ne refl)
more-than n (suc (suc k)) lt ne = omega arith

pub more-there : (cs ds : List Shared) (at n k : ℕ) (c : Shared) → Changed cs at c → ds ≡ cs → n < length (chunk_at cs at) → k ≡ length (chunk_at ds at) → (k ≡ 1 → ⊥) → 1 < length (arc_value c)
more-there cs ds at n k c h e lt f ne =
    let g : k ≡ length (arc_value c) = f ∙ (ap (λ (xs : List Shared). length (chunk_at xs at)) e ∙ ap length (changed-is cs at c h)) in
    let p : n < length (arc_value c) = subst (λ (t : List Rule). n < length t) (changed-is cs at c h) lt in
    more-than n (length (arc_value c)) p (λ one. ne (g ∙ one))
