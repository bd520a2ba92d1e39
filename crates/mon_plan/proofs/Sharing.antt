-- Certificates by shares, and joined again.
use Rattle.std.proofs.Common.{◌≡◌, ℕ, zero, suc, ◌+◌, ◌-◌, ◌<◌, ◌≤◌, List, [], ◌∷◌, ◌++◌, length, get_or, drop, Option, Some, None, refl, sym, ap, subst, ◌∙◌, arith, append_assoc, drop-cons, add-one, Result, Ok, Err}
use Rattle.std.specs.Prelude.{IfOk, unwrap_or}
use Rattle.std.specs.List.{AllByRecursion}
use Rattle.std.proofs.lemmas.List.{append-nil, drop_all}
use Rattle.std.proofs.lemmas.Option.{none-some}
use Rattle.mon_list.specs.declared.memory.OutOfMemory.{OutOfMemory}
use Rattle.mon_table.specs.declared.rule.Rule.{Rule}
use Rattle.mon_certificate.specs.declared.certificate.Certificate.{Certificate}
use Rattle.mon_certificate_file.specs.CertificateFile.{IsCertificateInRange}
use Rattle.mon_shows.specs.Views.{Viewing}
use Rattle.mon_plan.specs.Planning.{Each, IsCertificate, AreCertificates}
use Rattle.mon_plan.specs.Sharing.{every, IsPlanned, IsShare, AreShares, AreFound, next_of}
use Rattle.mon_plan.proofs.Planning.{each-length}

-- certificates so far, and any that fit what is left, fit the whole
abbrev pub Fits : (Rule → Certificate → Type 0) → List Rule → List Rule → List Certificate → Type 0
Fits P all rest cs = (more : List Certificate) → Each P rest more → Each P all (cs ++ more)

pub fits-more : (P : Rule → Certificate → Type 0) (all rest : List Rule) (r : Rule) (c : Certificate) (cs new : List Certificate) → Fits P all (r ∷ rest) cs → P r c
    → new ≡ cs ++ c ∷ [] → Fits P all rest new
fits-more P all rest r c cs new f p is = λ more e.
    subst (Each P all) (sym (append_assoc cs (c ∷ []) more) ∙ ap (λ s. s ++ more) (sym is)) (f (c ∷ more) (p, e))

pub fits-whole : (P : Rule → Certificate → Type 0) (all rest : List Rule) (cs : List Certificate) → rest ≡ [] → Fits P all rest cs → Each P all cs
fits-whole P all rest cs none f = subst (Each P all) (append-nil cs) (f [] (subst (λ u. Each P u []) (sym none) tt))

-- a rule on
pub rest-of : (t : List Rule) (n : ℕ) (r : Rule) → n < length t → r ≡ get_or t n r → drop n t ≡ r ∷ drop (n + 1) t
rest-of t n r lt e = drop-cons t n r lt ∙ ap (λ (s : Rule). s ∷ drop (suc n) t) (sym e) ∙ ap (λ m. r ∷ drop m t) (sym (add-one n))

every-passes : (step others : ℕ) (r : Rule) (rest : List Rule) → 0 < others → every step others (r ∷ rest) ≡ every step (others - 1) rest
every-passes step zero r rest p = absurd (omega (arith, p))
every-passes step (suc k) r rest p = ap (λ o. every step o rest) (omega (arith))

rest-some : (t : List Rule) (n : ℕ) → n < length t → (r : Rule) × (drop n t ≡ r ∷ drop (n + 1) t)
rest-some [] n lt = absurd (omega (arith, lt))
rest-some (r ∷ t) n lt = (get_or (r ∷ t) n r, drop-cons (r ∷ t) n r lt ∙ ap (λ m. get_or (r ∷ t) n r ∷ drop m (r ∷ t)) (sym (add-one n)))

pub every-behind : (step others : ℕ) (t : List Rule) (n : ℕ) → n < length t → 0 < others → every step others (drop n t) ≡ every step (others - 1) (drop (n + 1) t)
every-behind step others t n lt p =
    let s = rest-some t n lt in
    ap (every step others) s.1 ∙ every-passes step others s.0 (drop (n + 1) t) p

pub every-taken : (step others : ℕ) (t : List Rule) (n : ℕ) (r : Rule) → n < length t → r ≡ get_or t n r → others ≡ 0
    → every step others (drop n t) ≡ r ∷ every step (step - 1) (drop (n + 1) t)
every-taken step others t n r lt e p = ap (λ o. every step o (drop n t)) p ∙ ap (every step 0) (rest-of t n r lt e)

pub every-none : (step others : ℕ) (t : List Rule) (n : ℕ) → length t ≤ n → every step others (drop n t) ≡ []
every-none step others t n le = ap (every step others) (drop_all n t le)

-- once the first share gave a certificate and went behind the others, they are the shares of what is left
shares-shift : (v : Viewing) (t : List Rule) (step others : ℕ) (r : Rule) (rest : List Rule) (shares : List (List Certificate)) → AreShares v t step (suc others) (r ∷ rest) shares
    → AreShares v t step others rest shares
shares-shift v t step others r rest [] a = tt
shares-shift v t step others r rest (cs ∷ shares) a = (a.0, shares-shift v t step (suc others) r rest shares a.1)

pub shares-push : (v : Viewing) (t : List Rule) (step others n : ℕ) (rest : List Rule) (shares : List (List Certificate)) (cs : List Certificate)
    → n ≡ others + length shares → AreShares v t step others rest shares → IsShare v t step n rest cs → AreShares v t step others rest (shares ++ cs ∷ [])
shares-push v t step others n rest [] cs e a s = (subst (λ m. IsShare v t step m rest cs) (omega (arith, e)) s, tt)
shares-push v t step others n rest (first ∷ shares) cs e a s = (a.0, shares-push v t step (suc others) n rest shares cs (omega (arith, e)) a.1 s)

some-is : (x y : Certificate × List (List Certificate)) → Some x ≡ Some y → x ≡ y
some-is x y e = ap (λ (o : Option (Certificate × List (List Certificate))). unwrap_or o y) e

-- a turn: the next certificate is the next rule's, and what is left are the shares of the rules behind it
pub record Turn (v : Viewing) (t : List Rule) (step : ℕ) (r : Rule) (rest : List Rule) (c : Certificate) (left : List (List Certificate)) : Type 0 where
  pub first : IsPlanned v t r c
  pub shares : AreShares v t step 0 rest left
  pub count : length left ≡ step

length-push : (shares : List (List Certificate)) (cs : List Certificate) → length (shares ++ cs ∷ []) ≡ length shares + 1
length-push [] cs = refl
length-push (s ∷ shares) cs = ap suc (length-push shares cs) ∙ omega (arith)

pub turned : (v : Viewing) (t : List Rule) (step : ℕ) (r : Rule) (rest : List Rule) (shares : List (List Certificate)) (c : Certificate) (left : List (List Certificate))
    → length shares ≡ step → AreShares v t step 0 (r ∷ rest) shares → next_of shares ≡ Some (c, left) → Turn v t step r rest c left
turned v t step r rest [] c left len a e = absurd (none-some (c, left) e)
turned v t step r rest ([] ∷ shares) c left len a e = absurd a.0
turned v t step r rest ((d ∷ cs) ∷ shares) c left len a e =
    subst (λ (x : Certificate × List (List Certificate)). Turn v t step r rest x.0 x.1) (some-is _ (c, left) e) (record {
      first = a.0.0;
      shares = shares-push v t step 0 (step - 1) rest shares cs (omega (arith, len)) (shares-shift v t step 0 r rest shares a.1) a.0.1;
      count = length-push shares cs ∙ omega (arith, len);
    })

pub never-none : (v : Viewing) (t : List Rule) (step : ℕ) (r : Rule) (rest : List Rule) (shares : List (List Certificate)) → 0 < length shares
    → AreShares v t step 0 (r ∷ rest) shares → next_of shares ≡ None → ⊥
never-none v t step r rest [] some a e = omega (arith, some)
never-none v t step r rest ([] ∷ shares) some a e = a.0
never-none v t step r rest ((c ∷ cs) ∷ shares) some a e = absurd (none-some (c, shares ++ cs ∷ []) (sym e))

pub first-lacks : (all shares : List (List Certificate)) (first : List Certificate) → all ≡ first ∷ shares → first ≡ [] → next_of all ≡ None
first-lacks all shares first e lacks = ap next_of (e ∙ ap (λ s. s ∷ shares) lacks)

-- a round of the loop
pub next-count : (shares left : List (List Certificate)) (c : Certificate) → next_of shares ≡ Some (c, left) → length left ≡ length shares
next-count [] left c e = absurd (none-some (c, left) e)
next-count ([] ∷ shares) left c e = absurd (none-some (c, left) e)
next-count ((d ∷ cs) ∷ shares) left c e = ap (λ (x : Certificate × List (List Certificate)). length x.1) (sym (some-is _ (c, left) e)) ∙ length-push shares cs ∙ omega (arith)

pub next-shares : (v : Viewing) (t : List Rule) (step n : ℕ) (shares left : List (List Certificate)) (c : Certificate) → n < length t → length shares ≡ step
    → AreShares v t step 0 (drop n t) shares → next_of shares ≡ Some (c, left) → AreShares v t step 0 (drop (n + 1) t) left
next-shares v t step n shares left c lt len a e =
    let s = rest-some t n lt in
    (turned v t step s.0 (drop (n + 1) t) shares c left len (subst (λ rest. AreShares v t step 0 rest shares) s.1 a) e).shares

pub next-fits : (v : Viewing) (t : List Rule) (step n : ℕ) (shares left : List (List Certificate)) (c : Certificate) (cs new : List Certificate) → n < length t
    → length shares ≡ step → AreShares v t step 0 (drop n t) shares → next_of shares ≡ Some (c, left) → Fits (IsPlanned v t) t (drop n t) cs → new ≡ cs ++ c ∷ []
    → Fits (IsPlanned v t) t (drop (n + 1) t) new
next-fits v t step n shares left c cs new lt len a e f is =
    let s = rest-some t n lt in
    let turn = turned v t step s.0 (drop (n + 1) t) shares c left len (subst (λ rest. AreShares v t step 0 rest shares) s.1 a) e in
    fits-more (IsPlanned v t) t (drop (n + 1) t) s.0 c cs new (subst (λ rest. Fits (IsPlanned v t) t rest cs) s.1 f) turn.first is

pub never-ends : (v : Viewing) (t : List Rule) (step n : ℕ) (shares : List (List Certificate)) → n < length t → 0 < length shares → AreShares v t step 0 (drop n t) shares
    → next_of shares ≡ None → ⊥
never-ends v t step n shares lt some a e =
    let s = rest-some t n lt in
    never-none v t step s.0 (drop (n + 1) t) shares some (subst (λ rest. AreShares v t step 0 rest shares) s.1 a) e

-- one share more
pub found-shares : (v : Viewing) (t : List Rule) (step : ℕ) (shares new : List (List Certificate)) (found : Result (List Certificate) OutOfMemory) (cs : List Certificate)
    (before after : List (Result (List Certificate) OutOfMemory)) → before ≡ found ∷ after → found ≡ Ok cs → new ≡ shares ++ cs ∷ []
    → AreFound v t step (length shares) t before → AreShares v t step 0 t shares → AreShares v t step 0 t new
found-shares v t step shares new found cs before after e ok is f a =
    let all : AreFound v t step (length shares) t (Ok cs ∷ after) = subst (AreFound v t step (length shares) t) (e ∙ ap (λ o. o ∷ after) ok) f in
    subst (AreShares v t step 0 t) (sym is) (shares-push v t step 0 (length shares) t shares cs (omega (arith)) a all.0)

pub found-left : (v : Viewing) (t : List Rule) (step : ℕ) (shares new : List (List Certificate)) (found : Result (List Certificate) OutOfMemory) (cs : List Certificate)
    (before after : List (Result (List Certificate) OutOfMemory)) → before ≡ found ∷ after → new ≡ shares ++ cs ∷ []
    → AreFound v t step (length shares) t before → AreFound v t step (length new) t after
found-left v t step shares new found cs before after e is f =
    let all : AreFound v t step (length shares) t (found ∷ after) = subst (AreFound v t step (length shares) t) e f in
    subst (λ n. AreFound v t step n t after) (omega (arith, ap length is ∙ length-push shares cs)) all.1

pub found-count : (shares new : List (List Certificate)) (found : Result (List Certificate) OutOfMemory) (cs : List Certificate)
    (before after : List (Result (List Certificate) OutOfMemory)) (n : ℕ) → before ≡ found ∷ after → new ≡ shares ++ cs ∷ [] → length shares + length before ≡ n
    → length new + length after ≡ n
found-count shares new found cs before after n e is len = omega (arith, ap length is ∙ length-push shares cs, ap length e, len)

-- what each worker found are the shares
found-each : (v : Viewing) (t : List Rule) (step others : ℕ) (found : List (Result (List Certificate) OutOfMemory))
    → ((i : ℕ) (d : Result (List Certificate) OutOfMemory) → i < length found → IfOk (get_or found i d) (IsShare v t step (others + i) t)) → AreFound v t step others t found
found-each v t step others [] each = tt
found-each v t step others (o ∷ found) each = (
  subst (λ n. IfOk o (IsShare v t step n t)) (omega (arith)) (each 0 o (omega (arith))),
  found-each v t step (suc others) found (λ i d lt. subst (λ n. IfOk (get_or found i d) (IsShare v t step n t)) (omega (arith)) (each (suc i) d (omega (arith, lt)))),
)

pub found-all : (v : Viewing) (t : List Rule) (step : ℕ) (found : List (Result (List Certificate) OutOfMemory))
    → ((i : ℕ) (d : Result (List Certificate) OutOfMemory) → i < length found → IfOk (get_or found i d) (IsShare v t step i t)) → AreFound v t step 0 t found
found-all v t step found each = found-each v t step 0 found (λ i d lt. subst (λ n. IfOk (get_or found i d) (IsShare v t step n t)) (omega (arith)) (each i d lt))

-- certificates that are planned
planned-are : (v : Viewing) (t rest : List Rule) (cs : List Certificate) → Each (IsPlanned v t) rest cs → Each (IsCertificate v t) rest cs
planned-are v t [] [] e = tt
planned-are v t [] (c ∷ cs) e = e
planned-are v t (r ∷ rest) [] e = e
planned-are v t (r ∷ rest) (c ∷ cs) e = (e.0.0, planned-are v t rest cs e.1)

planned-range : (v : Viewing) (t rest : List Rule) (cs : List Certificate) → Each (IsPlanned v t) rest cs → AllByRecursion IsCertificateInRange cs
planned-range v t [] [] e = tt
planned-range v t [] (c ∷ cs) e = absurd e
planned-range v t (r ∷ rest) [] e = tt
planned-range v t (r ∷ rest) (c ∷ cs) e = (e.0.1, planned-range v t rest cs e.1)

pub all_are : (v : Viewing) (t : List Rule) (o : Result (List Certificate) OutOfMemory) → IfOk o (Each (IsPlanned v t) t) → IfOk o (AreCertificates v t)
all_are v t (Ok cs) e = planned-are v t t cs e
all_are v t (Err f) e = tt

pub all_range : (v : Viewing) (t : List Rule) (o : Result (List Certificate) OutOfMemory) → IfOk o (Each (IsPlanned v t) t) → IfOk o (AllByRecursion IsCertificateInRange)
all_range v t (Ok cs) e = planned-range v t t cs e
all_range v t (Err f) e = tt

pub all_few : (v : Viewing) (t : List Rule) (o : Result (List Certificate) OutOfMemory) (most : ℕ) → length t < most → IfOk o (Each (IsPlanned v t) t) → IfOk o (λ cs. length cs < most)
all_few v t (Ok cs) most few e = omega (arith, few, each-length (IsPlanned v t) t cs e)
all_few v t (Err f) most few e = tt
