-- Entries come to the trail and go.
use Rattle.std.proofs.Common.{◌≡◌, ℕ, ◌+◌, ◌<◌, Bool, true, false, cond, refl, sym, ap, ◌∙◌, subst, List, [], ◌∷◌, ◌++◌, length, set, replicate, Option, Some, None, arith, zero, suc}
use Rattle.std.proofs.lemmas.List.{length-set, set-set, set-get_or}
use Rattle.mon_cnf.specs.declared.clause.Lit.{Lit}
use Rattle.mon_refute.proofs.Growing.{named_grown}
use Rattle.mon_trail.specs.declared.look.Mark.{Mark}
use Rattle.mon_trail.specs.declared.look.Mark.TheVariants.{Free, Is}
use Rattle.mon_trail.specs.declared.trail.Entry.{Entry}
use Rattle.mon_trail.specs.Marks.{IsOpen, mark_at}
use Rattle.mon_trail.specs.Trail.{Reasoned, entered, CanEnter, Leads}

pub leads_push : (cs : List (List Lit)) (base : List Mark) (es : List Entry) (marks : List Mark) (e : Entry) → Leads cs base es marks → CanEnter cs marks e → Leads cs base (es ++ (e ∷ [])) (entered marks e)
leads_push cs base [] marks e s c = (subst (λ m. CanEnter cs m e) s c, ap (λ m. entered m e) s)
leads_push cs base (d ∷ ds) marks e s c = (s.0, leads_push cs (entered base d) ds marks e s.1 c)

pub record Popped (cs : List (List Lit)) (base : List Mark) (es : List Entry) (e : Entry) (marks : List Mark) : Type 0 where
  pub before : List Mark
  pub leads : Leads cs base es before
  pub can : CanEnter cs before e
  pub marks_are : marks ≡ entered before e

pub leads_pop : (cs : List (List Lit)) (base : List Mark) (es : List Entry) (marks : List Mark) (e : Entry) → Leads cs base (es ++ (e ∷ [])) marks → Popped cs base es e marks
leads_pop cs base [] marks e s = record { before = base; leads = refl; can = s.0; marks_are = s.1 }
leads_pop cs base (d ∷ ds) marks e s =
    let p = leads_pop cs (entered base d) ds marks e s.1 in
    record { before = p.before; leads = (s.0, p.leads); can = p.can; marks_are = p.marks_are }

-- freeing the variable takes the marks back
pub freed : (before marks : List Mark) (e : Entry) → IsOpen before e.literal → marks ≡ entered before e → set marks e.literal.var Free ≡ before
freed before marks e o m = ap (λ xs. set xs e.literal.var Free) m ∙ set-set before e.literal.var _ Free ∙ ap (set before e.literal.var) (sym o.1) ∙ set-get_or before e.literal.var Free

reasoned_more : (cs more : List (List Lit)) (marks : List Mark) (l : Lit) (r : Option ℕ) → Reasoned cs marks l r → Reasoned (cs ++ more) marks l r
reasoned_more cs more marks l None b = tt
reasoned_more cs more marks l (Some h) b = record { clause = b.clause; there = named_grown cs more h b.clause b.there; forces = b.forces }

-- a line more in the log
pub leads_more : (cs more : List (List Lit)) (base : List Mark) (es : List Entry) (marks : List Mark) → Leads cs base es marks → Leads (cs ++ more) base es marks
leads_more cs more base [] marks s = s
leads_more cs more base (e ∷ es) marks s = ((s.0.0, reasoned_more cs more base e.literal e.reason s.0.1), leads_more cs more (entered base e) es marks s.1)

pub leads_length : (cs : List (List Lit)) (base : List Mark) (es : List Entry) (marks : List Mark) → Leads cs base es marks → length marks ≡ length base
leads_length cs base [] marks s = ap length s
leads_length cs base (e ∷ es) marks s = leads_length cs (entered base e) es marks s.1 ∙ length-set base e.literal.var (Is e.literal.positive)

-- how many variables are undecided
abbrev pub is_free : Mark → Bool
is_free Free = true
is_free (Is b) = false

abbrev pub free_count : List Mark → ℕ
free_count [] = 0
free_count (m ∷ ms) = cond (is_free m) (free_count ms + 1) (free_count ms)

one_less : (b : Bool) (i j : ℕ) → j ≡ i + 1 → cond b (j + 1) j ≡ cond b (i + 1) i + 1
one_less true i j e = omega arith
one_less false i j e = e

fewer_by_one : (marks : List Mark) (x : ℕ) (b : Bool) → x < length marks → mark_at marks x ≡ Free → free_count marks ≡ free_count (set marks x (Is b)) + 1
fewer_by_one [] x b w e = absurd (omega arith)
fewer_by_one (m ∷ ms) zero b w e = ap (λ (m : Mark). free_count (m ∷ ms)) e
fewer_by_one (m ∷ ms) (suc x) b w e = one_less (is_free m) _ _ (fewer_by_one ms x b (omega arith) e)

plain : (n : ℕ) → 0 + n ≡ n
plain n = omega arith

count_step : (n f g b : ℕ) → n + f ≡ g → b ≡ g + 1 → suc n + f ≡ b
count_step n f g b p q = omega arith

leads_count : (cs : List (List Lit)) (base : List Mark) (es : List Entry) (marks : List Mark) → Leads cs base es marks → length es + free_count marks ≡ free_count base
leads_count cs base [] marks s = ap (λ m. 0 + free_count m) s ∙ plain (free_count base)
leads_count cs base (e ∷ es) marks s = count_step (length es) (free_count marks) _ _ (leads_count cs (entered base e) es marks s.1) (fewer_by_one base e.literal.var e.literal.positive s.0.0.0 s.0.0.1)

next : (n : ℕ) → n + 1 ≡ suc n
next n = omega arith

all_free : (n : ℕ) → free_count (replicate n Free) ≡ n
all_free zero = refl
all_free (suc n) = ap (λ k. k + 1) (all_free n) ∙ next n

-- so there is room for one more entry
pub leads_room : (cs : List (List Lit)) (n : ℕ) (es : List Entry) (marks : List Mark) (l : Lit) → Leads cs (replicate n Free) es marks → IsOpen marks l → length es < n
leads_room cs n es marks l s o = omega (arith, leads_count cs (replicate n Free) es marks s, all_free n, fewer_by_one marks l.var true o.0 o.1)
