-- The last entry of the trail.
use Rattle.std.proofs.Common.{◌≡◌, ℕ, ◌<◌, refl, ap, ◌∙◌, subst, List, [], ◌∷◌, ◌++◌, length, replicate, Some, arith, append_assoc, zero, suc}
use Rattle.mon_cnf.specs.Formulas.{Cnf}
use Rattle.mon_refute.specs.declared.lines.LogLine.{LogLine}
use Rattle.mon_trail.specs.declared.look.Mark.{Mark}
use Rattle.mon_trail.specs.declared.look.Mark.TheVariants.{Free}
use Rattle.mon_trail.specs.declared.trail.Entry.{Entry}
use Rattle.mon_trail.specs.Trail.{HasReason, Reasoned, Leads, CanEnter, Stands, clauses_with}
use Rattle.mon_trail.proofs.Trails.{Popped, leads_pop, leads_length, leads_room}

length_free : (n : ℕ) → length (replicate n Free) ≡ n
length_free zero = refl
length_free (suc n) = ap suc (length_free n)

pub stands_length : (f : Cnf) (log : List LogLine) (es : List Entry) (marks : List Mark) → Stands f log es marks → length marks ≡ f.vars
stands_length f log es marks s = leads_length (clauses_with f log) (replicate f.vars Free) es marks s.leads ∙ length_free f.vars

-- what the last entry was entered on
abbrev pub PoppedOf : Cnf → List LogLine → List Entry → Entry → List Mark → Type 0
PoppedOf f log es e marks = Popped (clauses_with f log) (replicate f.vars Free) es e marks

pub popped_of : (f : Cnf) (log : List LogLine) (trail es : List Entry) (e : Entry) (marks : List Mark) → Stands f log trail marks → trail ≡ es ++ (e ∷ []) → PoppedOf f log es e marks
popped_of f log trail es e marks s t = leads_pop (clauses_with f log) (replicate f.vars Free) es marks e (subst (λ xs. Leads (clauses_with f log) (replicate f.vars Free) xs marks) t s.leads)

pub popped_within : (f : Cnf) (log : List LogLine) (trail es : List Entry) (e : Entry) (marks : List Mark) → Stands f log trail marks → trail ≡ es ++ (e ∷ []) → e.literal.var < length marks
popped_within f log trail es e marks s t =
    let p = popped_of f log trail es e marks s t in
    let n : length p.before ≡ length (replicate f.vars Free) = leads_length (clauses_with f log) (replicate f.vars Free) es p.before p.leads in
    let m = stands_length f log trail marks s in
    let w : e.literal.var < length p.before = p.can.0.0 in
    omega (arith, length_free f.vars)

pub was_more : (old trail es cut : List Entry) (e : Entry) → old ≡ trail ++ cut → trail ≡ es ++ (e ∷ []) → old ≡ es ++ (e ∷ cut)
was_more old trail es cut e w t = w ∙ ap (λ xs. xs ++ cut) t ∙ append_assoc es (e ∷ []) cut

pub reason_of : (f : Cnf) (log : List LogLine) (es : List Entry) (e : Entry) (marks : List Mark) (r : ℕ) (p : PoppedOf f log es e marks) → e.reason ≡ Some r → HasReason (clauses_with f log) p.before e.literal r
reason_of f log es e marks r p q = subst (λ o. Reasoned (clauses_with f log) p.before e.literal o) q p.can.1

-- there is room for one more entry
pub room : (f : Cnf) (log : List LogLine) (trail : List Entry) (marks : List Mark) (e : Entry) → Stands f log trail marks → CanEnter (clauses_with f log) marks e → length trail < f.vars
room f log trail marks e s c = leads_room (clauses_with f log) f.vars trail marks e.literal s.leads c.0
