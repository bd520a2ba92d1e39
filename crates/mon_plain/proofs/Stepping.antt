-- Steps of the search.
use Rattle.std.proofs.Common.{◌≡◌, ℕ, ◌<◌, true, subst, List, [], ◌∷◌, ◌++◌, length, replicate}
use Rattle.mon_cnf.specs.Formulas.{Cnf}
use Rattle.mon_refute.specs.declared.lines.LogLine.{LogLine}
use Rattle.mon_refute.specs.Follow.{all_follow}
use Rattle.mon_plain.specs.declared.look.Mark.{Mark}
use Rattle.mon_plain.specs.declared.look.Mark.TheVariants.{Free}
use Rattle.mon_plain.specs.declared.pick.Entry.{Entry}
use Rattle.mon_plain.specs.declared.back.Back.{Back}
use Rattle.mon_plain.specs.declared.back.Back.TheVariants.{Refutes, Forces}
use Rattle.mon_plain.specs.declared.solve.Step.TheVariants.{Next, Refuted}
use Rattle.mon_plain.specs.Trail.{CanEnter, entered, Leads, IsClosed, Stands, clauses_with}
use Rattle.mon_plain.specs.Search.{BackedUp, Stepped}
use Rattle.mon_plain.proofs.Trails.{leads_push, leads_room}
use Rattle.mon_plain.proofs.Ranks.{entering_rises, jumping_rises}

room : (f : Cnf) (log : List LogLine) (trail : List Entry) (marks : List Mark) (e : Entry) → Stands f log trail marks → CanEnter (clauses_with f log) marks e → length trail < f.vars
room f log trail marks e s c = leads_room (clauses_with f log) f.vars trail marks e.literal s.leads c.0

pub step_enter : (f : Cnf) (log : List LogLine) (trail : List Entry) (marks : List Mark) (e : Entry) → Stands f log trail marks → CanEnter (clauses_with f log) marks e → Stepped f trail log trail marks (Next e)
step_enter f log trail marks e s c = (s, c, entering_rises f trail e (room f log trail marks e s c))

pub step_forced : (f : Cnf) (old : List Entry) (log : List LogLine) (trail : List Entry) (marks : List Mark) (b : Back) (e : Entry) → BackedUp f old log trail marks b → b ≡ Forces e → Stepped f old log trail marks (Next e)
step_forced f old log trail marks b e h i =
    let k = subst (BackedUp f old log trail marks) i h in
    (k.0, k.1, jumping_rises f old trail k.3.cut k.3.decision e k.3.was k.3.decided k.2 (room f log trail marks e k.0 k.1))

refuted_from : (f : Cnf) (log : List LogLine) (trail : List Entry) (marks : List Mark) (h : ℕ) → Stands f log trail marks → trail ≡ [] → IsClosed (clauses_with f log) marks h
    → (all_follow f.vars f.clauses log ≡ true) × IsClosed (clauses_with f log) (replicate f.vars Free) h
refuted_from f log trail marks h s t c =
    let l : marks ≡ replicate f.vars Free = subst (λ es. Leads (clauses_with f log) (replicate f.vars Free) es marks) t s.leads in
    (s.follow, subst (λ ms. IsClosed (clauses_with f log) ms h) l c)

pub step_refuted : (f : Cnf) (old : List Entry) (log : List LogLine) (trail : List Entry) (marks : List Mark) (b : Back) (h : ℕ) → BackedUp f old log trail marks b → b ≡ Refutes h → Stepped f old log trail marks (Refuted h)
step_refuted f old log trail marks b h k i = let j = subst (BackedUp f old log trail marks) i k in refuted_from f log trail marks h j.0 j.1 j.2

pub entered_stands : (f : Cnf) (old : List Entry) (log : List LogLine) (trail : List Entry) (marks : List Mark) (e : Entry) → Stepped f old log trail marks (Next e) → Stands f log (trail ++ (e ∷ [])) (entered marks e)
entered_stands f old log trail marks e s = record { follow = s.0.follow; leads = leads_push (clauses_with f log) (replicate f.vars Free) trail marks e s.0.leads s.1 }
