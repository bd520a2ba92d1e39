-- What the steps of the search answer together.
use Rattle.std.proofs.Common.{◌≡◌, ℕ, ◌<◌, true, sym, subst, List, ◌∷◌, [], ◌++◌, length, Option, Some, None, Result, Ok, Err, IfOk, arith}
use Rattle.mon_cnf.specs.declared.clause.Lit.{Lit}
use Rattle.mon_cnf.specs.Formulas.{Cnf}
use Rattle.mon_cnf.specs.Truth.{Within}
use Rattle.mon_refute.specs.declared.lines.LogLine.{LogLine}
use Rattle.mon_refute.specs.Follow.{named}
use Rattle.mon_trail.specs.declared.look.Mark.{Mark}
use Rattle.mon_trail.specs.declared.trail.Entry.{Entry}
use Rattle.mon_trail.specs.declared.trail.Trail.{Trail}
use Rattle.mon_trail.specs.Marks.{all_off, IsOpen, Forces}
use Rattle.mon_trail.specs.Trail.{CanEnter, IsClosed, Stands, clauses_with, entered}
use Rattle.mon_trail.proofs.Popping.{stands_length}
use Rattle.mon_cdcl.specs.declared.solver.End.{End}
use Rattle.mon_cdcl.specs.declared.solver.Go.TheVariants.{On}
use Rattle.mon_cdcl.specs.Back.{FellBack}
use Rattle.mon_cdcl.specs.Counts.{AskedAtLeast}
use Rattle.mon_cdcl.specs.Search.{Grown, Propagated, Settled, Stepped, WentOn, work}
use Rattle.mon_cdcl.proofs.Steps.{stands_as, entering_works, jumping_works, growing_works, restarting_works, grown_more, grown_push, asked_start}

-- a clause of the formula or the log is of the variables of the marks
pub within_marks : (f : Cnf) (log : List LogLine) (es : List Entry) (marks : List Mark) (c : List Lit) → Stands f log es marks → Within f.vars c → Within (length marks) c
within_marks f log es marks c s w = subst (λ n. Within n c) (sym (stands_length f log es marks s)) w

pub closed_at : (cs : List (List Lit)) (marks : List Mark) (h : ℕ) (c : List Lit) → named cs h ≡ Some c → all_off marks c ≡ true → IsClosed cs marks h
closed_at cs marks h c e o = record { clause = c; there = e; off = o }

pub unit_can : (cs : List (List Lit)) (marks : List Mark) (l : Lit) (h : ℕ) (c : List Lit) → named cs h ≡ Some c → IsOpen marks l × Forces marks c l → CanEnter cs marks (record { literal = l; reason = Some h })
unit_can cs marks l h c e o = (o.0, record { clause = c; there = e; forces = o.1 })

pub propagated_more : (f : Cnf) (log : List LogLine) (old mid new : Trail) (h : Option ℕ) → Grown f log old mid → Propagated f log mid new h → Propagated f log old new h
propagated_more f log old mid new None g p = grown_more f log old mid new g p
propagated_more f log old mid new (Some h) g p = (grown_more f log old mid new g p.0, p.1)

pub settled_steps : (f : Cnf) (old es : List Entry) (log : List LogLine) (marks : List Mark) (t : Trail) (e : Entry) (left : ℕ) → Settled f old log es marks (Some e) → t.marks.items ≡ entered marks e → t.entries.items ≡ es ++ (e ∷ [])
    → Stepped f left old left log t None
settled_steps f old es log marks t e left s m g = (
  stands_as f log es t.entries.items marks t.marks.items e s.0 s.1 g m,
  jumping_works f log left old es t.entries.items marks e s.0 s.1 s.2 s.3 g,
)

-- what an entry after others has grown
pub stepped_grown : (f : Cnf) (log new : List LogLine) (left now : ℕ) (old mid t : Trail) (end : Option End) → Grown f log old mid → Stepped f left mid.entries.items now new t end → Stepped f left old.entries.items now new t end
stepped_grown f log new left now old mid t None g s = (s.0, (let a = growing_works f left old.entries.items mid.entries.items g.more g.is in let b : work f now t.entries.items < work f left mid.entries.items = s.1 in omega arith))
stepped_grown f log new left now old mid t (Some end) g s = s

pub went_on_grown : (f : Cnf) (log : List LogLine) (left now : ℕ) (old mid t : Trail) → Grown f log old mid → WentOn f left mid now log t On → Stepped f left old.entries.items now log t None
went_on_grown f log left now old mid t g s = stepped_grown f log log left now old mid t None g s

pub restarted : (f : Cnf) (log : List LogLine) (left now len : ℕ) (old t : Trail) → FellBack f log old.entries.items old.marks.items t.entries.items t.marks.items len → now < left → WentOn f left old now log t On
restarted f log left now len old t b h = (b.stands, restarting_works f left now old.entries.items t.entries.items h)

pub went_entered : (f : Cnf) (log : List LogLine) (left now : ℕ) (old t : Trail) (e : Entry) → Stands f log old.entries.items old.marks.items → CanEnter (clauses_with f log) old.marks.items e → t.marks.items ≡ entered old.marks.items e
    → t.entries.items ≡ old.entries.items ++ (e ∷ []) → now ≡ left → WentOn f left old now log t On
went_entered f log left now old t e s c m g z = (
  stands_as f log old.entries.items t.entries.items old.marks.items t.marks.items e s c g m,
  subst (λ n. work f n t.entries.items < work f left old.entries.items) (sym z) (entering_works f log left old.entries.items t.entries.items old.marks.items e s c g),
)

-- a clause's last literal is entered
pub grown_unit : (f : Cnf) (log : List LogLine) (old mid new : Trail) (l : Lit) (h : ℕ) (c : List Lit) (marks : List Mark) → Grown f log old mid → named (clauses_with f log) h ≡ Some c → marks ≡ mid.marks.items → IsOpen marks l × Forces marks c l
    → new.marks.items ≡ entered mid.marks.items (record { literal = l; reason = Some h }) → new.entries.items ≡ mid.entries.items ++ (record { literal = l; reason = Some h } ∷ []) → Grown f log old new
grown_unit f log old mid new l h c marks g e z o m x =
    grown_push f log old mid new (record { literal = l; reason = Some h }) g (unit_can (clauses_with f log) mid.marks.items l h c e (subst (λ ms. IsOpen ms l × Forces ms c l) z o)) m x

-- a conflict was learned of, after the trail had grown
pub learned_step : {E : Type 0} → (f : Cnf) (log new : List LogLine) (r : Result (Option End) E) (left now : ℕ) (old mid t : Trail) → now ≡ left → Grown f log old mid
    → IfOk r (λ end. (k : ℕ) → Stepped f k mid.entries.items k new t end) → IfOk r (Stepped f left old.entries.items now new t)
learned_step f log new (Ok end) left now old mid t z g s = subst (λ n. Stepped f left old.entries.items n new t end) (sym z) (stepped_grown f log new left left old mid t end g (s left))
learned_step f log new (Err e) left now old mid t z g s = s

pub stands_is : (f : Cnf) (ls log : List LogLine) (t u : Trail) → Stands f ls t.entries.items t.marks.items → log ≡ ls → u ≡ t → Stands f log u.entries.items u.marks.items
stands_is f ls log t u s e z = subst (λ x. Stands f log x.entries.items x.marks.items) (sym z) (subst (λ l. Stands f l t.entries.items t.marks.items) (sym e) s)

pub asked_first : (log : List LogLine) (o : Option ℕ) → log ≡ [] → AskedAtLeast (length log) o o
asked_first log o e = subst (λ l. AskedAtLeast (length l) o o) (sym e) (asked_start o)
