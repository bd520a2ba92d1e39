-- A conflict on the way back along the trail.
use Rattle.std.proofs.Common.{◌≡◌, ℕ, ◌<◌, Bool, true, false, not, refl, sym, ap, ◌∙◌, subst, List, [], ◌∷◌, ◌++◌, length, set, replicate, Some, None, arith, append_assoc, zero, suc}
use Rattle.std.proofs.lemmas.List.{append-nil}
use Rattle.mon_cnf.specs.declared.clause.Lit.{Lit}
use Rattle.mon_cnf.specs.Formulas.{Cnf}
use Rattle.mon_refute.specs.declared.lines.LogLine.{LogLine}
use Rattle.mon_refute.specs.Follow.{named, opposite, follows, all_follow, mentions}
use Rattle.mon_refute.proofs.Growing.{one_more, follow_push, number_last}
use Rattle.mon_refute.proofs.Readings.{not_not}
use Rattle.mon_plain.specs.declared.look.Mark.{Mark}
use Rattle.mon_plain.specs.declared.look.Mark.TheVariants.{Free, Is}
use Rattle.mon_plain.specs.declared.pick.Entry.{Entry}
use Rattle.mon_plain.specs.declared.back.Back.TheVariants.{Refutes, Forces}
use Rattle.mon_plain.specs.Marks.{all_off}
use Rattle.mon_plain.specs.Trail.{HasReason, Reasoned, CanEnter, Leads, IsClosed, Stands, clauses_with, is_forced}
use Rattle.mon_plain.specs.Search.{Added, IsNamed, Backing, BackedUp}
use Rattle.mon_plain.proofs.Trails.{Popped, leads_pop, leads_more, leads_length, freed}
use Rattle.mon_plain.proofs.Resolving.{closed_without, off_there, resolved_follows}

length_free : (n : ℕ) → length (replicate n Free) ≡ n
length_free zero = refl
length_free (suc n) = ap suc (length_free n)

pub stands_length : (f : Cnf) (log : List LogLine) (es : List Entry) (marks : List Mark) → Stands f log es marks → length marks ≡ f.vars
stands_length f log es marks s = leads_length (clauses_with f log) (replicate f.vars Free) es marks s.leads ∙ length_free f.vars

pub start_backing : (f : Cnf) (old : List Entry) (log : List LogLine) (marks : List Mark) (h : ℕ) → Stands f log old marks → IsClosed (clauses_with f log) marks h → Backing f old log old marks h
start_backing f old log marks h s c = record { stands = s; closed = c; cut = []; was = sym (append-nil old) }

-- what the last entry was entered on
abbrev pub PoppedOf : Cnf → List LogLine → List Entry → Entry → List Mark → Type 0
PoppedOf f log es e marks = Popped (clauses_with f log) (replicate f.vars Free) es e marks

pub popped_of : (f : Cnf) (log : List LogLine) (trail es : List Entry) (e : Entry) (marks : List Mark) → Stands f log trail marks → trail ≡ es ++ (e ∷ []) → PoppedOf f log es e marks
popped_of f log trail es e marks s t = leads_pop (clauses_with f log) (replicate f.vars Free) es marks e (subst (λ xs. Leads (clauses_with f log) (replicate f.vars Free) xs marks) t s.leads)

pub popped_within : (f : Cnf) (log : List LogLine) (trail es : List Entry) (e : Entry) (marks : List Mark) → Stands f log trail marks → trail ≡ es ++ (e ∷ []) → e.literal.var < length marks
popped_within f log trail es e marks s t =
    let p = popped_of f log trail es e marks s t in
    let n : length p.before ≡ length (replicate f.vars Free) = leads_length (clauses_with f log) (replicate f.vars Free) es p.before p.leads in
    let m = stands_length f log trail marks s in
    let w : e.literal.var < length p.before = p.can.0.0 in
    omega (arith, length_free f.vars)

was_more : (old trail es cut : List Entry) (e : Entry) → old ≡ trail ++ cut → trail ≡ es ++ (e ∷ []) → old ≡ es ++ (e ∷ cut)
was_more old trail es cut e w t = w ∙ ap (λ xs. xs ++ cut) t ∙ append_assoc es (e ∷ []) cut

-- the state that the trail is taken back to
before_stands : (f : Cnf) (log : List LogLine) (trail es : List Entry) (e : Entry) (marks : List Mark) (s : Stands f log trail marks) (p : PoppedOf f log es e marks) → Stands f log es (set marks e.literal.var Free)
before_stands f log trail es e marks s p =
    subst (Stands f log es) (sym (freed p.before marks e p.can.0 p.marks_are)) (record { follow = s.follow; leads = p.leads })

-- the conflict doesn't mention the entry
pub back_skip : (f : Cnf) (old : List Entry) (log : List LogLine) (trail es : List Entry) (e : Entry) (marks : List Mark) (h : ℕ) (c : List Lit) → Backing f old log trail marks h → trail ≡ es ++ (e ∷ [])
    → named (clauses_with f log) h ≡ Some c → mentions e.literal.var c ≡ false → Backing f old log es (set marks e.literal.var Free) h
back_skip f old log trail es e marks h c b t n m =
    let p = popped_of f log trail es e marks b.stands t in
    record {
      stands = before_stands f log trail es e marks b.stands p;
      closed = subst (λ ms. IsClosed (clauses_with f log) ms h) (sym (freed p.before marks e p.can.0 p.marks_are))
          (closed_without (clauses_with f log) p.before e.literal.var _ h c (subst (λ ms. IsClosed (clauses_with f log) ms h) p.marks_are b.closed) n m);
      cut = e ∷ b.cut;
      was = was_more old trail es b.cut e b.was t;
    }

decision_not_forced : (e : Entry) → e.reason ≡ None → is_forced e ≡ false
decision_not_forced e n = ap (λ r. elim r as (λ _. Bool) [ None ↦ false | Some h ↦ true ]) n

-- the conflict forces the opposite of a decision
pub back_jump : (f : Cnf) (old : List Entry) (log : List LogLine) (trail es : List Entry) (e : Entry) (marks : List Mark) (h : ℕ) (c : List Lit) → Backing f old log trail marks h → trail ≡ es ++ (e ∷ [])
    → named (clauses_with f log) h ≡ Some c → mentions e.literal.var c ≡ true → e.reason ≡ None
    → BackedUp f old log es (set marks e.literal.var Free) (Forces (record { literal = opposite e.literal; reason = Some h }))
back_jump f old log trail es e marks h c b t n m r =
    let p = popped_of f log trail es e marks b.stands t in
    let k = freed p.before marks e p.can.0 p.marks_are in
    let off : all_off (set p.before e.literal.var (Is e.literal.positive)) c ≡ true = off_there (clauses_with f log) _ h c (subst (λ ms. IsClosed (clauses_with f log) ms h) p.marks_are b.closed) n in
    let turned : all_off (set p.before e.literal.var (Is (not (not e.literal.positive)))) c ≡ true = subst (λ q. all_off (set p.before e.literal.var (Is q)) c ≡ true) (sym (not_not e.literal.positive)) off in
    let can : CanEnter (clauses_with f log) p.before (record { literal = opposite e.literal; reason = Some h }) = (p.can.0, record { clause = c; there = n; forces = (turned, m) }) in (
      before_stands f log trail es e marks b.stands p,
      subst (λ ms. CanEnter (clauses_with f log) ms (record { literal = opposite e.literal; reason = Some h })) (sym k) can,
      refl,
      record { decision = e; cut = b.cut; was = was_more old trail es b.cut e b.was t; decided = decision_not_forced e r },
    )

reason_of : (f : Cnf) (log : List LogLine) (es : List Entry) (e : Entry) (marks : List Mark) (r : ℕ) (p : PoppedOf f log es e marks) → e.reason ≡ Some r → HasReason (clauses_with f log) p.before e.literal r
reason_of f log es e marks r p q = subst (λ o. Reasoned (clauses_with f log) p.before e.literal o) q p.can.1

pub reason_named : (f : Cnf) (log : List LogLine) (trail es : List Entry) (e : Entry) (marks : List Mark) (r : ℕ) → Stands f log trail marks → trail ≡ es ++ (e ∷ []) → e.reason ≡ Some r → IsNamed f.clauses log r
reason_named f log trail es e marks r s t q = let h = reason_of f log es e marks r (popped_of f log trail es e marks s t) q in (h.clause, h.there)

pub closed_named : (f : Cnf) (old : List Entry) (log : List LogLine) (trail : List Entry) (marks : List Mark) (h : ℕ) → Backing f old log trail marks h → IsNamed f.clauses log h
closed_named f old log trail marks h b = (b.closed.clause, b.closed.there)

-- the conflict is resolved with the reason of a forced literal
pub back_resolve : (f : Cnf) (old : List Entry) (log new : List LogLine) (trail es : List Entry) (e : Entry) (marks : List Mark) (h r n : ℕ) → Backing f old log trail marks h → trail ≡ es ++ (e ∷ [])
    → e.reason ≡ Some r → Added f.clauses log new r h e.literal.var n → Backing f old new es (set marks e.literal.var Free) n
back_resolve f old log new trail es e marks h r n b t q a =
    let p = popped_of f log trail es e marks b.stands t in
    let k = freed p.before marks e p.can.0 p.marks_are in
    let why = reason_of f log es e marks r p q in
    let one : IsClosed (clauses_with f log) (set p.before e.literal.var (Is (not e.literal.positive))) r = record { clause = why.clause; there = why.there; off = why.forces.0 } in
    let two : IsClosed (clauses_with f log) (set p.before e.literal.var (Is e.literal.positive)) h = subst (λ ms. IsClosed (clauses_with f log) ms h) p.marks_are b.closed in
    let g = resolved_follows p.before (clauses_with f log) e.literal r h a.line why.clause p.can.0 a.literals a.hints one two why.there why.forces.1 in
    let w : length p.before ≡ f.vars = leads_length (clauses_with f log) (replicate f.vars Free) es p.before p.leads ∙ length_free f.vars in
    let fl : follows f.vars (clauses_with f log) a.line ≡ true = ap (λ v. follows v (clauses_with f log) a.line) (sym w) ∙ g.1 in
    record {
      stands = subst (Stands f new es) (sym k) (record {
        follow = ap (all_follow f.vars f.clauses) a.log ∙ follow_push f.vars f.clauses log a.line b.stands.follow fl;
        leads = subst (λ cs. Leads cs (replicate f.vars Free) es p.before) (one_more f.clauses log new a.line a.log) (leads_more (clauses_with f log) (a.line.literals ∷ []) (replicate f.vars Free) es p.before p.leads);
      });
      closed = subst (λ ms. IsClosed (clauses_with f new) ms n) (sym k) (record { clause = a.line.literals; there = number_last f.clauses log new a.line n a.log a.number; off = g.0 });
      cut = e ∷ b.cut;
      was = was_more old trail es b.cut e b.was t;
    }

pub back_end : (f : Cnf) (old : List Entry) (log : List LogLine) (trail : List Entry) (marks : List Mark) (h : ℕ) → Backing f old log trail marks h → trail ≡ [] → BackedUp f old log trail marks (Refutes h)
back_end f old log trail marks h b e = (b.stands, e, b.closed)
