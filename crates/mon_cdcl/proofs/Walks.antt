-- A conflict while the trail is taken back, entry by entry.
use Rattle.std.proofs.Common.{◌≡◌, ◌≢◌, ℕ, ◌<◌, Bool, true, false, not, refl, sym, ap, ◌∙◌, subst, List, [], ◌∷◌, ◌++◌, length, set, replicate, reverse, Some, ◌⊎◌, ⊎_elim, inl, inr, zero, suc, arith}
use Rattle.std.proofs.lemmas.List.{get_or-set_other, get_or-set_same, length-set, append-nil, reverse-append, length-replicate}
use Rattle.std.proofs.lemmas.Bool.{false≢true, cases_eq, or_right, false_from_ne_true, both_ways}
use Rattle.mon_list.specs.Has.{Has}
use Rattle.mon_cnf.specs.declared.clause.Lit.{Lit}
use Rattle.mon_cnf.specs.Formulas.{Cnf}
use Rattle.mon_cnf.specs.Truth.{Within}
use Rattle.mon_refute.specs.declared.lines.LogLine.{LogLine}
use Rattle.mon_refute.specs.declared.marks.Reading.TheVariants.{Contradicts, Gives}
use Rattle.mon_refute.specs.Follow.{opposite, is_true, is_false, rest, reading, reading_of, named, by_hints, mentions}
use Rattle.mon_refute.proofs.Readings.{all_has, has_true, true_has, reading_none, reading_unit, opposite_opposite, not_not, hint_then}
use Rattle.mon_trail.specs.declared.look.Mark.{Mark}
use Rattle.mon_trail.specs.declared.look.Mark.TheVariants.{Free, Is}
use Rattle.mon_trail.specs.declared.trail.Entry.{Entry}
use Rattle.mon_trail.specs.Marks.{mark_at, is_on, is_off, makes_on, makes_off, all_off, IsOpen}
use Rattle.mon_trail.specs.Trail.{IsClosed, IsNamed, Stands, clauses_with}
use Rattle.mon_trail.proofs.Falsified.{off_here, off_within}
use Rattle.mon_trail.proofs.Mentions.{some_is, mentioned}
use Rattle.mon_trail.proofs.Naming.{closed_within, reason_within}
use Rattle.mon_trail.proofs.Popping.{PoppedOf, popped_of, reason_of, stands_length, was_more}
use Rattle.mon_trail.proofs.Trails.{freed}
use Rattle.mon_cdcl.specs.Seen.{is_seen, AreListed, Noted}
use Rattle.mon_cdcl.specs.Back.{AreOn, KnowsSeen, AreDecided, Closes, Asserts, IsTarget, Walking, Turned}
use Rattle.mon_cdcl.proofs.Noting.{seen_without, none_seen}

-- a literal of a free variable is neither
pub free_not_off : (m : Mark) (p : Bool) → m ≡ Free → makes_off m p ≡ true → ⊥
free_not_off m p e o = false≢true (ap (λ n. makes_off n p) (sym e) ∙ o)

pub free_not_on : (m : Mark) (p : Bool) → m ≡ Free → makes_on m p ≡ true → ⊥
free_not_on m p e o = false≢true (ap (λ n. makes_on n p) (sym e) ∙ o)

-- what is true stays true when a free variable is decided
on_stays : (marks : List Mark) (x : ℕ) (m : Mark) (k : Lit) → mark_at marks x ≡ Free → is_on marks k ≡ true → is_on (set marks x m) k ≡ true
on_stays marks x m k f o =
    ⊎_elim
    (λ (e : k.var ≡ x). absurd (free_not_on (mark_at marks k.var) k.positive (ap (mark_at marks) e ∙ f) o))
    (λ (n : k.var ≡ x → ⊥). ap (λ y. makes_on y k.positive) (get_or-set_other marks x k.var m Free n) ∙ o)
    (cases_eq k.var x)

on_by : (p : Bool) → makes_on (Is p) p ≡ true
on_by true = refl
on_by false = refl

here_on : (marks : List Mark) (l : Lit) → l.var < length marks → is_on (set marks l.var (Is l.positive)) l ≡ true
here_on marks l w = ap (λ m. makes_on m l.positive) (get_or-set_same marks l.var (Is l.positive) Free w) ∙ on_by l.positive

known_stays : (before : List Mark) (x : ℕ) (m : Mark) (known : List Lit) → mark_at before x ≡ Free → AreOn before known → AreOn (set before x m) known
known_stays before x m known f a = record { each = λ k h. on_stays before x m k f (a.each k h) }

known_pushed : (before : List Mark) (l : Lit) (known : List Lit) → IsOpen before l → AreOn before known → AreOn (set before l.var (Is l.positive)) (l ∷ known)
known_pushed before l known o a = record {
  each = λ k h. ⊎_elim (λ (e : k ≡ l). ap (is_on (set before l.var (Is l.positive))) e ∙ here_on before l o.0) (λ (i : Has known k). on_stays before l.var (Is l.positive) k o.1 (a.each k i)) h;
}

-- what an entry made false, and what was false before it
off_popped : (before : List Mark) (l k : Lit) → IsOpen before l → is_off (set before l.var (Is l.positive)) k ≡ true → (k ≡ opposite l) ⊎ ((k.var ≢ l.var) × (is_off before k ≡ true))
off_popped before l k o f =
    ⊎_elim
    (λ (e : k.var ≡ l.var).
    let g : is_off (set before l.var (Is (not (not l.positive)))) k ≡ true = subst (λ b. is_off (set before l.var (Is b)) k ≡ true) (sym (not_not l.positive)) f in
    inl (off_here before (opposite l) k o.0 g e))
    (λ (n : k.var ≡ l.var → ⊥). inr (n, ap (λ y. makes_off y k.positive) (sym (get_or-set_other before l.var k.var (Is l.positive) Free n)) ∙ f))
    (cases_eq k.var l.var)

module _ (cs : List (List Lit)) (before : List Mark) (l : Lit) (flags : List Bool) (hints : List ℕ) (o : IsOpen before l) where
  -- who knows the literal, and what is seen but for it, closes
  pub step_known : (more : List Bool) (known : List Lit) → Closes cs (set before l.var (Is l.positive)) flags hints → ((y : ℕ) → y ≢ l.var → is_seen flags y ≡ true → is_seen more y ≡ true)
      → AreOn before known → KnowsSeen before more known → by_hints cs (l ∷ known) hints ≡ true
  step_known more known c g a s =
      c.each (l ∷ known) (known_pushed before l known o a) (record {
        each = λ k f h. ⊎_elim
            (λ (e : k ≡ opposite l). has_true (l ∷ known) (opposite k) (inl (ap opposite e ∙ opposite_opposite l)))
            (λ (p : (k.var ≢ l.var) × (is_off before k ≡ true)). or_right _ _ (s.each k p.1 (g k.var p.0 h)))
            (off_popped before l k o f);
      })

  -- what is known of the variables that are seen, when a variable that isn't seen is decided
  knows_skip : (known : List Lit) → is_seen flags l.var ≡ false → KnowsSeen before flags known → KnowsSeen (set before l.var (Is l.positive)) flags known
  knows_skip known n s = record {
    each = λ k f h. ⊎_elim
        (λ (e : k ≡ opposite l). absurd (both_ways (is_seen flags l.var) n (ap (λ (q : Lit). is_seen flags q.var) (sym e) ∙ h)))
        (λ (p : (k.var ≢ l.var) × (is_off before k ≡ true)). s.each k p.1 h)
        (off_popped before l k o f);
  }

  pub close_skip : is_seen flags l.var ≡ false → Closes cs (set before l.var (Is l.positive)) flags hints → Closes cs before flags hints
  close_skip n c = record { each = λ known a s. c.each known (known_stays before l.var (Is l.positive) known o.1 a) (knows_skip known n s) }

  open_skip : (a : Lit) → IsOpen (set before l.var (Is l.positive)) a → IsOpen before a
  open_skip a p = (
    subst (λ n. a.var < n) (length-set before l.var (Is l.positive)) p.0,
    ⊎_elim (λ (e : a.var ≡ l.var). ap (mark_at before) e ∙ o.1) (λ (n : a.var ≡ l.var → ⊥). sym (get_or-set_other before l.var a.var (Is l.positive) Free n) ∙ p.1) (cases_eq a.var l.var),
  )

  pub decided_skip : (less : List Bool) → ((y : ℕ) → is_seen less y ≡ true → (y ≢ l.var) × (is_seen flags y ≡ true)) → AreDecided (set before l.var (Is l.positive)) flags → AreDecided before less
  decided_skip less g d = record { each = λ y h e. let p = g y h in d.each y p.1 (get_or-set_other before l.var y (Is l.positive) Free p.0 ∙ e) }

  pub not_seen : is_seen flags l.var ≡ false → (y : ℕ) → is_seen flags y ≡ true → (y ≢ l.var) × (is_seen flags y ≡ true)
  not_seen n y h = (λ e. both_ways (is_seen flags y) (ap (is_seen flags) e ∙ n) h, h)

  pub assert_skip : (a : Lit) → is_seen flags l.var ≡ false → Asserts cs (set before l.var (Is l.positive)) flags hints a → Asserts cs before flags hints a
  assert_skip a n c = record {
    free = open_skip a c.free;
    decided = decided_skip flags (not_seen n) c.decided;
    each = λ known b s. c.each known (known_stays before l.var (Is l.positive) known o.1 b) (knows_skip known n s);
  }

  -- the literal's variable isn't seen any more
  pub assert_turn : l.var < length flags → AreDecided (set before l.var (Is l.positive)) flags → Closes cs (set before l.var (Is l.positive)) flags hints → Asserts cs before (set flags l.var false) hints (opposite l)
  assert_turn w d c = record {
    free = o;
    decided = decided_skip (set flags l.var false) (λ y h. seen_without flags l.var y w h) d;
    each = λ known a s. ap (λ q. by_hints cs (q ∷ known) hints) (opposite_opposite l)
        ∙ step_known (set flags l.var false) known c (λ y n h. get_or-set_other flags l.var y false false n ∙ h) a s;
  }

  not_on : (known : List Lit) (k : Lit) → AreOn before known → k.var ≡ l.var → is_true known k ≡ false
  not_on known k a e = false_from_ne_true _ (λ t. free_not_on (mark_at before k.var) k.positive (ap (mark_at before) e ∙ o.1) (a.each k (true_has known k t)))

  -- the reason gives the literal
  reason_gives : (c : List Lit) (known : List Lit) → AreOn before known → all_off (set before l.var (Is (not l.positive))) c ≡ true → mentions l.var c ≡ true
      → ((k : Lit) → Has c k → k.var ≢ l.var → is_false known k ≡ true) → reading known (rest known c) ≡ Gives l
  reason_gives c known a f m g =
      let y = mentioned c l.var m in
      let h : Has c l = subst (Has c) (off_here before l y.0 o.0 (all_has _ c y.0 f y.1) y.2) y.1 in
      reading_unit known c l (not_on known (opposite l) a refl) (not_on known l a refl)
      (λ k i. ⊎_elim (λ (e : k.var ≡ l.var). inr (off_here before l k o.0 (all_has _ c k f i) e)) (λ (n : k.var ≡ l.var → ⊥). inl (g k i n)) (cases_eq k.var l.var)) h

  off_before : (m : Mark) (k : Lit) → is_off (set before l.var m) k ≡ true → k.var ≢ l.var → is_off before k ≡ true
  off_before m k f n = ap (λ y. makes_off y k.positive) (sym (get_or-set_other before l.var k.var m Free n)) ∙ f

  -- the reason is resolved away
  pub close_resolve : (r : ℕ) (c : List Lit) (had has : List ℕ) (more : List Bool) → named cs r ≡ Some c → all_off (set before l.var (Is (not l.positive))) c ≡ true → mentions l.var c ≡ true
      → Noted (set flags l.var false) had c l.var more has → Closes cs (set before l.var (Is l.positive)) flags hints → Closes cs before more (r ∷ hints)
  close_resolve r c had has more e f m j b = record {
    each = λ known a s.
        hint_then cs known r hints (Gives l)
        (ap (reading_of known) e ∙ reason_gives c known a f m (λ k i n. s.each k (off_before _ k (all_has _ c k f i) n) (j.added k i n)))
        ∙ step_known more known b (λ y n h. j.kept y (get_or-set_other flags l.var y false false n ∙ h)) a s;
  }

  off_decided : (m : Mark) (k : Lit) → is_off (set before l.var m) k ≡ true → k.var ≢ l.var → mark_at before k.var ≢ Free
  off_decided m k f n e = free_not_off (mark_at before k.var) k.positive e (off_before m k f n)

  pub decided_resolve : (c : List Lit) (had has : List ℕ) (more : List Bool) → l.var < length flags → all_off (set before l.var (Is (not l.positive))) c ≡ true
      → Noted (set flags l.var false) had c l.var more has → AreDecided (set before l.var (Is l.positive)) flags → AreDecided before more
  decided_resolve c had has more w f j d =
      let q = decided_skip (set flags l.var false) (λ y h. seen_without flags l.var y w h) d in
      record {
        each = λ y h e. ⊎_elim (λ (s : is_seen (set flags l.var false) y ≡ true). q.each y s e)
            (λ (s : (k : Lit) × Has c k × (k.var ≢ l.var) × (y ≡ k.var)). off_decided _ s.0 (all_has _ c s.0 f s.1) s.2 (ap (mark_at before) (sym s.3) ∙ e))
            (j.only y h);
      }

-- fewer are seen
listed_less : (flags : List Bool) (vars : List ℕ) (x : ℕ) → x < length flags → AreListed flags vars → AreListed (set flags x false) vars
listed_less flags vars x w a = record { each = λ y h. a.each y (seen_without flags x y w h).1 }

-- no clause has the number 0
pub named_positive : (cs : List (List Lit)) (h : ℕ) (c : List Lit) → named cs h ≡ Some c → 0 < h
named_positive cs zero c e = cc
named_positive cs (suc h) c e = omega arith

pub back_stands : (f : Cnf) (log : List LogLine) (trail es : List Entry) (e : Entry) (marks : List Mark) (s : Stands f log trail marks) (p : PoppedOf f log es e marks) → Stands f log es (set marks e.literal.var Free)
back_stands f log trail es e marks s p = subst (Stands f log es) (sym (freed p.before marks e p.can.0 p.marks_are)) (record { follow = s.follow; leads = p.leads })

pub start_within : (f : Cnf) (log : List LogLine) (es : List Entry) (marks : List Mark) (h : ℕ) (c : List Lit) (flags none : List Bool) → Stands f log es marks → IsClosed (clauses_with f log) marks h → named (clauses_with f log) h ≡ Some c
    → length flags ≡ f.vars → none ≡ replicate (length flags) false → Within (length none) c
start_within f log es marks h c flags none s k e z g =
    closed_within (clauses_with f log) marks h (length none) c k e (stands_length f log es marks s ∙ sym z ∙ sym (ap length g ∙ length-replicate (length flags) false))

pub start_walking : (f : Cnf) (log : List LogLine) (es : List Entry) (marks : List Mark) (h : ℕ) (c : List Lit) (n : ℕ) (none : List Bool) (empty : List ℕ) (far : ℕ) (flags : List Bool) (vars start hints : List ℕ) → Stands f log es marks
    → IsClosed (clauses_with f log) marks h → named (clauses_with f log) h ≡ Some c → n ≡ f.vars → none ≡ replicate n false → empty ≡ [] → far ≡ f.vars → Noted none empty c far flags vars → start ≡ [] → hints ≡ start ++ (h ∷ [])
    → Walking f es log es marks flags vars hints
start_walking f log es marks h c n none empty far flags vars start hints s k e z nn en fn j sn g =
    let cs = clauses_with f log in
    let off : all_off marks c ≡ true = subst (λ d. all_off marks d ≡ true) (some_is k.clause c (sym k.there ∙ e)) k.off in
    let m : length marks ≡ f.vars = stands_length f log es marks s in
    let out : (q : Lit) → Has c q → q.var ≢ far = λ q i v. (let w : q.var < length marks = off_within marks q (all_has _ c q off i) in omega arith) in
    let free : (y : ℕ) → is_seen none y ≡ true → ⊥ = λ y b. false≢true (sym (ap (λ fs. is_seen fs y) nn ∙ none_seen n y) ∙ b) in
    let hs : hints ≡ h ∷ [] = g ∙ ap (λ x. x ++ (h ∷ [])) sn in
    record {
      stands = s;
      closes = subst (λ x. Closes cs marks flags (reverse x)) (sym hs) (record {
        each = λ known a b. hint_then cs known h [] Contradicts (ap (reading_of known) e ∙ reading_none known c (λ q i. b.each q (all_has _ c q off i) (j.added q i (out q i))));
      });
      decided = record {
        each = λ y i v. ⊎_elim (λ (b : is_seen none y ≡ true). free y b)
            (λ (b : (q : Lit) × Has c q × (q.var ≢ far) × (y ≡ q.var)). free_not_off (mark_at marks b.0.var) b.0.positive (ap (mark_at marks) (sym b.3) ∙ v) (all_has _ c b.0 off b.1))
            (j.only y i);
      };
      listed = j.listed (record { each = λ y b. absurd (free y b) });
      sized = j.sized ∙ ap length nn ∙ length-replicate n false ∙ z;
      cut = [];
      was = sym (append-nil es);
    }

pub walk_skip : (f : Cnf) (old : List Entry) (log : List LogLine) (trail es : List Entry) (e : Entry) (marks : List Mark) (flags : List Bool) (vars hints : List ℕ) → Walking f old log trail marks flags vars hints
    → trail ≡ es ++ (e ∷ []) → is_seen flags e.literal.var ≡ false → Walking f old log es (set marks e.literal.var Free) flags vars hints
walk_skip f old log trail es e marks flags vars hints b t n =
    let cs = clauses_with f log in
    let p = popped_of f log trail es e marks b.stands t in
    let q = sym (freed p.before marks e p.can.0 p.marks_are) in
    record {
      stands = back_stands f log trail es e marks b.stands p;
      closes = subst (λ ms. Closes cs ms flags (reverse hints)) q (close_skip cs p.before e.literal flags (reverse hints) p.can.0 n (subst (λ ms. Closes cs ms flags (reverse hints)) p.marks_are b.closes));
      decided = subst (λ ms. AreDecided ms flags) q (decided_skip cs p.before e.literal flags (reverse hints) p.can.0 flags (not_seen cs p.before e.literal flags (reverse hints) p.can.0 n) (subst (λ ms. AreDecided ms flags) p.marks_are b.decided));
      listed = b.listed;
      sized = b.sized;
      cut = e ∷ b.cut;
      was = was_more old trail es b.cut e b.was t;
    }

-- the variable of an entry has a flag
pub flag_within : (f : Cnf) (old : List Entry) (log : List LogLine) (trail es : List Entry) (e : Entry) (marks : List Mark) (flags : List Bool) (vars hints : List ℕ) → Walking f old log trail marks flags vars hints
    → trail ≡ es ++ (e ∷ []) → e.literal.var < length flags
flag_within f old log trail es e marks flags vars hints b t =
    let p = popped_of f log trail es e marks b.stands t in
    let w : e.literal.var < length p.before = p.can.0.0 in
    let m : length p.before ≡ f.vars = stands_length f log es p.before (record { follow = b.stands.follow; leads = p.leads }) in
    let s = b.sized in
    omega arith

pub walk_turn : (f : Cnf) (old : List Entry) (log : List LogLine) (trail es : List Entry) (e : Entry) (marks : List Mark) (flags : List Bool) (vars hints : List ℕ) (len : ℕ) → Walking f old log trail marks flags vars hints
    → trail ≡ es ++ (e ∷ []) → IsTarget (set flags e.literal.var false) es e len
    → Turned f old log es (set marks e.literal.var Free) (set flags e.literal.var false) vars hints (record { literal = opposite e.literal; len = len })
walk_turn f old log trail es e marks flags vars hints len b t g =
    let cs = clauses_with f log in
    let p = popped_of f log trail es e marks b.stands t in
    let q = sym (freed p.before marks e p.can.0 p.marks_are) in
    let w = flag_within f old log trail es e marks flags vars hints b t in
    record {
      stands = back_stands f log trail es e marks b.stands p;
      asserts = subst (λ ms. Asserts cs ms (set flags e.literal.var false) (reverse hints) (opposite e.literal)) q
          (assert_turn cs p.before e.literal flags (reverse hints) p.can.0 w (subst (λ ms. AreDecided ms flags) p.marks_are b.decided) (subst (λ ms. Closes cs ms flags (reverse hints)) p.marks_are b.closes));
      listed = listed_less flags vars e.literal.var w b.listed;
      sized = length-set flags e.literal.var false ∙ b.sized;
      entry = e;
      cut = b.cut;
      was = was_more old trail es b.cut e b.was t;
      target = g;
    }

pub walk_resolve : (f : Cnf) (old : List Entry) (log : List LogLine) (trail es : List Entry) (e : Entry) (marks : List Mark) (flags more : List Bool) (vars has hints longer : List ℕ) (r : ℕ) (c : List Lit)
    → Walking f old log trail marks flags vars hints → trail ≡ es ++ (e ∷ []) → e.reason ≡ Some r → named (clauses_with f log) r ≡ Some c
    → Noted (set flags e.literal.var false) vars c e.literal.var more has → longer ≡ hints ++ (r ∷ []) → Walking f old log es (set marks e.literal.var Free) more has longer
walk_resolve f old log trail es e marks flags more vars has hints longer r c b t x n j g =
    let cs = clauses_with f log in
    let p = popped_of f log trail es e marks b.stands t in
    let q = sym (freed p.before marks e p.can.0 p.marks_are) in
    let w = flag_within f old log trail es e marks flags vars hints b t in
    let why = reason_of f log es e marks r p x in
    let same : why.clause ≡ c = some_is why.clause c (sym why.there ∙ n) in
    let off : all_off (set p.before e.literal.var (Is (not e.literal.positive))) c ≡ true = subst (λ d. all_off (set p.before e.literal.var (Is (not e.literal.positive))) d ≡ true) same why.forces.0 in
    let m : mentions e.literal.var c ≡ true = subst (λ d. mentions e.literal.var d ≡ true) same why.forces.1 in
    let hs : reverse longer ≡ r ∷ reverse hints = ap reverse g ∙ reverse-append hints (r ∷ []) in
    record {
      stands = back_stands f log trail es e marks b.stands p;
      closes = subst (λ ms. Closes cs ms more (reverse longer)) q (subst (λ k. Closes cs p.before more k) (sym hs)
          (close_resolve cs p.before e.literal flags (reverse hints) p.can.0 r c vars has more n off m j (subst (λ ms. Closes cs ms flags (reverse hints)) p.marks_are b.closes)));
      decided = subst (λ ms. AreDecided ms more) q (decided_resolve cs p.before e.literal flags (reverse hints) p.can.0 c vars has more w off j (subst (λ ms. AreDecided ms flags) p.marks_are b.decided));
      listed = j.listed (listed_less flags vars e.literal.var w b.listed);
      sized = j.sized ∙ length-set flags e.literal.var false ∙ b.sized;
      cut = e ∷ b.cut;
      was = was_more old trail es b.cut e b.was t;
    }

pub walk_named : (f : Cnf) (old : List Entry) (log : List LogLine) (trail es : List Entry) (e : Entry) (marks : List Mark) (flags : List Bool) (vars hints : List ℕ) (r : ℕ) → Walking f old log trail marks flags vars hints
    → trail ≡ es ++ (e ∷ []) → e.reason ≡ Some r → IsNamed f.clauses log r
walk_named f old log trail es e marks flags vars hints r b t x =
    let why = reason_of f log es e marks r (popped_of f log trail es e marks b.stands t) x in
    (why.clause, why.there)

-- the variables of a reason have flags
pub reason_flags : (f : Cnf) (old : List Entry) (log : List LogLine) (trail es : List Entry) (e : Entry) (marks : List Mark) (flags : List Bool) (vars hints : List ℕ) (r : ℕ) (c : List Lit) → Walking f old log trail marks flags vars hints
    → trail ≡ es ++ (e ∷ []) → e.reason ≡ Some r → named (clauses_with f log) r ≡ Some c → Within (length flags) c
reason_flags f old log trail es e marks flags vars hints r c b t x n =
    let p = popped_of f log trail es e marks b.stands t in
    let m : length p.before ≡ f.vars = stands_length f log es p.before (record { follow = b.stands.follow; leads = p.leads }) in
    reason_within (clauses_with f log) p.before e.literal r (length flags) c (reason_of f log es e marks r p x) n (m ∙ sym b.sized)

-- the same with the state as calls leave it
pub walk_skip_as : (f : Cnf) (old : List Entry) (log : List LogLine) (trail es : List Entry) (e : Entry) (marks after : List Mark) (flags : List Bool) (vars hints : List ℕ) → Walking f old log trail marks flags vars hints
    → trail ≡ es ++ (e ∷ []) → is_seen flags e.literal.var ≡ false → after ≡ set marks e.literal.var Free → Walking f old log es after flags vars hints
walk_skip_as f old log trail es e marks after flags vars hints b t n m =
    subst (λ ms. Walking f old log es ms flags vars hints) (sym m) (walk_skip f old log trail es e marks flags vars hints b t n)

pub walk_turn_as : (f : Cnf) (old : List Entry) (log : List LogLine) (trail es : List Entry) (e : Entry) (marks after : List Mark) (flags less : List Bool) (vars same hints : List ℕ) (l : Lit) (len : ℕ) → Walking f old log trail marks flags vars hints
    → trail ≡ es ++ (e ∷ []) → after ≡ set marks e.literal.var Free → less ≡ set flags e.literal.var false → same ≡ vars → l ≡ opposite e.literal → IsTarget less es e len
    → Turned f old log es after less same hints (record { literal = l; len = len })
walk_turn_as f old log trail es e marks after flags less vars same hints l len b t m g v o a =
    let x = walk_turn f old log trail es e marks flags vars hints len b t (subst (λ fs. IsTarget fs es e len) g a) in
    let y : Turned f old log es after (set flags e.literal.var false) vars hints (record { literal = opposite e.literal; len = len }) =
    subst (λ ms. Turned f old log es ms (set flags e.literal.var false) vars hints (record { literal = opposite e.literal; len = len })) (sym m) x in
    let z : Turned f old log es after less vars hints (record { literal = opposite e.literal; len = len }) =
    subst (λ fs. Turned f old log es after fs vars hints (record { literal = opposite e.literal; len = len })) (sym g) y in
    let w : Turned f old log es after less same hints (record { literal = opposite e.literal; len = len }) =
    subst (λ vs. Turned f old log es after less vs hints (record { literal = opposite e.literal; len = len })) (sym v) z in
    subst (λ k. Turned f old log es after less same hints (record { literal = k; len = len })) (sym o) w

pub reason_flags_as : (f : Cnf) (old : List Entry) (log : List LogLine) (trail es : List Entry) (e : Entry) (marks : List Mark) (flags less : List Bool) (vars hints : List ℕ) (r : ℕ) (c : List Lit) → Walking f old log trail marks flags vars hints
    → trail ≡ es ++ (e ∷ []) → e.reason ≡ Some r → named (clauses_with f log) r ≡ Some c → less ≡ set flags e.literal.var false → Within (length less) c
reason_flags_as f old log trail es e marks flags less vars hints r c b t x n g =
    subst (λ k. Within k c) (sym (ap length g ∙ length-set flags e.literal.var false)) (reason_flags f old log trail es e marks flags vars hints r c b t x n)

pub walk_resolve_as : (f : Cnf) (old : List Entry) (log : List LogLine) (trail es : List Entry) (e : Entry) (marks after : List Mark) (flags less more : List Bool) (vars same has hints longer : List ℕ) (r : ℕ) (c : List Lit)
    → Walking f old log trail marks flags vars hints → trail ≡ es ++ (e ∷ []) → after ≡ set marks e.literal.var Free → less ≡ set flags e.literal.var false → same ≡ vars
    → e.reason ≡ Some r → named (clauses_with f log) r ≡ Some c → Noted less same c e.literal.var more has → longer ≡ hints ++ (r ∷ []) → Walking f old log es after more has longer
walk_resolve_as f old log trail es e marks after flags less more vars same has hints longer r c b t m g v x n j d =
    subst (λ ms. Walking f old log es ms more has longer) (sym m)
    (walk_resolve f old log trail es e marks flags more vars has hints longer r c b t x n (subst (λ vs. Noted (set flags e.literal.var false) vs c e.literal.var more has) v (subst (λ fs. Noted fs same c e.literal.var more has) g j)) d)
