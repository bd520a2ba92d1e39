-- What is learned follows, and forces its last literal.
use Rattle.std.proofs.Common.{◌≡◌, ℕ, ◌+◌, ◌<◌, Bool, true, false, not, ◌&&◌, cond, refl, sym, ap, ◌∙◌, subst, List, [], ◌∷◌, ◌++◌, length, get_or, take, replicate, reverse, Option, Some, None, ◌⊎◌, ⊎_elim, inl, inr, append_assoc, length-append}
use Rattle.std.specs.Prelude.{nat_lt}
use Rattle.std.proofs.Math.Seq.{get_or-append_seam}
use Rattle.std.proofs.lemmas.List.{take_more, append-nil}
use Rattle.std.proofs.lemmas.Bool.{false≢true, and_from, lt-ltb, not_from_false, cond-true, false_from_ne_true}
use Rattle.mon_list.specs.Has.{Has}
use Rattle.mon_cnf.specs.declared.clause.Lit.{Lit}
use Rattle.mon_cnf.specs.Formulas.{Cnf}
use Rattle.mon_refute.specs.declared.lines.LogLine.{LogLine}
use Rattle.mon_refute.specs.Follow.{opposite, is_true, by_hints, by_start, falsify, follows, all_follow, is_empty, is_accepted}
use Rattle.mon_refute.proofs.Growing.{one_more, follow_push, number_last}
use Rattle.mon_refute.proofs.Steps.{ends_push}
use Rattle.mon_refute.proofs.Readings.{lit_is, true_has}
use Rattle.mon_trail.specs.declared.look.Mark.{Mark}
use Rattle.mon_trail.specs.declared.look.Mark.TheVariants.{Free, Is}
use Rattle.mon_trail.specs.declared.trail.Entry.{Entry}
use Rattle.mon_trail.specs.Marks.{mark_at, is_off, makes_off}
use Rattle.mon_trail.specs.Trail.{Jumped, Leads, Stands, clauses_with, is_forced}
use Rattle.mon_trail.proofs.Falsified.{falsified}
use Rattle.mon_trail.proofs.Looks.{all_push, forced_first}
use Rattle.mon_trail.proofs.Mentions.{some_is}
use Rattle.mon_trail.proofs.Models.{all_free}
use Rattle.mon_trail.proofs.Popping.{stands_length}
use Rattle.mon_trail.proofs.Trails.{leads_more}
use Rattle.mon_cdcl.specs.declared.analyse.Turn.{Turn}
use Rattle.mon_cdcl.specs.Seen.{is_seen, AreListed}
use Rattle.mon_cdcl.specs.Back.{AreOn, KnowsSeen, Asserts, Collected, FellBack, Learned, Turned, Walking}
use Rattle.mon_cdcl.specs.Search.{Settled}
use Rattle.mon_cdcl.proofs.Targets.{unseen_cut}
use Rattle.mon_cdcl.proofs.Walks.{free_not_off, free_not_on}

var_push : (xs : List ℕ) (y k : ℕ) → Has (xs ++ (y ∷ [])) k → Has xs k ⊎ (k ≡ y)
var_push [] y k h = ⊎_elim (λ e. inr e) (λ i. absurd i) h
var_push (x ∷ xs) y k h = ⊎_elim (λ e. inl (inl e)) (λ i. ⊎_elim (λ j. inl (inr j)) (λ e. inr e) (var_push xs y k i)) h

var_more : (vars : List ℕ) (i d k : ℕ) → i < length vars → Has (take (i + 1) vars) k → Has (take i vars) k ⊎ (k ≡ get_or vars i d)
var_more vars i d k w h = var_push (take i vars) (get_or vars i d) k (subst (λ xs. Has xs k) (take_more vars i d w) h)

lit_left : (xs ys : List Lit) (k : Lit) → Has xs k → Has (xs ++ ys) k
lit_left [] ys k h = absurd h
lit_left (x ∷ xs) ys k h = ⊎_elim (λ e. inl e) (λ i. inr (lit_left xs ys k i)) h

lit_last : (xs : List Lit) (y : Lit) → Has (xs ++ (y ∷ [])) y
lit_last [] y = inl refl
lit_last (x ∷ xs) y = inr (lit_last xs y)

pub collected_none : (marks : List Mark) (flags : List Bool) → Collected marks flags [] []
collected_none marks flags = record { off = refl; has = λ k h. absurd h }

-- a variable that isn't seen, or isn't decided
pub collected_unseen : (marks : List Mark) (flags : List Bool) (vars : List ℕ) (i d : ℕ) (c : List Lit) → i < length vars → is_seen flags (get_or vars i d) ≡ false → Collected marks flags (take i vars) c → Collected marks flags (take (i + 1) vars) c
collected_unseen marks flags vars i d c w n a = record {
  off = a.off;
  has = λ k h f s. ⊎_elim (λ (j : Has (take i vars) k.var). a.has k j f s) (λ (e : k.var ≡ get_or vars i d). absurd (false≢true (sym n ∙ ap (is_seen flags) (sym e) ∙ s))) (var_more vars i d k.var w h);
}

pub collected_free : (marks : List Mark) (flags : List Bool) (vars : List ℕ) (i d : ℕ) (c : List Lit) → i < length vars → mark_at marks (get_or vars i d) ≡ Free → Collected marks flags (take i vars) c → Collected marks flags (take (i + 1) vars) c
collected_free marks flags vars i d c w n a = record {
  off = a.off;
  has = λ k h f s. ⊎_elim (λ (j : Has (take i vars) k.var). a.has k j f s) (λ (e : k.var ≡ get_or vars i d). absurd (free_not_off (mark_at marks k.var) k.positive (ap (mark_at marks) e ∙ n) f)) (var_more vars i d k.var w h);
}

off_by : (b : Bool) → makes_off (Is b) (not b) ≡ true
off_by true = refl
off_by false = refl

off_sign : (b p : Bool) → makes_off (Is b) p ≡ true → p ≡ not b
off_sign true true e = absurd (false≢true e)
off_sign true false e = refl
off_sign false true e = refl
off_sign false false e = absurd (false≢true e)

pub collected_push : (marks : List Mark) (flags : List Bool) (vars : List ℕ) (i d : ℕ) (c more : List Lit) (l : Lit) (b : Bool) → i < length vars → l.var ≡ get_or vars i d → l.positive ≡ not b → mark_at marks l.var ≡ Is b
    → more ≡ c ++ (l ∷ []) → Collected marks flags (take i vars) c → Collected marks flags (take (i + 1) vars) more
collected_push marks flags vars i d c more l b w v p m g a =
    subst (Collected marks flags (take (i + 1) vars)) (sym g) (record {
      off = all_push (is_off marks) c l a.off (ap (λ x. makes_off x l.positive) m ∙ ap (makes_off (Is b)) p ∙ off_by b);
      has = λ k h f s. ⊎_elim
          (λ (j : Has (take i vars) k.var). lit_left c (l ∷ []) k (a.has k j f s))
          (λ (e : k.var ≡ get_or vars i d).
          let x : k.var ≡ l.var = e ∙ sym v in
          let y : k.positive ≡ not b = off_sign b k.positive (ap (λ z. makes_off z k.positive) (sym (ap (mark_at marks) x ∙ m)) ∙ f) in
          subst (Has (c ++ (l ∷ []))) (sym (lit_is k l x (y ∙ sym p))) (lit_last c l))
          (var_more vars i d k.var w h);
    })

-- the same at a place of a slice
pub collected_at_unseen : (marks : List Mark) (flags : List Bool) (vars items : List ℕ) (i : ℕ) (c : List Lit) → items ≡ vars → i < length items → is_seen flags (get_or items i 0) ≡ false → Collected marks flags (take i vars) c → Collected marks flags (take (i + 1) vars) c
collected_at_unseen marks flags vars items i c e w n a = collected_unseen marks flags vars i 0 c (subst (λ xs. i < length xs) e w) (subst (λ xs. is_seen flags (get_or xs i 0) ≡ false) e n) a

pub collected_at_free : (marks : List Mark) (flags : List Bool) (vars items : List ℕ) (i : ℕ) (c : List Lit) → items ≡ vars → i < length items → mark_at marks (get_or items i 0) ≡ Free → Collected marks flags (take i vars) c → Collected marks flags (take (i + 1) vars) c
collected_at_free marks flags vars items i c e w n a = collected_free marks flags vars i 0 c (subst (λ xs. i < length xs) e w) (subst (λ xs. mark_at marks (get_or xs i 0) ≡ Free) e n) a

pub collected_at_push : (marks : List Mark) (flags : List Bool) (vars items : List ℕ) (i : ℕ) (c more : List Lit) (b : Bool) → items ≡ vars → i < length items → mark_at marks (get_or items i 0) ≡ Is b
    → more ≡ c ++ (record { var = get_or items i 0; positive = not b } ∷ []) → Collected marks flags (take i vars) c → Collected marks flags (take (i + 1) vars) more
collected_at_push marks flags vars items i c more b e w m g a =
    let l : Lit = record { var = get_or items i 0; positive = not b } in
    collected_push marks flags vars i 0 c more l b (subst (λ xs. i < length xs) e w) (ap (λ xs. get_or xs i 0) e) refl m g a

falsify_if : (b : Bool) (o p q : Option (List Lit)) (more : List Lit) → (o ≡ Some more → p ≡ q) → cond b o None ≡ Some more → cond b p None ≡ q
falsify_if true o p q more f e = f e
falsify_if false o p q more f e = cc

-- the literals before the last are supposed false first
falsify_last : (n : ℕ) (known more c : List Lit) (a : Lit) → falsify n known c ≡ Some more → falsify n known (c ++ (a ∷ [])) ≡ falsify n more (a ∷ [])
falsify_last n known more [] a e = ap (λ ks. falsify n ks (a ∷ [])) (some_is known more e)
falsify_last n known more (l ∷ ls) a e =
    falsify_if (nat_lt l.var n && not (is_true known l)) (falsify n (opposite l ∷ known) ls) (falsify n (opposite l ∷ known) (ls ++ (a ∷ []))) (falsify n more (a ∷ [])) more
    (λ o. falsify_last n (opposite l ∷ known) more ls a o) e

-- what is learned follows by the hints
learned_follows : (cs : List (List Lit)) (n : ℕ) (marks : List Mark) (flags : List Bool) (vars hints : List ℕ) (c : List Lit) (a : Lit) → length marks ≡ n → Asserts cs marks flags hints a → AreListed flags vars
    → Collected marks flags vars c → by_start cs hints (falsify n [] (c ++ (a ∷ []))) ≡ true
learned_follows cs n marks flags vars hints c a z b s k =
    let m = length marks in
    let f = falsified marks [] c (record { each = λ q h. absurd h }) k.off in
    let t : is_true f.more a ≡ false = false_from_ne_true _ (λ t. free_not_on (mark_at marks a.var) a.positive b.free.1 (f.on.each a (true_has f.more a t))) in
    let x : falsify m f.more (a ∷ []) ≡ Some (opposite a ∷ f.more) = cond-true _ _ None (and_from _ _ (lt-ltb a.var m b.free.0) (not_from_false _ t)) in
    let on : AreOn marks f.more = record { each = λ q h. f.on.each q h } in
    let knows : KnowsSeen marks flags f.more = record { each = λ q o h. f.off q (k.has q (s.each q.var h) o h) } in
    ap (λ i. by_start cs hints (falsify i [] (c ++ (a ∷ [])))) (sym z) ∙ ap (by_start cs hints) (falsify_last m [] f.more c a f.is ∙ x) ∙ b.each f.more on knows

-- the log with the line that was learned
learned_log : (f : Cnf) (log new : List LogLine) (es : List Entry) (marks : List Mark) (line : LogLine) → Stands f log es marks → new ≡ log ++ (line ∷ []) → follows f.vars (clauses_with f log) line ≡ true → Stands f new es marks
learned_log f log new es marks line s g fl = record {
  follow = ap (all_follow f.vars f.clauses) g ∙ follow_push f.vars f.clauses log line s.follow fl;
  leads = subst (λ cs. Leads cs (replicate f.vars Free) es marks) (one_more f.clauses log new line g) (leads_more (clauses_with f log) (line.literals ∷ []) (replicate f.vars Free) es marks s.leads);
}

-- the first of what was cut off, or else the entry behind it, is a decision
jumped : (new cut after old : List Entry) (e : Entry) (len : ℕ) → old ≡ (new ++ cut) ++ (e ∷ after) → length new ≡ len → is_forced (get_or ((new ++ cut) ++ (e ∷ [])) len e) ≡ false → Jumped old new
jumped new [] after old e len w n d =
    let x : new ++ [] ≡ new = append-nil new in
    record {
      decision = e;
      cut = after;
      was = w ∙ ap (λ xs. xs ++ (e ∷ after)) x;
      decided = ap is_forced (sym (get_or-append_seam new e [] e)) ∙ ap (λ xs. is_forced (get_or (xs ++ (e ∷ [])) (length new) e)) (sym x) ∙ ap (λ i. is_forced (get_or ((new ++ []) ++ (e ∷ [])) i e)) n ∙ d;
    }
jumped new (d ∷ ds) after old e len w n g = record {
  decision = d;
  cut = ds ++ (e ∷ after);
  was = w ∙ append_assoc new (d ∷ ds) (e ∷ after);
  decided = ap is_forced (sym (get_or-append_seam new d (ds ++ (e ∷ [])) e)) ∙ ap (λ xs. is_forced (get_or xs (length new) e)) (sym (append_assoc new (d ∷ ds) (e ∷ []))) ∙ ap (λ i. is_forced (get_or ((new ++ (d ∷ ds)) ++ (e ∷ [])) i e)) n ∙ g;
}

-- the learned clause forces its last literal where the trail is cut
pub forced : (f : Cnf) (old es now : List Entry) (log new : List LogLine) (first marks : List Mark) (flags : List Bool) (vars hints : List ℕ) (turn : Turn) (c all : List Lit) (h : ℕ)
    → Turned f old log es first flags vars hints turn → FellBack f log es first now marks turn.len → Collected marks flags vars c → all ≡ c ++ (turn.literal ∷ []) → Learned f.clauses log new all hints h
    → Settled f old new now marks (Some (record { literal = turn.literal; reason = Some h }))
forced f old es now log new first marks flags vars hints turn c all h t b k g l =
    let cs = clauses_with f log in
    let a = turn.literal in
    let u = unseen_cut flags es now b.cut t.entry turn.len b.was b.len_is t.target in
    let asserts = b.asserts flags (reverse hints) a u t.asserts in
    let z = stands_length f log now marks b.stands in
    let fl : follows f.vars cs l.line ≡ true =
    ap (λ ls. by_start cs l.line.hints (falsify f.vars [] ls)) (l.literals ∙ g) ∙ ap (λ hs. by_start cs hs (falsify f.vars [] (c ++ (a ∷ [])))) l.hints_are
    ∙ learned_follows cs f.vars marks flags vars (reverse hints) c a z asserts t.listed k in
    let forces = forced_first marks c a asserts.free k.off in (
      learned_log f log new now marks l.line b.stands l.log fl,
      (asserts.free, record { clause = c ++ (a ∷ []); there = number_last f.clauses log new l.line h l.log l.number ∙ ap Some (l.literals ∙ g); forces = forces }),
      refl,
      jumped now b.cut t.cut old t.entry turn.len (t.was ∙ ap (λ xs. xs ++ (t.entry ∷ t.cut)) b.was) b.len_is (ap (λ xs. is_forced (get_or (xs ++ (t.entry ∷ [])) turn.len t.entry)) (sym b.was) ∙ t.target.decided),
    )

nothing_known : (f : Cnf) (marks : List Mark) (flags : List Bool) → marks ≡ replicate f.vars Free → KnowsSeen marks flags []
nothing_known f marks flags e = record { each = λ k o h. absurd (free_not_off (mark_at marks k.var) k.positive (ap (λ ms. mark_at ms k.var) e ∙ all_free f.vars k.var) o) }

-- with an empty trail nothing is left, and the log is at its end
pub refuted : (f : Cnf) (old : List Entry) (log new : List LogLine) (es : List Entry) (marks : List Mark) (flags : List Bool) (vars hints : List ℕ) (c : List Lit) (h : ℕ)
    → Walking f old log es marks flags vars hints → es ≡ [] → c ≡ [] → Learned f.clauses log new c hints h → is_accepted f.vars f.clauses new ≡ true
refuted f old log new es marks flags vars hints c h b e n l =
    let cs = clauses_with f log in
    let m : marks ≡ replicate f.vars Free = subst (λ xs. Leads cs (replicate f.vars Free) xs marks) e b.stands.leads in
    let none : l.line.literals ≡ [] = l.literals ∙ n in
    let closed : by_hints cs [] (reverse hints) ≡ true = b.closes.each [] (record { each = λ k i. absurd i }) (nothing_known f marks flags m) in
    let fl : follows f.vars cs l.line ≡ true = ap (λ ls. by_start cs l.line.hints (falsify f.vars [] ls)) none ∙ ap (by_hints cs []) l.hints_are ∙ closed in
    ap (is_accepted f.vars f.clauses) l.log ∙ and_from _ _ (follow_push f.vars f.clauses log l.line b.stands.follow fl) (ends_push log l.line ∙ ap is_empty none)

pub longer_log : (cs : List (List Lit)) (log new : List LogLine) (c : List Lit) (hints : List ℕ) (h : ℕ) → Learned cs log new c hints h → length new ≡ length log + 1
longer_log cs log new c hints h l = ap length l.log ∙ length-append log (l.line ∷ [])
