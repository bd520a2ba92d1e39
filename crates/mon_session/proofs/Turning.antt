-- Acts behind one another.
use Rattle.std.specs.Prelude.{◌≡◌, ℕ, true, false, is_some, List, [], ◌∷◌, ◌++◌, Option, Some, None, refl}
use Rattle.std.proofs.Common.{ap, sym, ◌∙◌, subst}
use Rattle.std.proofs.lemmas.Bool.{false≢true}
use Rattle.std.proofs.lemmas.List.{append_assoc, append-nil}
use Rattle.mon_legal.specs.Runs.{Run}
use Rattle.mon_legal.specs.Owns.{Own, Act}
use Rattle.mon_session.specs.declared.step.Step.{Step}
use Rattle.mon_session.specs.Now.{Now, walked}
use Rattle.mon_session.specs.Walks.{Known, walks, steps_of}
use Rattle.mon_session.specs.Acting.{due_in, entries_of, entries_if, all_entries, InTurn, Acted}
use Rattle.mon_session.proofs.Walking.{walked_on, walks_on, steps_on}

-- one act more at the end
pub turn_more : (run : Run) (s : ℕ) (n : Now) (acts : List Act) (act : Act) → InTurn run s n acts
    → due_in (walked run n (all_entries run s n acts)) ≡ Some act → InTurn run s n (acts ++ act ∷ [])
turn_more run s n [] act t d = (d, tt)
turn_more run s n (a ∷ acts) act t d = (
  t.0,
  turn_more run s (walked run n (entries_of s n a)) acts act t.1
      (subst (λ (m : Now). due_in m ≡ Some act) (walked_on run n (entries_of s n a) (all_entries run s (walked run n (entries_of s n a)) acts)) d),
)

pub entries_more : (run : Run) (s : ℕ) (n : Now) (acts : List Act) (act : Act)
    → all_entries run s n (acts ++ act ∷ []) ≡ all_entries run s n acts ++ entries_of s (walked run n (all_entries run s n acts)) act
entries_more run s n [] act = append-nil (entries_of s n act)
entries_more run s n (a ∷ acts) act =
    ap (λ (os : List Own). entries_of s n a ++ os) (entries_more run s (walked run n (entries_of s n a)) acts act)
    ∙ sym (append_assoc (entries_of s n a) (all_entries run s (walked run n (entries_of s n a)) acts) (entries_of s (walked run (walked run n (entries_of s n a)) (all_entries run s (walked run n (entries_of s n a)) acts)) act))
    ∙ ap (λ (m : Now). (entries_of s n a ++ all_entries run s (walked run n (entries_of s n a)) acts) ++ entries_of s m act)
    (sym (walked_on run n (entries_of s n a) (all_entries run s (walked run n (entries_of s n a)) acts)))

-- none was taken yet
pub none_acted : (run : Run) (k : Known) (before : List Step) → Acted run k k before before
none_acted run k before = record { acts = []; turns = tt; walk = refl; steps = sym (append-nil before) }

-- one more
pub one_acted : (run : Run) (k l m : Known) (before mid after : List Step) (act : Act) → Acted run k l before mid → due_in l.now ≡ Some act
    → m ≡ walks run l (entries_of l.number l.now act) → after ≡ mid ++ steps_of l.number (entries_of l.number l.now act) → Acted run k m before after
one_acted run k l m before mid after act a d w t =
    let it = all_entries run k.number k.now a.acts in
    let here : Known = walks run k it in
    let next : List Own = entries_of k.number (walked run k.now it) act in
    let more = entries_more run k.number k.now a.acts act in
    record {
      acts = a.acts ++ act ∷ [];
      turns = turn_more run k.number k.now a.acts act a.turns (ap (λ (x : Known). due_in x.now) (sym a.walk) ∙ d);
      walk = w ∙ (ap (λ (x : Known). walks run x (entries_of x.number x.now act)) a.walk ∙ (sym (walks_on run k it next) ∙ ap (λ (os : List Own). walks run k os) (sym more)));
      steps = t ∙ (ap (λ (x : Known). mid ++ steps_of x.number (entries_of x.number x.now act)) a.walk
          ∙ (ap (λ (xs : List Step). xs ++ steps_of k.number next) a.steps
          ∙ (append_assoc before (steps_of k.number it) (steps_of k.number next)
          ∙ (ap (λ (xs : List Step). before ++ xs) (sym (steps_on k.number it next)) ∙ ap (λ (os : List Own). before ++ steps_of k.number os) (sym more)))));
    }

acted-if : (run : Run) (k l m : Known) (before mid after : List Step) (due : Option Act) → Acted run k l before mid → due_in l.now ≡ due → is_some due ≡ true
    → m ≡ walks run l (entries_if l.number l.now due) → after ≡ mid ++ steps_of l.number (entries_if l.number l.now due) → Acted run k m before after
acted-if run k l m before mid after None a d some w t = absurd (false≢true some)
acted-if run k l m before mid after (Some act) a d some w t = one_acted run k l m before mid after act a d w t

-- what was due, where something was
pub acted_more : (run : Run) (k l m : Known) (before mid after : List Step) → Acted run k l before mid → is_some (due_in l.now) ≡ true
    → m ≡ walks run l (entries_if l.number l.now (due_in l.now)) → after ≡ mid ++ steps_of l.number (entries_if l.number l.now (due_in l.now)) → Acted run k m before after
acted_more run k l m before mid after a some w t = acted-if run k l m before mid after (due_in l.now) a refl some w t

none-if : (due : Option Act) → is_some due ≡ false → due ≡ None
none-if None e = refl
none-if (Some act) e = absurd (false≢true (sym e))

-- and where nothing was, nothing was done
pub nothing_due : (n : Now) → is_some (due_in n) ≡ false → due_in n ≡ None
nothing_due n e = none-if (due_in n) e

at-rest : (run : Run) (l m : Known) (mid after : List Step) (due : Option Act) → is_some due ≡ false → m ≡ walks run l (entries_if l.number l.now due)
    → after ≡ mid ++ steps_of l.number (entries_if l.number l.now due) → (m ≡ l) × (after ≡ mid)
at-rest run l m mid after None none w t = (w, t ∙ append-nil mid)
at-rest run l m mid after (Some act) none w t = absurd (false≢true (sym none))

pub acted_all : (run : Run) (k l m : Known) (before mid after : List Step) → Acted run k l before mid → is_some (due_in l.now) ≡ false
    → m ≡ walks run l (entries_if l.number l.now (due_in l.now)) → after ≡ mid ++ steps_of l.number (entries_if l.number l.now (due_in l.now))
    → Acted run k m before after × (due_in m.now ≡ None)
acted_all run k l m before mid after a none w t =
    let r = at-rest run l m mid after (due_in l.now) none w t in (
      record {
        acts = a.acts;
        turns = a.turns;
        walk = r.0 ∙ a.walk;
        steps = r.1 ∙ a.steps;
      },
      ap (λ (x : Known). due_in x.now) r.0 ∙ nothing_due l.now none,
    )
