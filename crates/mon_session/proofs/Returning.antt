-- What a return makes of a session.
use Rattle.std.specs.Prelude.{◌≡◌, ℕ, true, false, List, [], ◌∷◌, ◌++◌, Option, Some, None, refl}
use Rattle.std.proofs.Common.{ap, sym, ◌∙◌}
use Rattle.std.proofs.lemmas.List.{append_assoc, append-nil}
use Rattle.mon_shows.specs.declared.seen.Seen.{Seen}
use Rattle.mon_report.specs.declared.line.Line.{Line}
use Rattle.mon_report.specs.declared.line.Line.TheVariants.{Confirmed}
use Rattle.mon_world.specs.declared.event.Side.TheVariants.{Switch}
use Rattle.mon_world.specs.declared.event.Note.TheVariants.{Report}
use Rattle.mon_world.specs.declared.event.Out.TheVariants.{Send}
use Rattle.mon_legal.specs.Runs.{Run}
use Rattle.mon_legal.specs.Owns.Own.{Returns, Reports, Sends}
use Rattle.mon_legal.specs.Messages.{own_barrier}
use Rattle.mon_legal.specs.Directly.{Due, is_over}
use Rattle.mon_session.specs.declared.step.Step.{Step}
use Rattle.mon_session.specs.declared.step.Step.TheVariants as step
use Rattle.mon_session.specs.Now.{Now, edit_numbered}
use Rattle.mon_session.specs.Tracks.{confirmed_in}
use Rattle.mon_session.specs.Walks.{Known, takes, walks, steps_of}
use Rattle.mon_session.specs.Entries.{with_now, forgotten}
use Rattle.mon_session.specs.Dues.{met}
use Rattle.mon_session.specs.Probing.{confirms, return_dues, return_entries}

pub confirms_over : (s : ℕ) (n : Now) (serial k : ℕ) → is_over (edit_numbered k n.unsettled) ≡ true
    → met (confirms s n serial (Some k)) ≡ Reports (Confirmed s k serial) ∷ Sends Switch own_barrier false ∷ []
confirms_over s n serial k e = rw e refl

pub confirms_alone : (s : ℕ) (n : Now) (serial k : ℕ) → is_over (edit_numbered k n.unsettled) ≡ false
    → met (confirms s n serial (Some k)) ≡ Reports (Confirmed s k serial) ∷ []
confirms_alone s n serial k e = rw e refl

dues-none : (s : ℕ) (n : Now) (serial : ℕ) (seen : Seen) → n.watching.watch ≡ None → return_dues s n serial seen ≡ confirms s n serial (confirmed_in serial seen n.tracks)
dues-none s n serial seen none = rw none (append-nil (confirms s n serial (confirmed_in serial seen n.tracks)))

pub none_confirmed : (s : ℕ) (n : Now) (serial : ℕ) (seen : Seen) → n.watching.watch ≡ None → confirmed_in serial seen n.tracks ≡ None
    → return_entries s n serial seen ≡ Returns serial seen ∷ []
none_confirmed s n serial seen none e = ap (λ (ds : List Due). Returns serial seen ∷ met ds) (dues-none s n serial seen none ∙ ap (confirms s n serial) e)

pub one_confirmed : (s : ℕ) (n : Now) (serial : ℕ) (seen : Seen) (k : ℕ) → n.watching.watch ≡ None → confirmed_in serial seen n.tracks ≡ Some k
    → return_entries s n serial seen ≡ Returns serial seen ∷ met (confirms s n serial (Some k))
one_confirmed s n serial seen k none e = ap (λ (ds : List Due). Returns serial seen ∷ met ds) (dues-none s n serial seen none ∙ ap (confirms s n serial) e)

-- an edit is told, and an own barrier follows at once
pub reported_walk : (run : Run) (k l m : Known) (line : Line) (barrier : List ℕ) → barrier ≡ own_barrier → l ≡ takes run k (Reports line)
    → m ≡ takes run l (Sends Switch barrier false) → m ≡ walks run k (Reports line ∷ Sends Switch own_barrier false ∷ [])
reported_walk run k l m line barrier b e w =
    w ∙ (ap (λ (f : List ℕ). takes run l (Sends Switch f false)) b ∙ ap (λ (x : Known). takes run x (Sends Switch own_barrier false)) e)

pub reported_steps : (s r : ℕ) (line : Line) (barrier : List ℕ) (before mid after : List Step) → r ≡ s → barrier ≡ own_barrier
    → mid ≡ before ++ step.Note (Report line) ∷ [] → after ≡ mid ++ step.Out (Send r Switch barrier) ∷ []
    → after ≡ before ++ steps_of s (Reports line ∷ Sends Switch own_barrier false ∷ [])
reported_steps s r line barrier before mid after e b m a =
    a ∙ (ap (λ (x : ℕ). mid ++ step.Out (Send x Switch barrier) ∷ []) e
    ∙ (ap (λ (f : List ℕ). mid ++ step.Out (Send s Switch f) ∷ []) b
    ∙ (ap (λ (xs : List Step). xs ++ step.Out (Send s Switch own_barrier) ∷ []) m
    ∙ append_assoc before (step.Note (Report line) ∷ []) (step.Out (Send s Switch own_barrier) ∷ []))))

-- an edit is confirmed by what a probe shows
pub confirmed_walk : (run : Run) (k f v l : Known) (serial edit : ℕ) (seen : Seen) (found : Option ℕ) → v ≡ f → f ≡ with_now k (forgotten k.now)
    → v.now.watching.watch ≡ None → found ≡ confirmed_in serial seen v.now.tracks → found ≡ Some edit
    → l ≡ walks run f (met (confirms f.number f.now serial (Some edit))) → l ≡ walks run k (return_entries k.number k.now serial seen)
confirmed_walk run k f v l serial edit seen found a b none c d w =
    let same : v ≡ with_now k (forgotten k.now) = a ∙ b in
    let free : k.now.watching.watch ≡ None = ap (λ (x : Known). x.now.watching.watch) (sym same) ∙ none in
    let one : confirmed_in serial seen k.now.tracks ≡ Some edit = ap (λ (x : Known). confirmed_in serial seen x.now.tracks) (sym same) ∙ (sym c ∙ d) in
    w ∙ (ap (λ (x : Known). walks run x (met (confirms x.number x.now serial (Some edit)))) b
    ∙ ap (walks run k) (sym (one_confirmed k.number k.now serial seen edit free one)))
