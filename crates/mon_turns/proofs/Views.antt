-- What the core's state says of the others is what the history says.
use Rattle.std.proofs.Common.{◌≡◌, ℕ, Bool, true, false, cond, List, [], ◌∷◌, ◌++◌, map, find, reverse, Option, Some, None, option_map, refl, sym, ap, ◌∙◌}
use Rattle.std.specs.Prelude.{◌==◌}
use Rattle.std.specs.Option.{option_or}
use Rattle.std.specs.List.{cons_option}
use Rattle.std.proofs.lemmas.List.{append-nil, append_assoc}
use Rattle.std.proofs.lemmas.List.Folds.{find-append}
use Rattle.mon_topo.specs.declared.topology.Link.{Link}
use Rattle.mon_shows.specs.declared.near.Near.{Near}
use Rattle.mon_legal.specs.Runs.{Run}
use Rattle.mon_legal.specs.Probes.{or_own}
use Rattle.mon_legal.specs.Datapaths.{datapath}
use Rattle.mon_legal.specs.Moments.{Moment}
use Rattle.mon_legal.specs.Sessions as history
use Rattle.mon_legal.specs.Sessions.{Parts, Placed, part, parts_of, open_ones, open_with_slot, session_with, is_named, near_of, by_port, number_or, view, other_datapaths}
use Rattle.mon_legal.specs.Ordering.{next}
use Rattle.mon_legal.specs.Ordering.Next.{Nothing}
use Rattle.mon_legal.specs.Passing.{FramesGoInOrder}
use Rattle.mon_turns.specs.Core.{Connected, connected_at, state_of}
use Rattle.mon_turns.specs.Around.{or_older, session_of, is_armed_one, with_near, links_to_armed, others}
use Rattle.mon_turns.specs.Opening.{HasRoom}
use Rattle.mon_turns.specs.Laws.{ViewsAreTheHistorys, OthersAreTheHistorys}
use Rattle.mon_turns.proofs.Rising.{reverse-cons, rising}

-- the newest of those that pass a test ------------------------------------------------

abbrev newest : (ℕ → Bool) → List ℕ → Option ℕ
newest test [] = None
newest test (s ∷ newer) = or_own (newest test newer) (cond (test s) (Some s) None)

or-same : (a b : Option ℕ) → option_or a b ≡ or_own a b
or-same None b = refl
or-same (Some s) b = refl

find-newest : (test : ℕ → Bool) (ss : List ℕ) → find test (reverse ss) ≡ newest test ss
find-newest test [] = refl
find-newest test (s ∷ ss) =
    ap (find test) (reverse-cons s ss)
    ∙ find-append test (reverse ss) (s ∷ [])
    ∙ or-same (find test (reverse ss)) (find test (s ∷ []))
    ∙ ap (λ (o : Option ℕ). or_own o (cond (test s) (Some s) None)) (find-newest test ss)

find-cond : (b : Bool) (p : Placed) (o : Option Placed) → option_map (λ q. q.session) (cond b (Some p) o) ≡ cond b (Some p.session) (option_map (λ q. q.session) o)
find-cond true p o = refl
find-cond false p o = refl

find-session : (test : ℕ → Bool) (placed : List Placed) → option_map (λ p. p.session) (find (λ p. test p.session) placed) ≡ find test (map (λ p. p.session) placed)
find-session test [] = refl
find-session test (p ∷ placed) =
    find-cond (test p.session) p (find (λ q. test q.session) placed)
    ∙ ap (λ (o : Option ℕ). cond (test p.session) (Some p.session) o) (find-session test placed)

or-mapped : (g : ℕ → Connected) (a : Option ℕ) (b : Bool) (s : ℕ) → or_older (option_map g a) (cond b (Some (g s)) None) ≡ option_map g (or_own a (cond b (Some s) None))
or-mapped g (Some k) b s = refl
or-mapped g None true s = refl
or-mapped g None false s = refl

abbrev is_of : Run → List Moment → ℕ → ℕ → Bool
is_of run f d s = is_named d (datapath (part run s f))

session-newest : (run : Run) (f : List Moment) (d : ℕ) (ss : List ℕ) → session_of d (map (connected_at run f) ss) ≡ option_map (connected_at run f) (newest (is_of run f d) ss)
session-newest run f d [] = refl
session-newest run f d (s ∷ ss) =
    ap (λ (o : Option Connected). or_older o (cond (is_of run f d s) (Some (connected_at run f s)) None)) (session-newest run f d ss)
    ∙ or-mapped (connected_at run f) (newest (is_of run f d) ss) (is_of run f d s) s

with-newest : (run : Run) (f : List Moment) (d : ℕ) → HasRoom run f → FramesGoInOrder run f → next run f ≡ Nothing
    → session_with (parts_of run f) (open_with_slot run f) d ≡ newest (is_of run f d) (open_ones run f)
with-newest run f d room order nothing =
    find-session (is_of run f d) (open_with_slot run f) ∙ ap (find (is_of run f d)) (rising run f room order nothing) ∙ find-newest (is_of run f d) (open_ones run f)

-- views -------------------------------------------------------------------------------

armed-one : (run : Run) (f : List Moment) (o : Option ℕ) → history.is_armed_one (parts_of run f) o ≡ is_armed_one (option_map (connected_at run f) o)
armed-one run f None = refl
armed-one run f (Some s) = refl

armed-same : (run : Run) (f : List Moment) (d : ℕ) → HasRoom run f → FramesGoInOrder run f → next run f ≡ Nothing
    → history.is_armed_one (parts_of run f) (session_with (parts_of run f) (open_with_slot run f) d) ≡ is_armed_one (session_of d (state_of run f).sessions)
armed-same run f d room order nothing =
    ap (history.is_armed_one (parts_of run f)) (with-newest run f d room order nothing)
    ∙ armed-one run f (newest (is_of run f d) (open_ones run f))
    ∙ ap is_armed_one (sym (session-newest run f d (open_ones run f)))

near-same : (run : Run) (f : List Moment) (o : Option Near) (links : List Near) → HasRoom run f → FramesGoInOrder run f → next run f ≡ Nothing
    → history.with_near (parts_of run f) (open_with_slot run f) o links ≡ with_near (state_of run f).sessions o links
near-same run f None links room order nothing = refl
near-same run f (Some n) links room order nothing =
    ap (λ (b : Bool). cond b (by_port n links) links) (armed-same run f n.switch room order nothing)

links-same : (run : Run) (f : List Moment) (d : ℕ) (links : List Link) → HasRoom run f → FramesGoInOrder run f → next run f ≡ Nothing
    → history.links_to_armed run (parts_of run f) (open_with_slot run f) d links ≡ links_to_armed run (state_of run f).sessions d links
links-same run f d [] room order nothing = refl
links-same run f d (l ∷ ls) room order nothing =
    near-same run f (near_of run d l) (history.links_to_armed run (parts_of run f) (open_with_slot run f) d ls) room order nothing
    ∙ ap (with_near (state_of run f).sessions (near_of run d l)) (links-same run f d ls room order nothing)

pub views-historys : ViewsAreTheHistorys
views-historys run f s room order nothing =
    ap (λ (links : List Near). record (view run s f) { links = links })
    (sym (links-same run f (number_or (datapath (part run s f))) run.topology.links room order nothing))

-- the others ----------------------------------------------------------------------------

abbrev named_by : Run → List Moment → ℕ → ℕ → List ℕ
named_by run f r s = cond (s == r) [] (cons_option (datapath (part run s f)) [])

cons-front : (o : Option ℕ) (xs : List ℕ) → cons_option o xs ≡ cons_option o [] ++ xs
cons-front None xs = refl
cons-front (Some x) xs = refl

cond-front : (b : Bool) (o : Option ℕ) (xs : List ℕ) → cond b xs (cons_option o xs) ≡ cond b [] (cons_option o []) ++ xs
cond-front true o xs = refl
cond-front false o xs = cons-front o xs

-- what each names, in order
abbrev all_named : Run → List Moment → ℕ → List ℕ → List ℕ
all_named run f r [] = []
all_named run f r (s ∷ ss) = named_by run f r s ++ all_named run f r ss

named-last : (run : Run) (f : List Moment) (r s : ℕ) (ss : List ℕ) → all_named run f r (ss ++ s ∷ []) ≡ all_named run f r ss ++ named_by run f r s
named-last run f r s [] = append-nil (named_by run f r s)
named-last run f r s (q ∷ ss) =
    ap (λ (xs : List ℕ). named_by run f r q ++ xs) (named-last run f r s ss)
    ∙ sym (append_assoc (named_by run f r q) (all_named run f r ss) (named_by run f r s))

placed-named : (run : Run) (f : List Moment) (r : ℕ) (placed : List Placed) → other_datapaths (parts_of run f) r placed ≡ all_named run f r (map (λ p. p.session) placed)
placed-named run f r [] = refl
placed-named run f r (p ∷ placed) =
    cond-front (p.session == r) (datapath (part run p.session f)) (other_datapaths (parts_of run f) r placed)
    ∙ ap (λ (xs : List ℕ). named_by run f r p.session ++ xs) (placed-named run f r placed)

others-named : (run : Run) (f : List Moment) (r : ℕ) (ss : List ℕ) → others r (map (connected_at run f) ss) ≡ all_named run f r (reverse ss)
others-named run f r [] = refl
others-named run f r (s ∷ ss) =
    ap (λ (xs : List ℕ). xs ++ named_by run f r s) (others-named run f r ss)
    ∙ sym (named-last run f r s (reverse ss))
    ∙ ap (all_named run f r) (sym (reverse-cons s ss))

pub others-historys : OthersAreTheHistorys
others-historys run f r room order nothing =
    others-named run f r (open_ones run f)
    ∙ ap (all_named run f r) (sym (rising run f room order nothing))
    ∙ sym (placed-named run f r (open_with_slot run f))
