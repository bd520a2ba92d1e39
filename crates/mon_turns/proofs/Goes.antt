-- An opening keeps that the core goes with its crew.
use Rattle.std.proofs.Common.{◌≡◌, ℕ, ◌+◌, Bool, true, false, cond, ◌&&◌, List, [], ◌∷◌, ◌++◌, Option, Some, None, refl, sym, ap, subst, ◌∙◌}
use Rattle.std.specs.Prelude.{◌==◌, slice_set}
use Rattle.std.proofs.lemmas.Bool.{false≢true}
use Rattle.mon_job.specs.Jobs.{Task}
use Rattle.mon_topo.specs.declared.topology.Link.{Link}
use Rattle.mon_shows.specs.declared.near.Near.{Near}
use Rattle.mon_shows.specs.Views.{Viewing}
use Rattle.mon_legal.specs.Runs.{Run}
use Rattle.mon_legal.specs.Sessions.{near_of, number_or, by_port, is_named}
use Rattle.mon_session.specs.Now.{Now}
use Rattle.mon_world.specs.Crews.{version_at}
use Rattle.mon_turns.specs.Core.{Connected, State}
use Rattle.mon_turns.specs.Around.{or_older, session_of, is_armed_one, with_near, links_to_armed, viewed, AsksNow, is_current_in, IsPresentIn, GoesWith}
use Rattle.mon_turns.specs.Opening.{begun, opened_in, refused}
use Rattle.mon_turns.proofs.Born.{all-push, all-weaker}

-- a session that was just opened is nobody's neighbour
of-begun : (d number slot version : ℕ) (sessions : List Connected) → session_of d (sessions ++ begun number slot version ∷ []) ≡ session_of d sessions
of-begun d number slot version [] = refl
of-begun d number slot version (c ∷ sessions) =
    ap (λ (o : Option Connected). or_older o (cond (is_named d c.session.now.datapath) (Some c) None)) (of-begun d number slot version sessions)

near-begun : (number slot version : ℕ) (sessions : List Connected) (o : Option Near) (links : List Near)
    → with_near (sessions ++ begun number slot version ∷ []) o links ≡ with_near sessions o links
near-begun number slot version sessions None links = refl
near-begun number slot version sessions (Some n) links =
    ap (λ (o : Option Connected). cond (is_armed_one o) (by_port n links) links) (of-begun n.switch number slot version sessions)

links-begun : (run : Run) (number slot version : ℕ) (sessions : List Connected) (d : ℕ) (links : List Link)
    → links_to_armed run (sessions ++ begun number slot version ∷ []) d links ≡ links_to_armed run sessions d links
links-begun run number slot version sessions d [] = refl
links-begun run number slot version sessions d (l ∷ ls) =
    near-begun number slot version sessions (near_of run d l) (links_to_armed run (sessions ++ begun number slot version ∷ []) d ls)
    ∙ ap (with_near sessions (near_of run d l)) (links-begun run number slot version sessions d ls)

view-begun : (run : Run) (number slot version : ℕ) (sessions : List Connected) (n : Now)
    → viewed run (sessions ++ begun number slot version ∷ []) n ≡ viewed run sessions n
view-begun run number slot version sessions n =
    ap (λ (links : List Near). record (viewed run sessions n) { links = links })
    (links-begun run number slot version sessions (number_or n.datapath) run.topology.links)

none-current : (a b : Bool) → a && (b && false) ≡ true → ⊥
none-current true true e = false≢true e
none-current true false e = false≢true e
none-current false b e = false≢true e

-- what a job asks of the sessions that were there, it asks still
present-begun : (run : Run) (core : State) (slot : ℕ) (task : Task) → IsPresentIn run core task → IsPresentIn run (opened_in slot core) task
present-begun run core slot task old =
    let version = version_at slot core.versions + 1 in
    let new = begun core.openings slot version in
    all-push (λ c. is_current_in task c ≡ true → AsksNow (viewed run (core.sessions ++ new ∷ []) c.session.now) c.session.now task) core.sessions new
    (all-weaker (λ c. is_current_in task c ≡ true → AsksNow (viewed run core.sessions c.session.now) c.session.now task)
    (λ c. is_current_in task c ≡ true → AsksNow (viewed run (core.sessions ++ new ∷ []) c.session.now) c.session.now task) core.sessions
    (λ c asks e. subst (λ (v : Viewing). AsksNow v c.session.now task) (sym (view-begun run core.openings slot version core.sessions c.session.now)) (asks e)) old)
    (λ e. absurd (none-current (core.openings == task.session) (task.version == version) e))

goes-in : (run now : Run) (core state : State) (slot : ℕ) (tasks : List Task) (published after : List ℕ) (last : ℕ) → GoesWith run core tasks published last
    → now ≡ run → state ≡ opened_in slot core → after ≡ slice_set published slot (version_at slot core.versions + 1) → GoesWith now state tasks after last
goes-in run now core state slot tasks published after last old same is set =
    subst (λ (s : State). GoesWith now s tasks after last) (sym is)
    (subst (λ (r : Run). GoesWith r (opened_in slot core) tasks after last) (sym same) (record {
      same_jobs = old.same_jobs;
      same_versions = set ∙ ap (λ (vs : List ℕ). slice_set vs slot (version_at slot core.versions + 1)) old.same_versions;
      fresh = old.fresh;
      present = all-weaker (IsPresentIn run core) (IsPresentIn run (opened_in slot core)) tasks (present-begun run core slot) old.present;
    }))

pub goes-away : (run now : Run) (core state : State) (tasks : List Task) (published : List ℕ) (last : ℕ) → GoesWith run core tasks published last
    → now ≡ run → state ≡ refused core → GoesWith now state tasks published last
goes-away run now core state tasks published last old same is =
    subst (λ (s : State). GoesWith now s tasks published last) (sym is)
    (subst (λ (r : Run). GoesWith r (refused core) tasks published last) (sym same)
    (record { same_jobs = old.same_jobs; same_versions = old.same_versions; fresh = old.fresh; present = old.present }))

-- the same, with what a crew says that was told of the version
pub goes-kept : (run now : Run) (core state : State) (slot : ℕ) (tasks left : List Task) (published after : List ℕ) (last later version : ℕ)
    → GoesWith run core tasks published last → now ≡ run → state ≡ opened_in slot core → version ≡ version_at slot core.versions + 1
    → after ≡ slice_set published slot version → left ≡ tasks → later ≡ last → GoesWith now state left after later
goes-kept run now core state slot tasks left published after last later version old same is v set kept still =
    subst (λ (n : ℕ). GoesWith now state left after n) (sym still)
    (subst (λ (ts : List Task). GoesWith now state ts after last) (sym kept)
    (goes-in run now core state slot tasks published after last old same is (set ∙ ap (slice_set published slot) v)))
