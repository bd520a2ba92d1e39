-- What a session is told of the others, and what a job of it asks, as the core's own state gives them: they are those of the
-- history where one is told, and the same where none is.
use Rattle.std.specs.Prelude.{◌≡◌, ℕ, ◌≤◌, Bool, true, false, ◌==◌, ◌&&◌, if◌then◌else◌, List, [], ◌∷◌, ◌++◌, map, Option, Some, None}
use Rattle.std.specs.List.{AllByRecursion, list_any, cons_option}
use Rattle.mon_topo.specs.declared.topology.Link.{Link}
use Rattle.mon_shows.specs.declared.near.Near.{Near}
use Rattle.mon_shows.specs.declared.target.Target.{Target}
use Rattle.mon_shows.specs.Views.{Viewing}
use Rattle.mon_job.specs.Jobs.{Task, updated}
use Rattle.mon_table.specs.Tables.{slice}
use Rattle.mon_legal.specs.Runs.{Run}
use Rattle.mon_legal.specs.Moments.{Moment}
use Rattle.mon_legal.specs.Edits.{expected, is_number}
use Rattle.mon_legal.specs.Targets.{target_of_job, target_with, table_for}
use Rattle.mon_legal.specs.Datapaths.{catching}
use Rattle.mon_legal.specs.Sessions.{part, version, view, near_of, by_port, number_or, is_named}
use Rattle.mon_session.specs.Now.{Now, tag_in, edit_numbered}
use Rattle.mon_session.specs.Offering.{expected_in}
use Rattle.mon_turns.specs.Core.{Connected, State, Waiting}

-- views ------------------------------------------------------------------------

-- the open session of a datapath
abbrev pub or_older : Option Connected → Option Connected → Option Connected
or_older (Some c) older = Some c
or_older None older = older

abbrev pub session_of : ℕ → List Connected → Option Connected
session_of d [] = None
session_of d (c ∷ newer) = or_older (session_of d newer) (if is_named d c.session.now.datapath then Some c else None)

abbrev pub is_armed_one : Option Connected → Bool
is_armed_one None = false
is_armed_one (Some c) = c.session.now.armed

abbrev pub with_near : List Connected → Option Near → List Near → List Near
with_near sessions None links = links
with_near sessions (Some n) links = if is_armed_one (session_of n.switch sessions) then by_port n links else links

-- the links of a switch to neighbours whose sessions are armed, by ascending port
abbrev pub links_to_armed : Run → List Connected → ℕ → List Link → List Near
links_to_armed run sessions d [] = []
links_to_armed run sessions d (l ∷ ls) = with_near sessions (near_of run d l) (links_to_armed run sessions d ls)

-- the view of a session whose datapath is known
abbrev pub viewed : Run → List Connected → Now → Viewing
viewed run sessions n = record {
  switch = number_or n.datapath;
  tag = number_or (tag_in run n.datapath);
  tags = run.in_use;
  links = links_to_armed run sessions (number_or n.datapath) run.topology.links;
  miss = n.miss;
}

-- the datapaths of the other open sessions, the newest session's first
abbrev pub others : ℕ → List Connected → List ℕ
others s [] = []
others s (c ∷ newer) = others s newer ++ (if c.session.number == s then [] else cons_option c.session.now.datapath [])

-- jobs -------------------------------------------------------------------------

-- what a job was offered as, and in which slot
abbrev pub offered_as : Task → Waiting
offered_as task = record {
  job = record { number = task.number; session = task.session; edit = task.edit; version = task.version };
  slot = task.slot;
}

-- the target of a job of an unsettled edit. To come: that of a watch, which a session does not keep yet
abbrev pub target_in : Viewing → Now → ℕ → Option Target
target_in v n k = target_with v k None (edit_numbered k n.unsettled)

-- the job asks this session, seen so, of the present: the slice of the expected table, the view, and the target of its edit
pub record AsksNow (v : Viewing) (n : Now) (task : Task) : Type 0 where
  pub target : target_in v n task.edit ≡ Some task.target
  pub table : task.table ≡ slice (updated task.target).matching (table_for (expected_in n) task.target)
  pub view : task.view ≡ v

-- an answer to the job would be current: it is of this session and of its slot's version, and its edit is unsettled
abbrev pub is_current_in : Task → Connected → Bool
is_current_in task c =
    (c.session.number == task.session)
    && ((task.version == c.session.now.version) && list_any (is_number task.edit) c.session.now.unsettled)

abbrev pub IsPresentIn : Run → State → Task → Type 0
IsPresentIn run core task =
    AllByRecursion
    (λ c. is_current_in task c ≡ true → AsksNow (viewed run core.sessions c.session.now) c.session.now task)
    core.sessions

-- the core and its crew go together: the same jobs without an answer, each in the slot of its session, those of sessions that
-- ended too, the same versions, no job number of the crew above the core's, and each job to which an answer would be current
-- asks of the present. It is a fact of the core's own state, so it holds beside a hub that tells no log too
pub record GoesWith (run : Run) (core : State) (tasks : List Task) (published : List ℕ) (last : ℕ) : Type 0 where
  pub same_jobs : map offered_as tasks ≡ core.jobs
  pub same_versions : published ≡ core.versions
  pub fresh : last ≤ core.last_job
  pub present : AllByRecursion (IsPresentIn run core) tasks

-- where a history is told, more: each job of its slot's version asks of the present, whatever became of its edit
pub record AsksThePresent (run : Run) (f : List Moment) (task : Task) : Type 0 where
  pub target : target_of_job run (view run task.session f) (part run task.session f) task.edit ≡ Some task.target
  pub table : task.table
      ≡ slice (updated task.target).matching (table_for (expected (catching run (part run task.session f)) (part run task.session f)) task.target)
  pub view : task.view ≡ view run task.session f

abbrev pub IsPresent : Run → List Moment → Task → Type 0
IsPresent run f task = task.version ≡ version run task.session f → AsksThePresent run f task
