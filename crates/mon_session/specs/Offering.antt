-- Which jobs a session offers, and what each of them asks.
use Rattle.std.specs.Prelude.{◌≡◌, ℕ, zero, suc, ◌+◌, ◌<◌, ◌^◌, ◌==◌, if◌then◌else◌, List, [], ◌∷◌, ◌++◌, length, take, map, Option, Some, None}
use Rattle.std.specs.List.{AllByRecursion}
use Rattle.mon_table.specs.declared.rule.Rule.{Rule}
use Rattle.mon_table.specs.Tables.{IsTable, slice}
use Rattle.mon_shows.specs.Views.{Viewing}
use Rattle.mon_job.specs.Jobs.{Task, updated, IsJob}
use Rattle.mon_legal.specs.Runs.{Run}
use Rattle.mon_legal.specs.Owns.{Own}
use Rattle.mon_legal.specs.Owns.Own.{Offers}
use Rattle.mon_legal.specs.Messages.{put_all}
use Rattle.mon_legal.specs.Edits.{Passed, passed}
use Rattle.mon_legal.specs.Datapaths.{catching}
use Rattle.mon_legal.specs.Targets.{target_of, table_for}
use Rattle.mon_session.specs.declared.numbers.Numbers.{Numbers}
use Rattle.mon_session.specs.Now.{Now, now_of, edit_numbered}
use Rattle.mon_session.specs.Standing.{AllPassedWell}
use Rattle.mon_session.specs.Tracks.{offered}
use Rattle.mon_session.specs.Walks.{Known}
use Rattle.mon_session.specs.Entries.{with_now, forgotten}
use Rattle.mon_session.specs.Probing.{wanted}

-- the table that the switch should have: the controller's entries, and the rules by which it catches its neighbours' probes
abbrev pub expected_in : Now → List Rule
expected_in n = put_all n.catching n.table

-- the job of an edit: it asks of that table's slice by the edit's match, as the session is seen and stands now
abbrev pub job_of : Viewing → Known → ℕ → Passed → Task
job_of v k number p = record {
  number = number;
  session = k.number;
  slot = k.slot;
  edit = p.number;
  version = k.now.version;
  view = v;
  table = slice (updated (target_of v p.edit)).matching (table_for (expected_in k.now) (target_of v p.edit));
  target = target_of v p.edit;
}

-- the oldest edit that wants a job
abbrev pub edit_at : List Passed → Option ℕ → Option Passed
edit_at edits None = None
edit_at edits (Some e) = edit_numbered e edits

-- its job. No edit has the number 0, which a watch has
abbrev pub job_for : Viewing → Known → ℕ → Option Passed → Option Task
job_for v k number None = None
job_for v k number (Some p) = if p.number == 0 then None else Some (job_of v k number p)

-- the next job, where the session's view is known
abbrev pub next_job : Option Viewing → Known → ℕ → Option Task
next_job None k number = None
next_job (Some v) k number = job_for v k number (edit_at k.now.unsettled (wanted k.now))

-- the session once a job is offered
abbrev pub with_offer : Option Task → Known → Known
with_offer None k = k
with_offer (Some j) k = with_now k (record (forgotten k.now) { tracks = map (offered j.edit) k.now.tracks })

-- and the number that was used last
abbrev pub last_after : Option Task → Numbers → Numbers
last_after None n = n
last_after (Some j) n = record n { job = n.job + 1 }

abbrev pub and_later : Option Task → List Task → List Task
and_later None later = []
and_later (Some j) later = j ∷ later

-- the jobs for which there is room, one after the other, behind the last number that was used
abbrev pub jobs_for : Option Viewing → ℕ → Known → ℕ → List Task
jobs_for v zero k last = []
jobs_for v (suc room) k last = and_later (next_job v k (last + 1)) (jobs_for v room (with_offer (next_job v k (last + 1)) k) (last + 1))

-- their entries
abbrev pub offer_of : Task → Own
offer_of j = Offers j.number j.edit

-- the update of each unsettled edit is in that table
abbrev pub AreThere : Viewing → Now → List Passed → Type 0
AreThere v n edits = AllByRecursion (λ p. IsJob (table_for (expected_in n) (target_of v p.edit)) (target_of v p.edit)) edits

abbrev pub EditsAreThere : Now → Type 0
EditsAreThere n = (v : Viewing) → AreThere v n n.unsettled

-- a job is wanted behind the last number there is: so many of these jobs were offered before it
pub record UsedUp (all : List Task) (n m : Numbers) (jobs new : List Task) : Type 0 where
  pub done : ℕ
  pub more : done < length all
  pub offers : new ≡ jobs ++ take done all
  pub numbers : m ≡ record n { job = n.job + done }
  pub last : m.job + 1 ≡ 2 ^ 64

-- it is so wherever the edits stand well, over the controller's entries alone and over the catching rules
abbrev pub UpdatesAreThere : Type 0
UpdatesAreThere = (run : Run) (earlier : ℕ) (own : List Own) → IsTable (catching run own) → AllPassedWell [] (passed own)
    → AllPassedWell (catching run own) (passed own) → EditsAreThere (now_of run earlier own)
