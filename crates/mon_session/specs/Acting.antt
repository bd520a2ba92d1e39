-- What a session does by itself, step after step.
use Rattle.std.specs.Prelude.{◌≡◌, ℕ, ◌+◌, false, List, [], ◌∷◌, ◌++◌, Option, Some, None}
use Rattle.mon_report.specs.declared.line.What.TheVariants as what
use Rattle.mon_world.specs.declared.event.Side.TheVariants.{Controller, Switch}
use Rattle.mon_legal.specs.Runs.{Run}
use Rattle.mon_legal.specs.Owns.{Own, Act, Change}
use Rattle.mon_legal.specs.Owns.Own.{Acts, Sends}
use Rattle.mon_legal.specs.Owns.Act.{Closing, Reply, Plan, Step}
use Rattle.mon_legal.specs.Messages.{own_barrier}
use Rattle.mon_legal.specs.Held.{act_due, due_step}
use Rattle.mon_legal.specs.Directly.{Due, fact, on_edit}
use Rattle.mon_legal.specs.Directly.Due.{Frame}
use Rattle.mon_session.specs.declared.step.Step.{Step as Step_out}
use Rattle.mon_session.specs.Now.{Now, walked, made_if}
use Rattle.mon_session.specs.Walks.{Known, walks, steps_of}
use Rattle.mon_session.specs.Ordered.{Ordering, nowhere}
use Rattle.mon_session.specs.Entries.{forgotten}
use Rattle.mon_session.specs.Dues.{met}

-- what the session does next; no rule is passed by a stand-in yet, as in a view without links
abbrev pub due_in : Now → Option Act
due_in n = act_due n.armed nowhere [] n.unsettled n.postponed n.kept n.waiting n.under_way

-- what its frames let it do
abbrev pub frames_due : Now → Option Act
frames_due n = due_step nowhere [] n.unsettled n.waiting n.under_way

-- what is due behind a step that let an edit out, or none
abbrev pub behind_step : ℕ → Now → Option Change → List Due
behind_step s n None = []
behind_step s n (Some change) = on_edit s (n.count + 1) (made_if (Some change.edit) n.table) (Some change.edit)

-- the entries of one act
abbrev pub entries_of : ℕ → Now → Act → List Own
entries_of s n (Closing edit close) =
    Acts (Closing edit close) ∷ Sends Switch close.frame false ∷ met (fact s (n.count + 1) what.Closing ∷ Frame Switch own_barrier ∷ [])
entries_of s n (Reply frame) = Acts (Reply frame) ∷ Sends Controller frame false ∷ []
entries_of s n (Plan frame) = Acts (Plan frame) ∷ []
entries_of s n (Step to frame change) = Acts (Step to frame change) ∷ Sends to frame false ∷ met (behind_step s n change)

abbrev pub entries_if : ℕ → Now → Option Act → List Own
entries_if s n None = []
entries_if s n (Some act) = entries_of s n act

-- the entries of acts one after the other
abbrev pub all_entries : Run → ℕ → Now → List Act → List Own
all_entries run s n [] = []
all_entries run s n (act ∷ acts) = entries_of s n act ++ all_entries run s (walked run n (entries_of s n act)) acts

-- each of them is due as it comes
abbrev pub InTurn : Run → ℕ → Now → List Act → Type 0
InTurn run s n [] = Unit {0}
InTurn run s n (act ∷ acts) = (due_in n ≡ Some act) × InTurn run s (walked run n (entries_of s n act)) acts

-- acts that were due one after the other, and what they did
pub record Acted (run : Run) (k l : Known) (before after : List Step_out) : Type 0 where
  pub acts : List Act
  pub turns : InTurn run k.number k.now acts
  pub walk : l ≡ walks run k (all_entries run k.number k.now acts)
  pub steps : after ≡ before ++ steps_of k.number (all_entries run k.number k.now acts)

-- the session with its ordered frames so
abbrev pub plans : Now → Ordering → Now
plans n o = record (forgotten n) { waiting = o.waiting; under_way = o.parts; planned = o.planned }
