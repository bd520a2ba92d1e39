-- What a call of a session does, entry by entry.
use Rattle.std.specs.Prelude.{ℕ, List, [], ◌∷◌, ◌++◌}
use Rattle.mon_world.specs.declared.event.Side.TheVariants.{Switch}
use Rattle.mon_world.specs.declared.event.Out.TheVariants.{Send}
use Rattle.mon_world.specs.declared.event.Note.TheVariants.{Report}
use Rattle.mon_legal.specs.Runs.{Run}
use Rattle.mon_legal.specs.Owns.{Own}
use Rattle.mon_legal.specs.Owns.Own.{Goes_out, Sends, Reports}
use Rattle.mon_session.specs.declared.step.Step.{Step}
use Rattle.mon_session.specs.declared.step.Step.TheVariants as step
use Rattle.mon_session.specs.Now.{Now, walked}
use Rattle.mon_session.specs.Now as Now

-- a session as others see it: its number, its slot, and what it keeps
pub record Known : Type 0 where
  pub number : ℕ
  pub slot : ℕ
  pub now : Now

-- what an entry of a session has the hub do
abbrev pub steps_for : ℕ → Own → List Step
steps_for s (Sends to frame lost) = step.Out (Send s to frame) ∷ []
steps_for s (Reports line) = step.Note (Report line) ∷ []
steps_for s (Goes_out serial near frame) = step.Out (Send near Switch frame) ∷ []
steps_for s o = []

abbrev pub steps_of : ℕ → List Own → List Step
steps_of s [] = []
steps_of s (o ∷ os) = steps_for s o ++ steps_of s os

-- the session after these entries
abbrev pub walks : Run → Known → List Own → Known
walks run k os = record k { now = walked run k.now os }

abbrev pub takes : Run → Known → Own → Known
takes run k o = record k { now = Now.step run k.now o }
