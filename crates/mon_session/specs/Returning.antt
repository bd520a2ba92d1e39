-- The probe that a PACKET_IN bears, which each open session is to be told of.
use Rattle.std.specs.Prelude.{ℕ, Bool, true, false, ◌==◌, List, [], ◌∷◌, Option, Some, None}
use Rattle.mon_header.specs.declared.header.Header.{Header}
use Rattle.mon_packet.specs.declared.nonce.Nonce.{Nonce}
use Rattle.mon_packet.specs.Reading.{Read}
use Rattle.mon_legal.specs.Runs.{Run}
use Rattle.mon_legal.specs.Messages.{carried_in}
use Rattle.mon_legal.specs.Sessions.{seen_at}
use Rattle.mon_session.specs.declared.step.Step.{Step}
use Rattle.mon_session.specs.declared.step.Step.TheVariants as step
use Rattle.mon_session.specs.Now.{Now}

-- the serial and the header of a probe, where its key is the run's
abbrev pub own_if : Bool → Header → Nonce → Option (ℕ × Header)
own_if true h n = Some (n.serial, h)
own_if false h n = None

abbrev pub own_with : ℕ → Header → Option Nonce → Option (ℕ × Header)
own_with key h None = None
own_with key h (Some n) = own_if (n.key == key) h n

abbrev pub own_in : ℕ → Read → Option (ℕ × Header)
own_in key None = None
own_in key (Some found) = own_with key found.0 found.1

-- what it shows of a switch that is known
abbrev pub return_of : Option ℕ → List ℕ → Option (ℕ × Header) → List Step
return_of (Some d) frame (Some found) = step.Return found.0 (seen_at d frame found.1) ∷ []
return_of d frame found = []

abbrev pub return_steps : Run → Now → List ℕ → List Step
return_steps run n frame = return_of n.datapath frame (own_in run.key (carried_in frame))
