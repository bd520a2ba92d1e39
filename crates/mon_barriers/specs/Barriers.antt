-- Barriers without an answer, and the replies that the controller waits for, each oldest first.
use Rattle.std.specs.Prelude.{ℕ, Bool, true, nat_lt, List, [], ◌∷◌, ◌++◌, Option, Some, None, if◌then◌else◌}
use Rattle.mon_barriers.specs.declared.barriers.Asker.{Asker}
use Rattle.mon_barriers.specs.declared.barriers.Asker.TheVariants.{Arming, Own, Controller}
use Rattle.mon_barriers.specs.declared.barriers.Asked.{Asked}
use Rattle.mon_barriers.specs.declared.barriers.Asked.TheVariants as asked
use Rattle.mon_barriers.specs.declared.barriers.Reply.{Reply}

-- what a session knows of its barriers
pub record Pending : Type 0 where
  pub askers : List Asker
  pub replies : List Reply

-- what a reply is: the oldest asker is answered
abbrev pub asked_of : List Asker → List ℕ → Asked
asked_of [] frame = asked.Stray frame
asked_of (Arming ∷ _) _ = asked.Own Arming
asked_of (Own e ∷ _) _ = asked.Own (Own e)
asked_of (Controller _ ∷ _) _ = asked.Kept

-- the kept replies with this one, where the oldest asker is the controller
abbrev pub replies_with : List Asker → List ℕ → List Reply → List Reply
replies_with (Controller edits ∷ _) frame replies = replies ++ record { edits = edits; frame = frame } ∷ []
replies_with _ _ replies = replies

-- no edit is unsettled that was passed before the request
abbrev pub may_go : Option ℕ → ℕ → Bool
may_go None edits = true
may_go (Some oldest) edits = nat_lt edits oldest

-- the reply that may go out: the oldest alone is looked at
abbrev pub released : Option ℕ → List Reply → Option (List ℕ)
released oldest [] = None
released oldest (reply ∷ _) = if may_go oldest reply.edits then Some reply.frame else None

-- the replies that stay behind it
abbrev pub replies_without : Option ℕ → List Reply → List Reply
replies_without oldest [] = []
replies_without oldest (reply ∷ replies) = if may_go oldest reply.edits then replies else reply ∷ replies
