-- The version that a session keeps is that of its slot.
use Rattle.std.specs.Prelude.{◌≡◌, ℕ, ◌+◌, Bool, true, false, not, ◌||◌, List, [], ◌∷◌, filter, Option, Some, None, is_some, refl}
use Rattle.std.proofs.Common.{arith, ap, ◌∙◌}
use Rattle.mon_table.specs.declared.rule.Rule.{Rule}
use Rattle.mon_table.specs.Rules.{Identity}
use Rattle.mon_table.specs.Tables.{rule_of}
use Rattle.mon_world.specs.declared.event.Side.TheVariants.{Controller, Switch}
use Rattle.mon_legal.specs.Changing.{plus_if}
use Rattle.mon_legal.specs.Runs.{Run}
use Rattle.mon_legal.specs.Owns.{Own}
use Rattle.mon_legal.specs.Owns.Own.{Begins, From_switch, Neighbour, Sends, Ends}
use Rattle.mon_legal.specs.Messages.{identity_gone}
use Rattle.mon_legal.specs.Barriers.{guards}
use Rattle.mon_legal.specs.Edits.{Passed, table_of, passed, rejected_by, vanished, vanished_by, tells_of_vanishing}
use Rattle.mon_legal.specs.Versions.{is_change}
use Rattle.mon_legal.specs.Sessions.{changes}
use Rattle.mon_session.specs.Now.{now_of, version_after, changes_by, vanishing_at}
use Rattle.mon_session.proofs.Tables.{rejected_open, unsure-open}

plus-later : (b : Bool) (n m : ℕ) → n + plus_if b m ≡ plus_if b (n + m)
plus-later true n m = grind arith
plus-later false n m = refl

vanishing-open : (b : Bool) (i : Identity) (gs : List (Option Identity)) (ps : List Passed)
    → vanished b i gs ps ≡ vanishing_at b i gs (filter (λ p. not p.settled) ps) (table_of [] ps)
vanishing-open true i gs ps = unsure-open i ps gs (rule_of i (table_of [] ps))
vanishing-open false i gs ps = refl

framed-change : (run : Run) (earlier : ℕ) (own : List Own) (frame others : List ℕ)
    → is_change own (From_switch frame others) ≡ changes_by (now_of run earlier own) frame
framed-change run earlier own frame others =
    ap (λ (o : Option ℕ). is_some o || is_some (vanished_by own frame)) (rejected_open frame (passed own))
    ∙ ap (λ (o : Option Rule). is_some (rejected_by frame (filter (λ p. not p.settled) (passed own))) || is_some o)
    (vanishing-open (tells_of_vanishing own frame) (identity_gone frame) (guards own) (passed own))

pub version_stands : (run : Run) (earlier : ℕ) (own : List Own) (o : Own) → earlier + changes (o ∷ own) ≡ version_after (now_of run earlier own) o
version_stands run earlier own (Begins None) = refl
version_stands run earlier own (Begins (Some slot)) = plus-later true earlier (changes own)
version_stands run earlier own Ends = plus-later true earlier (changes own)
version_stands run earlier own Neighbour = plus-later (is_change own Neighbour) earlier (changes own)
version_stands run earlier own (From_switch frame others) =
    plus-later (is_change own (From_switch frame others)) earlier (changes own)
    ∙ ap (λ (b : Bool). plus_if b (earlier + changes own)) (framed-change run earlier own frame others)
version_stands run earlier own (Sends Controller frame lost) = refl
version_stands run earlier own (Sends Switch frame lost) = plus-later (is_change own (Sends Switch frame lost)) earlier (changes own)
version_stands run earlier own o = refl
