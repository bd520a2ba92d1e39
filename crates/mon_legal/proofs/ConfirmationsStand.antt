-- The confirmation follows its return.
use Rattle.std.specs.Prelude.{◌≡◌, Bool, true, false, List, [], ◌∷◌, None, refl}
use Rattle.mon_legal.specs.Confirming.{ConfirmationsAreSound}
use Rattle.std.specs.Prelude.{cond}
use Rattle.mon_shows.specs.Separation.{may_show}
use Rattle.mon_table.specs.Winners.{left}
use Rattle.mon_legal.specs.Messages.{catching_table}
use Rattle.mon_legal.specs.Edits.{table_of}
use Rattle.mon_table.specs.declared.rule.Rule.{Rule}
use Rattle.mon_table.specs.declared.edit.Edit.TheVariants as edit
use Rattle.mon_legal.specs.Edits.{Passed}
use Rattle.mon_legal.specs.Story.{run, header, emission, rule_of_add, add, probe_out, the_ordinary_use}
use Rattle.mon_legal.proofs.Computed.{compared}

abbrev the_edit : Passed
the_edit = record { number = 1; edit = edit.Put rule_of_add None; stood = None; frame = add; settled = false; reported = false; ticks = 0 }

-- the edit is chosen or not
kept_or_none : Bool → List Passed
kept_or_none true = the_edit ∷ []
kept_or_none false = []

none_without : (b : Bool) (goes : Rule → Bool) → b ≡ false
    → may_show (left goes (table_of (catching_table 100 (100 ∷ 101 ∷ [])) (cond b (the_edit ∷ []) []))) header emission ≡ false
unfolding compared
none_without true goes e = absurd (let f : true ≡ false = e in cc)
none_without false goes e = refl

pub stands : ConfirmationsAreSound run the_ordinary_use
unfolding compared
stands = (tt, record { exact = refl; sound = tt; settled = refl; rejected = refl }, (tt, record { exact = refl; sound = tt; settled = refl; rejected = refl }, (tt, record { exact = refl; sound = tt; settled = refl; rejected = refl }, (tt, record { exact = refl; sound = (record { session = 1; frame = probe_out; emission = emission }, refl, λ keep goes settled gone. none_without (keep 1) goes gone); settled = refl; rejected = refl }, (tt, record { exact = refl; sound = tt; settled = refl; rejected = refl }, (tt, record { exact = refl; sound = tt; settled = refl; rejected = refl }, (tt, record { exact = refl; sound = tt; settled = refl; rejected = refl }, (tt, record { exact = refl; sound = tt; settled = refl; rejected = refl }, (tt, record { exact = refl; sound = tt; settled = refl; rejected = refl }, (tt, record { exact = refl; sound = tt; settled = refl; rejected = refl }, (tt, record { exact = refl; sound = tt; settled = refl; rejected = refl }, (tt, record { exact = refl; sound = tt; settled = refl; rejected = refl }, (tt, record { exact = refl; sound = tt; settled = refl; rejected = refl }, (tt, record { exact = refl; sound = tt; settled = refl; rejected = refl }, (tt, record { exact = refl; sound = tt; settled = refl; rejected = refl }, (tt, record { exact = refl; sound = tt; settled = refl; rejected = refl }, (tt, record { exact = refl; sound = tt; settled = refl; rejected = refl }, (tt, record { exact = refl; sound = tt; settled = refl; rejected = refl }, (tt, record { exact = refl; sound = tt; settled = refl; rejected = refl }, (tt, record { exact = refl; sound = tt; settled = refl; rejected = refl }, (tt, record { exact = refl; sound = tt; settled = refl; rejected = refl }, (tt, record { exact = refl; sound = tt; settled = refl; rejected = refl }, (tt, record { exact = refl; sound = tt; settled = refl; rejected = refl }, (tt, record { exact = refl; sound = tt; settled = refl; rejected = refl }, (tt, record { exact = refl; sound = tt; settled = refl; rejected = refl }, (tt, record { exact = refl; sound = tt; settled = refl; rejected = refl }, (tt, record { exact = refl; sound = tt; settled = refl; rejected = refl }, (tt, record { exact = refl; sound = tt; settled = refl; rejected = refl }, (tt, record { exact = refl; sound = tt; settled = refl; rejected = refl }, (tt, record { exact = refl; sound = tt; settled = refl; rejected = refl }, (tt, record { exact = refl; sound = tt; settled = refl; rejected = refl }, (tt, record { exact = refl; sound = tt; settled = refl; rejected = refl }, (tt, record { exact = refl; sound = tt; settled = refl; rejected = refl }, (tt, record { exact = refl; sound = tt; settled = refl; rejected = refl }, (tt, record { exact = refl; sound = tt; settled = refl; rejected = refl }, (tt, record { exact = refl; sound = tt; settled = refl; rejected = refl }, (tt, record { exact = refl; sound = tt; settled = refl; rejected = refl }, (tt, record { exact = refl; sound = tt; settled = refl; rejected = refl }, (tt, record { exact = refl; sound = tt; settled = refl; rejected = refl }, (tt, record { exact = refl; sound = tt; settled = refl; rejected = refl }, (tt, record { exact = refl; sound = tt; settled = refl; rejected = refl }, (tt, record { exact = refl; sound = tt; settled = refl; rejected = refl }, (tt, record { exact = refl; sound = tt; settled = refl; rejected = refl }, (tt, record { exact = refl; sound = tt; settled = refl; rejected = refl }, (tt, record { exact = refl; sound = tt; settled = refl; rejected = refl }, (tt, record { exact = refl; sound = tt; settled = refl; rejected = refl }, (tt, record { exact = refl; sound = tt; settled = refl; rejected = refl }, (tt, record { exact = refl; sound = tt; settled = refl; rejected = refl }, (tt, record { exact = refl; sound = tt; settled = refl; rejected = refl }, (tt, record { exact = refl; sound = tt; settled = refl; rejected = refl }, (tt, record { exact = refl; sound = tt; settled = refl; rejected = refl }, (tt, record { exact = refl; sound = tt; settled = refl; rejected = refl }, (tt, record { exact = refl; sound = tt; settled = refl; rejected = refl }, (tt, record { exact = refl; sound = tt; settled = refl; rejected = refl }, (tt, record { exact = refl; sound = tt; settled = refl; rejected = refl }, (tt, record { exact = refl; sound = tt; settled = refl; rejected = refl }, (tt, record { exact = refl; sound = tt; settled = refl; rejected = refl }, (tt, record { exact = refl; sound = tt; settled = refl; rejected = refl }, (tt, record { exact = refl; sound = tt; settled = refl; rejected = refl }, (tt, record { exact = refl; sound = tt; settled = refl; rejected = refl }, (tt, record { exact = refl; sound = tt; settled = refl; rejected = refl }, (tt, record { exact = refl; sound = tt; settled = refl; rejected = refl }, (tt, record { exact = refl; sound = tt; settled = refl; rejected = refl }, (tt, record { exact = refl; sound = tt; settled = refl; rejected = refl }, (tt, record { exact = refl; sound = tt; settled = refl; rejected = refl }, (tt, record { exact = refl; sound = tt; settled = refl; rejected = refl }, (tt, record { exact = refl; sound = tt; settled = refl; rejected = refl }, tt)))))))))))))))))))))))))))))))))))))))))))))))))))))))))))))))))))
