-- A FLOW_MOD of the proxy's own, by the bytes of its actions.
use Rattle.std.specs.Prelude.{ℕ, Bool, true, false, List, [], ◌∷◌, ◌++◌}
use Rattle.byteorder.specs.Endian.{big_bytes}
use Rattle.mon_header.specs.Matching.{Matching}
use Rattle.mon_table.specs.declared.rule.Rule.{Rule}
use Rattle.mon_table.specs.Tables.{with_rule}
use Rattle.of_frame.specs.Header.{made}
use Rattle.of_match.specs.Layout.{spelled}
use Rattle.of_msgs.specs.declared.command.Command.TheVariants.{Add, Delete}
use Rattle.of_msgs.specs.Layout.{own_xid}
use Rattle.mon_legal.specs.Messages.{all_packets, catching_rule, own_mod}

-- the fields between the match and the actions
abbrev pub own_fields : ℕ → ℕ → List ℕ
own_fields command priority =
    big_bytes 8 0 ++ (big_bytes 2 command ++ (big_bytes 4 0 ++ (big_bytes 2 priority ++ (big_bytes 4 4294967295 ++ (big_bytes 2 65535 ++ big_bytes 2 0)))))

abbrev pub mod_of : ℕ → Matching → ℕ → List ℕ → List ℕ
mod_of command m priority actions =
    made 14 own_xid (spelled m ++ own_fields command priority ++ actions)

abbrev pub put_if : Bool → Rule → List Rule → List Rule
put_if true r t = with_rule r t
put_if false r t = t

-- its entries are deleted, and misses are sent with 128 bytes
abbrev pub clearing : List ℕ
clearing = own_mod Delete (record { matching = all_packets; priority = 0; actions = []; unsure = false })

abbrev pub setting : List ℕ
setting = made 9 own_xid (big_bytes 2 0 ++ big_bytes 2 128)

abbrev pub adding_if : Bool → ℕ → List (List ℕ)
adding_if true other = own_mod Add (catching_rule other) ∷ []
adding_if false other = []
