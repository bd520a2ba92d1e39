-- A match as literals: the bits that it compares.
use Rattle.std.specs.Prelude.{ℕ, ◌-◌, ◌/◌, ◌^◌, Bool, if◌then◌else◌, List, [], ◌∷◌, flat_map}
use Rattle.mon_cnf.specs.declared.clause.Lit.{Lit}
use Rattle.mon_header.specs.Matching.{Matching}
use Rattle.mon_literals.specs.declared.run.Run.{Run}
use Rattle.mon_literals.specs.Runs.{run, spelled}

-- a plain field, of which no bit is compared where it is wildcarded
abbrev pub compared : Bool → ℕ → ℕ → ℕ → Run
compared wild start count x = run start (if wild then 0 else count) x

-- an address, of which the low bits are not compared
abbrev pub compared_above : ℕ → ℕ → ℕ → Run
compared_above ignored start x = run start (32 - ignored) (x / 2 ^ ignored)

-- the bits that a match compares, field by field
unfoldable pub runs_of : Matching → List Run
runs_of m =
    compared m.wild.in_port 0 16 m.fields.in_port
    ∷ compared m.wild.dl_src 16 48 m.fields.dl_src
    ∷ compared m.wild.dl_dst 64 48 m.fields.dl_dst
    ∷ compared m.wild.dl_vlan 112 16 m.fields.dl_vlan
    ∷ compared m.wild.dl_vlan_pcp 128 8 m.fields.dl_vlan_pcp
    ∷ compared m.wild.dl_type 136 16 m.fields.dl_type
    ∷ compared m.wild.nw_tos 152 8 m.fields.nw_tos
    ∷ compared m.wild.nw_proto 160 8 m.fields.nw_proto
    ∷ compared_above m.wild.nw_src 168 m.fields.nw_src
    ∷ compared_above m.wild.nw_dst 200 m.fields.nw_dst
    ∷ compared m.wild.tp_src 232 16 m.fields.tp_src
    ∷ compared m.wild.tp_dst 248 16 m.fields.tp_dst
    ∷ []

-- the literals of these bits
abbrev pub pattern_of : Matching → List Lit
pattern_of m = flat_map spelled (runs_of m)
