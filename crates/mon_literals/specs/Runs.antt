-- Runs of a header's bits as literals: variable k is the bit at place k of a header. The fields begin at the places
-- in_port 0, dl_src 16, dl_dst 64, dl_vlan 112, dl_vlan_pcp 128, dl_type 136, nw_tos 152, nw_proto 160, nw_src 168,
-- nw_dst 200, tp_src 232 and tp_dst 248.
use Rattle.std.specs.Prelude.{ℕ, suc, Bool, List, [], ◌∷◌}
use Rattle.mon_cnf.specs.declared.clause.Lit.{Lit}
use Rattle.mon_header.specs.Places.{bits_of}
use Rattle.mon_literals.specs.declared.run.Run.{Run}

-- the run from a place on, of so many bits, and the number that they spell
abbrev pub run : ℕ → ℕ → ℕ → Run
run start count number = record { start = start; count = count; number = number }

-- the literals that say that the variables from one on have these values
abbrev pub valued : ℕ → List Bool → List Lit
valued var [] = []
valued var (b ∷ bits) = record { var = var; positive = b } ∷ valued (suc var) bits

-- the literals that say that a run's bits spell its number
abbrev pub spelled : Run → List Lit
spelled r = valued r.start (bits_of r.count r.number)
