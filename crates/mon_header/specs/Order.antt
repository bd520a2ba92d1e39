-- The order of matches: that of the 40 bytes in which they are written, as numbers in the order of the layout.
use Rattle.std.specs.Prelude.{ℕ, Bool, false, ◌==◌, nat_lt, ◌&&◌, ◌||◌, List, [], ◌∷◌}
use Rattle.mon_header.specs.Wild.{packed}
use Rattle.mon_header.specs.Matching.{Matching}

-- the numbers of a match in the order of its layout
unfoldable pub key : Matching → List ℕ
key m =
    packed m.wild ∷ m.fields.in_port ∷ m.fields.dl_src ∷ m.fields.dl_dst ∷ m.fields.dl_vlan ∷ m.fields.dl_vlan_pcp
    ∷ m.fields.dl_type ∷ m.fields.nw_tos ∷ m.fields.nw_proto ∷ m.fields.nw_src ∷ m.fields.nw_dst
    ∷ m.fields.tp_src ∷ m.fields.tp_dst ∷ []

-- the first number that differs is less
abbrev pub is_less : List ℕ → List ℕ → Bool
is_less [] ys = false
is_less (x ∷ xs) [] = false
is_less (x ∷ xs) (y ∷ ys) = nat_lt x y || ((x == y) && is_less xs ys)

-- one match stands before another
abbrev pub match_before : Matching → Matching → Bool
match_before a b = is_less (key a) (key b)
