-- The cases of a job: in which class and at which port a probe of it can come in, which rule wins there, and which of
-- that rule's emissions shows the update.
use Rattle.std.specs.Prelude.{◌≡◌, ℕ, suc, ◌<◌, true, List, [], ◌∷◌, ◌++◌, if◌then◌else◌, length, Option, Some, None}
use Rattle.std.specs.List.{slice_get, Contains}
use Rattle.std.specs.Option.{option_to_list}
use Rattle.mon_header.specs.declared.class.Class.{Class}
use Rattle.mon_header.specs.declared.class.Class.TheVariants.{Tcp, Udp, Icmp, OtherIpv4, Plain, Arp}
use Rattle.mon_header.specs.declared.header.Header.{Header}
use Rattle.mon_header.specs.Classes.{is_in_class}
use Rattle.mon_table.specs.declared.rule.Rule.{Rule}
use Rattle.mon_table.specs.Rules.{identity_of}
use Rattle.mon_table.specs.Places.{place_of}
use Rattle.mon_table.specs.Winners.{winners}
use Rattle.mon_outcome.specs.declared.emission.Emission.{Emission}
use Rattle.mon_outcome.specs.declared.emission.Emission.TheVariants.{Miss}
use Rattle.mon_outcome.specs.declared.shape.Shape.{Shape}
use Rattle.mon_outcome.specs.Emitting.{Emitted}
use Rattle.mon_outcome.specs.Shaping.{shapes_of, emitted_by}
use Rattle.mon_shows.specs.declared.near.Near.{Near}
use Rattle.mon_shows.specs.declared.target.Target.{Target}
use Rattle.mon_shows.specs.declared.target.Target.TheVariants.{Put, Cut, Watch}
use Rattle.mon_shows.specs.Separation.{with_update}
use Rattle.mon_job.specs.Jobs.{Task}
use Rattle.mon_encode.specs.declared.case.Case.{Case}

-- a case for each emission, by its position, counted from a first one
abbrev pub by_position : Class → ℕ → Option ℕ → ℕ → List Shape → List Case
by_position class in_port winner position [] = []
by_position class in_port winner position (shape ∷ shapes) =
    record { class = class; in_port = in_port; winner = winner; emission = position }
    ∷ by_position class in_port winner (suc position) shapes

-- the cases in which the rule wins, which stands at this place
abbrev pub of_rule : Class → ℕ → ℕ → Rule → List Case
of_rule class in_port place r = by_position class in_port (Some place) 0 (shapes_of r.actions class in_port)

-- the case in which no rule matches, and the packet is a miss
abbrev pub of_miss : Class → ℕ → List Case
of_miss class in_port = record { class = class; in_port = in_port; winner = None; emission = 0 } ∷ []

-- the cases in which the rule wins; an unsure one never wins alone, since the packet may then miss
abbrev pub of_sure : Class → ℕ → ℕ → Rule → List Case
of_sure class in_port place r = if r.unsure then [] else of_rule class in_port place r

-- the cases in which one of these rules wins, which stand from a place on, or none matches
abbrev pub of_any : Class → ℕ → ℕ → List Rule → List Case
of_any class in_port place [] = of_miss class in_port
of_any class in_port place (r ∷ t) = of_sure class in_port place r ++ of_any class in_port (suc place) t

-- the winners that can show an update: the rule itself that was put or is watched; where one was cut, each sure rule, and
-- the miss
abbrev pub by_winner : List Rule → Target → Class → ℕ → List Case
by_winner t (Put r old) class in_port = of_rule class in_port (place_of (identity_of r) t) r
by_winner t (Cut r) class in_port = of_any class in_port 0 t
by_winner t (Watch r) class in_port = of_rule class in_port (place_of (identity_of r) t) r

-- the cases at each port of these links
abbrev pub by_port : List Rule → Target → Class → List Near → List Case
by_port t x class [] = []
by_port t x class (near ∷ links) = by_winner t x class near.port ++ by_port t x class links

-- the cases of each of these classes
abbrev pub by_class : List Rule → Target → List Near → List Class → List Case
by_class t x links [] = []
by_class t x links (class ∷ classes) = by_port t x class links ++ by_class t x links classes

-- all classes, in order
abbrev pub all_classes : List Class
all_classes = Tcp ∷ Udp ∷ Icmp ∷ OtherIpv4 ∷ Plain ∷ Arp ∷ []

-- the cases of a job, by class, then by port, then by winner, then by position
unfoldable pub cases_of : Task → List Case
cases_of j = by_class j.table j.target j.view.links all_classes

-- the case is one of the job's
abbrev pub IsCaseOf : Task → Case → Type 0
IsCaseOf j c = Contains (cases_of j) c

-- a winner's place is in the table
abbrev pub HasWinner : List Rule → Option ℕ → Type 0
HasWinner t None = Unit {0}
HasWinner t (Some place) = place < length t

-- the rule at a winner's place; a miss has none
abbrev pub winner_at : List Rule → Option ℕ → Option Rule
winner_at t None = None
winner_at t (Some place) = slice_get t place

-- the shape at a position of a winner's emissions; a miss has none
abbrev pub shape_at : Option Rule → Class → ℕ → ℕ → Option Shape
shape_at None class in_port position = None
shape_at (Some r) class in_port position = slice_get (shapes_of r.actions class in_port) position

-- the shape of a case's emission
abbrev pub shape_of : List Rule → Case → Option Shape
shape_of t c = shape_at (winner_at t c.winner) c.class c.in_port c.emission

-- what a header gives by a shape, or as a miss, and whether that shows the whole packet
abbrev pub given : Option Shape → Header → Emitted
given None h = (Miss h, true)
given (Some shape) h = emitted_by h shape

-- the job's table, with its update there for sure. It has the places and the actions of the job's table
abbrev pub present : Task → List Rule
present j = with_update j.table j.target

-- the header is of the case's class and came in at its port; the case's winner is the only one, or no rule matches; and
-- the emission is the one of the case's position, and shows the whole packet
pub record BelongsTo (j : Task) (c : Case) (h : Header) (e : Emission) : Type 0 where
  pub class : is_in_class c.class h ≡ true
  pub in_port : h.in_port ≡ c.in_port
  pub winner : winners (present j) h ≡ option_to_list (winner_at (present j) c.winner)
  pub emission : given (shape_of (present j) c) h ≡ (e, true)
