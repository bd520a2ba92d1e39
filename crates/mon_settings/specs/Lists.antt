-- The members of the settings that are lists: switches, links and tags.
use Rattle.std.specs.Prelude.{ℕ, suc, ◌-◌, ◌^◌, nat_le, ◌&&◌, if◌then◌else◌, List, [], ◌∷◌, ◌++◌, codes, Option, Some, None, is_none, option_and_then, Result, Ok, Err, ⊤}
use Rattle.serde_json.specs.Data.{Data, Items, no_items, item}
use Rattle.serde_json.specs.Find.{get, at, as_array, as_str}
use Rattle.mon_topo.specs.declared.topology.Link.{Link}
use Rattle.mon_topo.specs.declared.topology.Topology.{Topology}
use Rattle.mon_topo.specs.declared.fault.TopoFault.{TopoFault}
use Rattle.mon_topo.specs.declared.tagged.Tagged.{Tagged}
use Rattle.mon_header.specs.Assigned.{LAST_PORT}
use Rattle.mon_topo.specs.Ascending.{LAST_VID, may_follow}
use Rattle.mon_topo.specs.Links.{wrong}
use Rattle.mon_topo.specs.Colour.{coloured}
use Rattle.mon_settings.specs.Texts.{datapath_of}
use Rattle.mon_settings.specs.Members.{or_bad, and_then, element_path, number_in}

-- how many elements there are
abbrev pub count : Items → ℕ
count no_items = 0
count (item d ds) = suc (count ds)

-- elements, where there are from low to high of them
unfoldable pub counted : ℕ → ℕ → Items → Option Items
counted low high ds = if nat_le low (count ds) && nat_le (count ds) high then Some ds else None

-- the elements of the member of this name, where it is an array of from low to high of them
abbrev pub elements : List ℕ → ℕ → ℕ → Data → Option Items
elements name low high d = option_and_then (counted low high) (option_and_then as_array (get name d))

-- a datapath id: a text of 16 lower hexadecimal digits
abbrev pub datapath_in : Data → Option ℕ
datapath_in d = option_and_then datapath_of (as_str d)

-- a number that may follow others, of low to high
unfoldable pub following : ℕ → ℕ → List ℕ → ℕ → Option ℕ
following low high before n = if may_follow low high before n then Some n else None

-- numbers from low to high, each above those before, or the path of the first element that isn't one
abbrev pub rising : List ℕ → ℕ → ℕ → (Data → Option ℕ) → List ℕ → ℕ → Items → Result (List ℕ) (List ℕ)
rising name low high read before place no_items = Ok before
rising name low high read before place (item d ds) =
    and_then (or_bad (element_path name place) (option_and_then (following low high before) (read d)))
    (λ n. rising name low high read (before ++ n ∷ []) (suc place) ds)

-- the next switch: a datapath id above those before
abbrev pub next_switch : List ℕ → Data → Option ℕ
next_switch before d = option_and_then (following 0 (2 ^ 64 - 1) before) (datapath_in d)

-- switches behind those before
abbrev pub switches_from : List ℕ → ℕ → Items → Result (List ℕ) (List ℕ)
switches_from = rising (codes "switches") 0 (2 ^ 64 - 1) datapath_in

-- the switches: 1 to 64
abbrev pub switches : Data → Result (List ℕ) (List ℕ)
switches d = and_then (or_bad (codes "switches") (elements (codes "switches") 1 64 d)) (switches_from [] 0)

-- the port at a place of an array: one that a switch may have
abbrev pub port_at : ℕ → Data → Option ℕ
port_at place d = option_and_then (number_in 1 LAST_PORT) (at place d)

-- the datapath id at a place of an array
abbrev pub datapath_at : ℕ → Data → Option ℕ
datapath_at place d = option_and_then datapath_in (at place d)

-- a link of its four parts
abbrev pub link_with : ℕ → ℕ → ℕ → ℕ → Link
link_with a a_port b b_port = record { a = a; a_port = a_port; b = b; b_port = b_port }

-- the two ends of a link: a datapath id, a port, a datapath id and a port
unfoldable pub link_parts : Data → Option Link
link_parts d =
    option_and_then (λ a.
    option_and_then (λ a_port.
    option_and_then (λ b.
    option_and_then (λ b_port.
    Some (link_with a a_port b b_port))
    (port_at 3 d)) (datapath_at 2 d)) (port_at 1 d)) (datapath_at 0 d)

-- an array of four elements
abbrev pub four : Data → Option Items
four d = option_and_then (counted 4 4) (as_array d)

-- a link: an array of four such parts
abbrev pub link_of : Data → Option Link
link_of d = option_and_then (λ _. link_parts d) (four d)

-- a link, where nothing is wrong with it after the earlier ones
unfoldable pub sound : List ℕ → List Link → ℕ → Link → Option Link
sound switches before place l = if is_none (wrong switches before place l) then Some l else None

-- the next link
abbrev pub next_link : List ℕ → List Link → ℕ → Data → Option Link
next_link switches before place d = option_and_then (sound switches before place) (link_of d)

-- links between these switches, or the path of the first wrong one
abbrev pub links_from : List ℕ → List Link → ℕ → Items → Result (List Link) (List ℕ)
links_from switches before place no_items = Ok before
links_from switches before place (item d ds) =
    and_then (or_bad (element_path (codes "links") place) (next_link switches before place d))
    (λ l. links_from switches (before ++ l ∷ []) (suc place) ds)

-- the links: at most 1024
abbrev pub links : List ℕ → Data → Result (List Link) (List ℕ)
links switches d = and_then (or_bad (codes "links") (elements (codes "links") 0 1024 d)) (links_from switches [] 0)

-- the next tag: a VLAN id above those before
abbrev pub next_tag : List ℕ → Data → Option ℕ
next_tag before d = option_and_then (following 1 LAST_VID before) (number_in 1 LAST_VID d)

-- tags behind those before
abbrev pub tags_from : List ℕ → ℕ → Items → Result (List ℕ) (List ℕ)
tags_from = rising (codes "tags") 1 LAST_VID (number_in 1 LAST_VID)

-- the tags: 1 to 64
abbrev pub tags : Data → Result (List ℕ) (List ℕ)
tags d = and_then (or_bad (codes "tags") (elements (codes "tags") 1 64 d)) (tags_from [] 0)

-- the tags are wrong where some switch gets none
abbrev pub or_too_few : Result (List Tagged) TopoFault → Result ⊤ (List ℕ)
or_too_few (Ok given) = Ok tt
or_too_few (Err fault) = Err (codes "tags")

-- there are enough tags for the switches: their links are judged before, so that nothing else can be wrong here
abbrev pub enough : Topology → List ℕ → Result ⊤ (List ℕ)
enough t tags = or_too_few (coloured t tags)
