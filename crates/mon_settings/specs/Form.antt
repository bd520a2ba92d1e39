-- The form of settings: which values of JSON are settings, and which settings they are, member by member.
use Rattle.std.specs.Prelude.{◌≡◌, ◌≤◌, ℕ, List, [], ◌∷◌, length, true, codes, Some, None, Ok}
use Rattle.std.specs.Str.{IsUtf8}
use Rattle.serde_json.specs.Data.{Data, number, unsigned, string, array, object, Items, no_items, item, Members, no_members, member}
use Rattle.serde_json.specs.Find.{get}
use Rattle.serde_json.specs.Read.{read}
use Rattle.mon_topo.specs.declared.topology.Link.{Link}
use Rattle.mon_topo.specs.declared.tagged.Tagged.{Tagged}
use Rattle.mon_header.specs.Assigned.{LAST_PORT}
use Rattle.mon_topo.specs.Ascending.{LAST_VID, AreVids, AreDatapaths}
use Rattle.mon_topo.specs.Links.{first_wrong}
use Rattle.mon_topo.specs.Colour.{coloured}
use Rattle.mon_settings.specs.declared.address.Address.{Address}
use Rattle.mon_settings.specs.declared.settings.Settings.{Settings}
use Rattle.mon_settings.specs.declared.fault.SettingsFault.{SettingsFault}
use Rattle.mon_settings.specs.declared.fault.SettingsFault.TheVariants.{BadSettings, OutOfMemory}
use Rattle.mon_settings.specs.Texts.{datapath_of, address_of}
use Rattle.mon_settings.specs.Names.{is_known}

-- a value is this whole number, which is from low to high; one with a fraction, an exponent or a sign is none
abbrev pub IsNumber : ℕ → ℕ → Data → ℕ → Type 0
IsNumber low high d n = (d ≡ number (unsigned n)) × (low ≤ n) × (n ≤ high)

-- a value is the text of this address, as in 127.0.0.1:6633
abbrev pub IsAddress : Data → Address → Type 0
IsAddress d a = (text : List ℕ) × (d ≡ string text) × (address_of text ≡ Some a)

-- a value is the text of this datapath id: 16 lower hexadecimal digits
abbrev pub IsDatapath : Data → ℕ → Type 0
IsDatapath d n = (text : List ℕ) × (d ≡ string text) × (datapath_of text ≡ Some n)

-- a value is an array of a datapath id, a port, a datapath id and a port: the two ends of this link
pub record IsLink (d : Data) (l : Link) : Type 0 where
  pub first : Data
  pub first_port : Data
  pub second : Data
  pub second_port : Data
  pub four : d ≡ array (item first (item first_port (item second (item second_port no_items))))
  pub a : IsDatapath first l.a
  pub a_port : IsNumber 1 LAST_PORT first_port l.a_port
  pub b : IsDatapath second l.b
  pub b_port : IsNumber 1 LAST_PORT second_port l.b_port

-- as many elements as things, and each is in this form the one at its place
abbrev pub Each : {X : Type 0} → (Data → X → Type 0) → Items → List X → Type 0
Each P no_items [] = Unit {0}
Each P no_items (x ∷ xs) = ⊥
Each P (item d ds) [] = ⊥
Each P (item d ds) (x ∷ xs) = P d x × Each P ds xs

-- the member of this name is there, and is in this form the thing
abbrev pub Has : {X : Type 0} → List ℕ → (Data → X → Type 0) → Data → X → Type 0
Has name P d x = (value : Data) × (get name d ≡ Some value) × P value x

-- the member of this name is an array of from low to high elements, and each is in this form the thing at its place
abbrev pub HasEach : {X : Type 0} → List ℕ → ℕ → ℕ → (Data → X → Type 0) → Data → List X → Type 0
HasEach name low high P d xs = (ds : Items) × (get name d ≡ Some (array ds)) × (low ≤ length xs) × (length xs ≤ high) × Each P ds xs

-- all names are names of settings
abbrev pub AreKnown : Members → Type 0
AreKnown no_members = Unit {0}
AreKnown (member name d ms) = (is_known name ≡ true) × AreKnown ms

-- a value is an object of members of settings alone
abbrev pub IsObject : Data → Type 0
IsObject d = (ms : Members) × (d ≡ object ms) × AreKnown ms

-- a value of JSON is these settings: an object of exactly these members, each in its form; switches and tags ascend, no link
-- leads to a switch that isn't listed or uses a port twice, and there are tags enough for the switches
pub record IsSettings (d : Data) (s : Settings) : Type 0 where
  pub members : IsObject d
  pub alarm_ticks : Has (codes "alarm_ticks") (IsNumber 1 1000000) d s.alarm_ticks
  pub controller : Has (codes "controller") IsAddress d s.controller
  pub listen : Has (codes "listen") IsAddress d s.listen
  pub retry_ticks : Has (codes "retry_ticks") (IsNumber 1 1000000) d s.retry_ticks
  pub sessions : Has (codes "sessions") (IsNumber 0 4294967295) d s.sessions
  pub switches : HasEach (codes "switches") 1 64 IsDatapath d s.topology.switches
  pub ascending : AreDatapaths s.topology.switches
  pub links : HasEach (codes "links") 0 1024 IsLink d s.topology.links
  pub sound : first_wrong s.topology.switches [] 0 s.topology.links ≡ None
  pub tags : HasEach (codes "tags") 1 64 (IsNumber 1 LAST_VID) d s.tags
  pub vids : AreVids s.tags
  pub tagged : (given : List Tagged) × (coloured s.topology s.tags ≡ Ok given)
  pub tick_ms : Has (codes "tick_ms") (IsNumber 1 60000) d s.tick_ms
  pub watch_ticks : Has (codes "watch_ticks") (IsNumber 0 1000000) d s.watch_ticks
  pub workers : Has (codes "workers") (IsNumber 1 64) d s.workers

-- a text is these settings: UTF-8 and JSON that is a value in their form; of two members of one name the later counts, and
-- arrays and objects nest at most 127 deep
abbrev pub IsSettingsText : List ℕ → Settings → Type 0
IsSettingsText text s = (d : Data) × IsUtf8 text × (read text ≡ Some d) × IsSettings d s

-- a text that is refused, other than for want of memory, is no settings
abbrev pub IsRefused : List ℕ → SettingsFault → Type 0
IsRefused text (BadSettings path) = (s : Settings) → IsSettingsText text s → ⊥
IsRefused text OutOfMemory = Unit {0}
