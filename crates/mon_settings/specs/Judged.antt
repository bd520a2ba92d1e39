-- What a text says as settings, or the path of its first wrong member.
use Rattle.std.specs.Prelude.{◌≡◌, ℕ, List, codes, Option, Some, None, Result, Ok, Err}
use Rattle.std.specs.Str.{IsUtf8}
use Rattle.serde_json.specs.Data.{Data, Members}
use Rattle.serde_json.specs.Find.{as_object}
use Rattle.serde_json.specs.Read.{read}
use Rattle.mon_settings.specs.declared.fault.SettingsFault.{SettingsFault}
use Rattle.mon_settings.specs.declared.fault.SettingsFault.TheVariants.{BadSettings, OutOfMemory}
use Rattle.mon_settings.specs.declared.parts.Peers.{Peers}
use Rattle.mon_settings.specs.declared.parts.Network.{Network}
use Rattle.mon_settings.specs.declared.parts.Pace.{Pace}
use Rattle.mon_settings.specs.declared.settings.Settings.{Settings}
use Rattle.mon_settings.specs.Members.{and_then, number_member, address_member}
use Rattle.mon_settings.specs.Lists.{switches, links, tags, enough}
use Rattle.mon_settings.specs.Names.{all_known}

-- the members up to `sessions`
abbrev pub peers : Data → Result Peers (List ℕ)
peers d =
    and_then (number_member (codes "alarm_ticks") 1 1000000 d) (λ alarm_ticks.
    and_then (address_member (codes "controller") d) (λ controller.
    and_then (address_member (codes "listen") d) (λ listen.
    and_then (number_member (codes "retry_ticks") 1 1000000 d) (λ retry_ticks.
    and_then (number_member (codes "sessions") 0 4294967295 d) (λ sessions.
    Ok (record { alarm_ticks = alarm_ticks; controller = controller; listen = listen; retry_ticks = retry_ticks; sessions = sessions }))))))

-- the members `switches`, `links` and `tags`
abbrev pub network : Data → Result Network (List ℕ)
network d =
    and_then (switches d) (λ switches.
    and_then (links switches d) (λ links.
    and_then (tags d) (λ tags.
    and_then (enough (record { switches = switches; links = links }) tags) (λ _.
    Ok (record { topology = record { switches = switches; links = links }; tags = tags })))))

-- the members from `tick_ms` on
abbrev pub pace : Data → Result Pace (List ℕ)
pace d =
    and_then (number_member (codes "tick_ms") 1 60000 d) (λ tick_ms.
    and_then (number_member (codes "watch_ticks") 0 1000000 d) (λ watch_ticks.
    and_then (number_member (codes "workers") 1 64 d) (λ workers.
    Ok (record { tick_ms = tick_ms; watch_ticks = watch_ticks; workers = workers }))))

-- the settings of these parts
abbrev pub settings_with : Peers → Network → Pace → Settings
settings_with peers network pace = record {
  alarm_ticks = peers.alarm_ticks;
  controller = peers.controller;
  listen = peers.listen;
  retry_ticks = peers.retry_ticks;
  sessions = peers.sessions;
  tags = network.tags;
  tick_ms = pace.tick_ms;
  topology = network.topology;
  watch_ticks = pace.watch_ticks;
  workers = pace.workers;
}

-- the members in their order, and then those that are unknown
abbrev pub members_of : Data → Result Settings (List ℕ)
members_of d =
    and_then (peers d) (λ peers.
    and_then (network d) (λ network.
    and_then (pace d) (λ pace.
    and_then (all_known d) (λ _.
    Ok (settings_with peers network pace)))))

-- only an object has members
abbrev pub if_object : Option Members → Result Settings (List ℕ) → Result Settings (List ℕ)
if_object None said = Err (codes ".")
if_object (Some ms) said = said

-- a value of JSON as settings
abbrev pub of_value : Data → Result Settings (List ℕ)
of_value d = if_object (as_object d) (members_of d)

-- what a text holds, where it is JSON in UTF-8, as settings
abbrev pub judged : Option Data → Result Settings (List ℕ)
judged None = Err (codes ".")
judged (Some d) = of_value d

-- the text holds this value of JSON, or none: of two members of one name the later counts, and arrays and objects nest at most 127 deep
abbrev pub Holds : List ℕ → Option Data → Type 0
Holds text (Some d) = IsUtf8 text × (read text ≡ Some d)
Holds text None = IsUtf8 text → read text ≡ None

-- the answer is what the text says; want of memory alone may come at any time
abbrev pub Says : List ℕ → Result Settings SettingsFault → Type 0
Says text (Ok settings) = (held : Option Data) × (Holds text held × (judged held ≡ Ok settings))
Says text (Err (BadSettings path)) = (held : Option Data) × (Holds text held × (judged held ≡ Err path))
Says text (Err OutOfMemory) = Unit {0}
