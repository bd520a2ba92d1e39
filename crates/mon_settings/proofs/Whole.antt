-- A value of JSON is read as settings exactly where it is in their form.
use Rattle.std.proofs.Common.{◌≡◌, ℕ, ◌≤◌, Bool, true, false, refl, sym, ap, ◌∙◌, subst, List, [], codes}
use Rattle.std.specs.Prelude.{Option, Some, None, option_and_then, Result, Ok, Err, IfOk, IfErr, ⊤, if◌then◌else◌}
use Rattle.serde_json.specs.Data.{Data, null, boolean, number, string, array, object, Members, no_members, member}
use Rattle.serde_json.specs.Find.{as_object}
use Rattle.serde_json.specs.Read.{read}
use Rattle.mon_topo.specs.declared.topology.Link.{Link}
use Rattle.mon_topo.specs.declared.topology.Topology.{Topology}
use Rattle.mon_topo.specs.declared.fault.TopoFault.{TopoFault}
use Rattle.mon_topo.specs.declared.tagged.Tagged.{Tagged}
use Rattle.mon_topo.specs.Ascending.{AreVids, AreDatapaths}
use Rattle.mon_topo.specs.Links.{first_wrong}
use Rattle.mon_topo.specs.Colour.{coloured}
use Rattle.mon_settings.specs.declared.fault.SettingsFault.{SettingsFault}
use Rattle.mon_settings.specs.declared.fault.SettingsFault.TheVariants.{BadSettings, OutOfMemory}
use Rattle.mon_settings.specs.declared.parts.Peers.{Peers}
use Rattle.mon_settings.specs.declared.parts.Network.{Network}
use Rattle.mon_settings.specs.declared.parts.Pace.{Pace}
use Rattle.mon_settings.specs.declared.settings.Settings.{Settings}
use Rattle.mon_settings.specs.Members.{or_bad, number_in, number_member, address_member}
use Rattle.mon_settings.specs.Lists.{datapath_in, switches, links, tags, or_too_few, enough}
use Rattle.mon_settings.specs.Names.{is_known, unknown, or_unknown, all_known}
use Rattle.mon_settings.specs.Judged.{peers, network, pace, settings_with, members_of, if_object, of_value, judged, Holds, Says}
use Rattle.mon_settings.specs.Form.{IsNumber, IsAddress, IsDatapath, IsLink, Has, HasEach, AreKnown, IsSettings, IsSettingsText, IsRefused}
use Rattle.mon_settings.proofs.Stepping.{stepped, step, given}
use Rattle.mon_settings.proofs.Forming.{number-form, form-number, datapath-form, form-datapath, number_member-form, form-number_member, address_member-form, form-address_member, each-count, each-map, elements-form, form-elements, rising-form, form-rising, links-form, form-links}

-- the value, or another where there is none
abbrev value_or : {A : Type 0} → A → Result A (List ℕ) → A
value_or x (Ok y) = y
value_or x (Err path) = x

-- names

if_none : (test : Bool) (o : Option (List ℕ)) (name : List ℕ) → (if test then o else Some name) ≡ None → (test ≡ true) × (o ≡ None)
if_none true o name is = (refl, is)
if_none false o name is = cc

known-form : (ms : Members) → unknown ms ≡ None → AreKnown ms
known-form no_members is = tt
known-form (member name d ms) is =
    let both = if_none (is_known name) (unknown ms) name is in
    (both.0, known-form ms both.1)

form-known : (ms : Members) → AreKnown ms → unknown ms ≡ None
form-known no_members are = refl
form-known (member name d ms) are = ap (λ (t : Bool). if t then unknown ms else Some name) are.0 ∙ form-known ms are.1

none_unknown : (o : Option (List ℕ)) (u : ⊤) → or_unknown o ≡ Ok u → o ≡ None
none_unknown None u is = refl
none_unknown (Some name) u is = cc

object-form : (d : Data) (s : Settings) → of_value d ≡ Ok s → (ms : Members) × (d ≡ object ms) × (members_of d ≡ Ok s)
object-form null s is = cc
object-form (boolean b) s is = cc
object-form (number n) s is = cc
object-form (string t) s is = cc
object-form (array ds) s is = cc
object-form (object ms) s is = (ms, refl, is)

-- numbers and addresses

pub record PeersHave (d : Data) (p : Peers) : Type 0 where
  pub alarm_ticks : Has (codes "alarm_ticks") (IsNumber 1 1000000) d p.alarm_ticks
  pub controller : Has (codes "controller") IsAddress d p.controller
  pub listen : Has (codes "listen") IsAddress d p.listen
  pub retry_ticks : Has (codes "retry_ticks") (IsNumber 1 1000000) d p.retry_ticks
  pub sessions : Has (codes "sessions") (IsNumber 0 4294967295) d p.sessions

peers-form : (d : Data) (p : Peers) → peers d ≡ Ok p → PeersHave d p
peers-form d p is =
    let a = stepped (number_member (codes "alarm_ticks") 1 1000000 d) _ p is in
    let c = stepped (address_member (codes "controller") d) _ p a.second in
    let l = stepped (address_member (codes "listen") d) _ p c.second in
    let r = stepped (number_member (codes "retry_ticks") 1 1000000 d) _ p l.second in
    let s = stepped (number_member (codes "sessions") 0 4294967295 d) _ p r.second in
    let made : Peers = record { alarm_ticks = a.value; controller = c.value; listen = l.value; retry_ticks = r.value; sessions = s.value } in
    let same : made ≡ p = ap (value_or made) s.second in
    subst (λ (q : Peers). PeersHave d q) same (record {
      alarm_ticks = number_member-form (codes "alarm_ticks") 1 1000000 d a.value a.first;
      controller = address_member-form (codes "controller") d c.value c.first;
      listen = address_member-form (codes "listen") d l.value l.first;
      retry_ticks = number_member-form (codes "retry_ticks") 1 1000000 d r.value r.first;
      sessions = number_member-form (codes "sessions") 0 4294967295 d s.value s.first;
    })

form-peers : (d : Data) (p : Peers) → PeersHave d p → peers d ≡ Ok p
form-peers d p has =
    step (number_member (codes "alarm_ticks") 1 1000000 d) _ p.alarm_ticks p (form-number_member (codes "alarm_ticks") 1 1000000 d p.alarm_ticks has.alarm_ticks)
    (step (address_member (codes "controller") d) _ p.controller p (form-address_member (codes "controller") d p.controller has.controller)
    (step (address_member (codes "listen") d) _ p.listen p (form-address_member (codes "listen") d p.listen has.listen)
    (step (number_member (codes "retry_ticks") 1 1000000 d) _ p.retry_ticks p (form-number_member (codes "retry_ticks") 1 1000000 d p.retry_ticks has.retry_ticks)
    (step (number_member (codes "sessions") 0 4294967295 d) _ p.sessions p (form-number_member (codes "sessions") 0 4294967295 d p.sessions has.sessions) refl))))

pub record PaceHas (d : Data) (p : Pace) : Type 0 where
  pub tick_ms : Has (codes "tick_ms") (IsNumber 1 60000) d p.tick_ms
  pub watch_ticks : Has (codes "watch_ticks") (IsNumber 0 1000000) d p.watch_ticks
  pub workers : Has (codes "workers") (IsNumber 1 64) d p.workers

pace-form : (d : Data) (p : Pace) → pace d ≡ Ok p → PaceHas d p
pace-form d p is =
    let t = stepped (number_member (codes "tick_ms") 1 60000 d) _ p is in
    let w = stepped (number_member (codes "watch_ticks") 0 1000000 d) _ p t.second in
    let k = stepped (number_member (codes "workers") 1 64 d) _ p w.second in
    let made : Pace = record { tick_ms = t.value; watch_ticks = w.value; workers = k.value } in
    let same : made ≡ p = ap (value_or made) k.second in
    subst (λ (q : Pace). PaceHas d q) same (record {
      tick_ms = number_member-form (codes "tick_ms") 1 60000 d t.value t.first;
      watch_ticks = number_member-form (codes "watch_ticks") 0 1000000 d w.value w.first;
      workers = number_member-form (codes "workers") 1 64 d k.value k.first;
    })

form-pace : (d : Data) (p : Pace) → PaceHas d p → pace d ≡ Ok p
form-pace d p has =
    step (number_member (codes "tick_ms") 1 60000 d) _ p.tick_ms p (form-number_member (codes "tick_ms") 1 60000 d p.tick_ms has.tick_ms)
    (step (number_member (codes "watch_ticks") 0 1000000 d) _ p.watch_ticks p (form-number_member (codes "watch_ticks") 0 1000000 d p.watch_ticks has.watch_ticks)
    (step (number_member (codes "workers") 1 64 d) _ p.workers p (form-number_member (codes "workers") 1 64 d p.workers has.workers) refl))

-- switches, links and tags

abbrev pub AreSwitches : Data → List ℕ → Type 0
AreSwitches d ss = HasEach (codes "switches") 1 64 IsDatapath d ss × AreDatapaths ss

switches-form : (d : Data) (ss : List ℕ) → switches d ≡ Ok ss → AreSwitches d ss
switches-form d ss is =
    let s = stepped _ _ ss is in
    let e = elements-form (codes "switches") 1 64 d s.value (given (codes "switches") _ s.value s.first) in
    let r = rising-form (codes "switches") 0 18446744073709551615 datapath_in [] 0 s.value ss s.second in
    let size = each-count _ s.value r.0 r.2 in
    let has : HasEach (codes "switches") 1 64 IsDatapath d r.0 =
    (s.value, e.0, subst (λ (k : ℕ). 1 ≤ k) size e.1, subst (λ (k : ℕ). k ≤ 64) size e.2, each-map _ IsDatapath s.value r.0 datapath-form r.2) in
    subst (λ (ns : List ℕ). AreSwitches d ns) (sym r.1) (has, r.3)

form-switches : (d : Data) (ss : List ℕ) → AreSwitches d ss → switches d ≡ Ok ss
form-switches d ss are =
    let h = are.0 in
    let size = sym (each-count IsDatapath h.0 ss h.4) in
    step _ _ h.0 ss
    (ap (or_bad (codes "switches")) (form-elements (codes "switches") 1 64 d h.0 h.1 (subst (λ (k : ℕ). 1 ≤ k) size h.2) (subst (λ (k : ℕ). k ≤ 64) size h.3)))
    (form-rising (codes "switches") 0 18446744073709551615 datapath_in [] 0 h.0 ss (each-map IsDatapath _ h.0 ss form-datapath h.4) are.1)

abbrev pub AreTags : Data → List ℕ → Type 0
AreTags d ts = HasEach (codes "tags") 1 64 (IsNumber 1 4094) d ts × AreVids ts

tags-form : (d : Data) (ts : List ℕ) → tags d ≡ Ok ts → AreTags d ts
tags-form d ts is =
    let s = stepped _ _ ts is in
    let e = elements-form (codes "tags") 1 64 d s.value (given (codes "tags") _ s.value s.first) in
    let r = rising-form (codes "tags") 1 4094 (number_in 1 4094) [] 0 s.value ts s.second in
    let size = each-count _ s.value r.0 r.2 in
    let has : HasEach (codes "tags") 1 64 (IsNumber 1 4094) d r.0 =
    (s.value, e.0, subst (λ (k : ℕ). 1 ≤ k) size e.1, subst (λ (k : ℕ). k ≤ 64) size e.2, each-map _ (IsNumber 1 4094) s.value r.0 (number-form 1 4094) r.2) in
    subst (λ (ns : List ℕ). AreTags d ns) (sym r.1) (has, r.3)

form-tags : (d : Data) (ts : List ℕ) → AreTags d ts → tags d ≡ Ok ts
form-tags d ts are =
    let h = are.0 in
    let size = sym (each-count (IsNumber 1 4094) h.0 ts h.4) in
    step _ _ h.0 ts
    (ap (or_bad (codes "tags")) (form-elements (codes "tags") 1 64 d h.0 h.1 (subst (λ (k : ℕ). 1 ≤ k) size h.2) (subst (λ (k : ℕ). k ≤ 64) size h.3)))
    (form-rising (codes "tags") 1 4094 (number_in 1 4094) [] 0 h.0 ts (each-map (IsNumber 1 4094) _ h.0 ts (form-number 1 4094) h.4) are.1)

abbrev pub HasLinks : List ℕ → Data → List Link → Type 0
HasLinks ss d ls = HasEach (codes "links") 0 1024 IsLink d ls × (first_wrong ss [] 0 ls ≡ None)

links_member-form : (ss : List ℕ) (d : Data) (ls : List Link) → links ss d ≡ Ok ls → HasLinks ss d ls
links_member-form ss d ls is =
    let s = stepped _ _ ls is in
    let e = elements-form (codes "links") 0 1024 d s.value (given (codes "links") _ s.value s.first) in
    let r = links-form ss [] 0 s.value ls s.second in
    let size = each-count IsLink s.value r.0 r.2 in
    let has : HasEach (codes "links") 0 1024 IsLink d r.0 =
    (s.value, e.0, subst (λ (k : ℕ). 0 ≤ k) size e.1, subst (λ (k : ℕ). k ≤ 1024) size e.2, r.2) in
    subst (λ (ms : List Link). HasLinks ss d ms) (sym r.1) (has, r.3)

form-links_member : (ss : List ℕ) (d : Data) (ls : List Link) → HasLinks ss d ls → links ss d ≡ Ok ls
form-links_member ss d ls has =
    let h = has.0 in
    let size = sym (each-count IsLink h.0 ls h.4) in
    step _ _ h.0 ls
    (ap (or_bad (codes "links")) (form-elements (codes "links") 0 1024 d h.0 h.1 (subst (λ (k : ℕ). 0 ≤ k) size h.2) (subst (λ (k : ℕ). k ≤ 1024) size h.3)))
    (form-links ss [] 0 h.0 ls h.4 has.1)

tagged-form : (said : Result (List Tagged) TopoFault) (u : ⊤) → or_too_few said ≡ Ok u → (given : List Tagged) × (said ≡ Ok given)
tagged-form (Ok given) u is = (given, refl)
tagged-form (Err fault) u is = cc

pub record NetworkHas (d : Data) (n : Network) : Type 0 where
  pub switches : AreSwitches d n.topology.switches
  pub links : HasLinks n.topology.switches d n.topology.links
  pub tags : AreTags d n.tags
  pub tagged : (given : List Tagged) × (coloured n.topology n.tags ≡ Ok given)

network-form : (d : Data) (n : Network) → network d ≡ Ok n → NetworkHas d n
network-form d n is =
    let s = stepped (switches d) _ n is in
    let l = stepped (links s.value d) _ n s.second in
    let t = stepped (tags d) _ n l.second in
    let topology : Topology = record { switches = s.value; links = l.value } in
    let e = stepped (enough topology t.value) _ n t.second in
    let made : Network = record { topology = topology; tags = t.value } in
    let same : made ≡ n = ap (value_or made) e.second in
    subst (λ (m : Network). NetworkHas d m) same (record {
      switches = switches-form d s.value s.first;
      links = links_member-form s.value d l.value l.first;
      tags = tags-form d t.value t.first;
      tagged = tagged-form (coloured topology t.value) e.value e.first;
    })

form-network : (d : Data) (n : Network) → NetworkHas d n → network d ≡ Ok n
form-network d n has =
    step (switches d) _ n.topology.switches n (form-switches d n.topology.switches has.switches)
    (step (links n.topology.switches d) _ n.topology.links n (form-links_member n.topology.switches d n.topology.links has.links)
    (step (tags d) _ n.tags n (form-tags d n.tags has.tags)
    (step (enough n.topology n.tags) _ tt n (ap or_too_few has.tagged.1) refl)))

-- all members

pub settings-form : (d : Data) (s : Settings) → of_value d ≡ Ok s → IsSettings d s
settings-form d s is =
    let o = object-form d s is in
    let p = stepped (peers d) _ s o.2 in
    let n = stepped (network d) _ s p.second in
    let c = stepped (pace d) _ s n.second in
    let k = stepped (all_known d) _ s c.second in
    let first = peers-form d p.value p.first in
    let middle = network-form d n.value n.first in
    let last = pace-form d c.value c.first in
    let made : Settings = settings_with p.value n.value c.value in
    let same : made ≡ s = ap (value_or made) k.second in
    let names : option_and_then unknown (as_object d) ≡ None = none_unknown _ k.value k.first in
    let known : unknown o.0 ≡ None = ap (λ e. option_and_then unknown (as_object e)) (sym o.1) ∙ names in
    subst (λ (t : Settings). IsSettings d t) same (record {
      members = (o.0, o.1, known-form o.0 known);
      alarm_ticks = first.alarm_ticks;
      controller = first.controller;
      listen = first.listen;
      retry_ticks = first.retry_ticks;
      sessions = first.sessions;
      switches = middle.switches.0;
      ascending = middle.switches.1;
      links = middle.links.0;
      sound = middle.links.1;
      tags = middle.tags.0;
      vids = middle.tags.1;
      tagged = middle.tagged;
      tick_ms = last.tick_ms;
      watch_ticks = last.watch_ticks;
      workers = last.workers;
    })

pub form-settings : (d : Data) (s : Settings) → IsSettings d s → of_value d ≡ Ok s
form-settings d s is =
    let p : Peers = record { alarm_ticks = s.alarm_ticks; controller = s.controller; listen = s.listen; retry_ticks = s.retry_ticks; sessions = s.sessions } in
    let n : Network = record { topology = s.topology; tags = s.tags } in
    let c : Pace = record { tick_ms = s.tick_ms; watch_ticks = s.watch_ticks; workers = s.workers } in
    let object_is : as_object d ≡ Some is.members.0 = ap as_object is.members.1 in
    ap (λ o. if_object o (members_of d)) object_is
    ∙ step (peers d) _ p s (form-peers d p (record { alarm_ticks = is.alarm_ticks; controller = is.controller; listen = is.listen; retry_ticks = is.retry_ticks; sessions = is.sessions }))
    (step (network d) _ n s (form-network d n (record { switches = (is.switches, is.ascending); links = (is.links, is.sound); tags = (is.tags, is.vids); tagged = is.tagged }))
    (step (pace d) _ c s (form-pace d c (record { tick_ms = is.tick_ms; watch_ticks = is.watch_ticks; workers = is.workers }))
    (step (all_known d) _ tt s (ap or_unknown (ap (option_and_then unknown) object_is ∙ form-known is.members.0 is.members.2)) refl)))

-- what is said of a text

held-form : (text : List ℕ) (held : Option Data) (s : Settings) → Holds text held → judged held ≡ Ok s → IsSettingsText text s
held-form text None s holds is = cc
held-form text (Some d) s holds is = (d, holds.0, holds.1, settings-form d s is)

held-bad : (text : List ℕ) (held : Option Data) (path : List ℕ) (s : Settings) → Holds text held → judged held ≡ Err path → IsSettingsText text s → ⊥
held-bad text None path s holds is t = let none : read text ≡ None = holds t.1 in let some : read text ≡ Some t.0 = t.2 in cc
held-bad text (Some d) path s holds is t =
    let same : Some d ≡ Some t.0 = sym holds.1 ∙ t.2 in
    let good : judged (Some d) ≡ Ok s = ap judged same ∙ form-settings t.0 s t.3 in
    cc

pub says-form : (text : List ℕ) (r : Result Settings SettingsFault) → Says text r → IfOk r (IsSettingsText text)
says-form text (Ok s) says = held-form text says.0 s says.1.0 says.1.1
says-form text (Err e) says = tt

pub says-refused : (text : List ℕ) (r : Result Settings SettingsFault) → Says text r → IfErr r (IsRefused text)
says-refused text (Ok s) says = tt
says-refused text (Err (BadSettings path)) says = λ (s : Settings) (t : IsSettingsText text s). held-bad text says.0 path s says.1.0 says.1.1 t
says-refused text (Err OutOfMemory) says = tt
