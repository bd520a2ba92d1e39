-- One entry more is one step more.
use Rattle.mon_session.specs.Standing.{StepsStand}
use Rattle.mon_session.proofs.Rejected.{rejecting}
use Rattle.mon_session.proofs.Steps.{armed_stands, kept_stands, waiting_stands, miss_stands, count_stands, asked_stands, askers_stand, reported_stands, out_stands, guards_stand, planned_stands, catching_stands, greeted_stands, known_stands, postponed_stands, datapath_stands, under_way_stands}
use Rattle.mon_session.proofs.Tracking.{tracks_stand, watching_stands}
use Rattle.mon_session.proofs.Names.{name_stands}
use Rattle.mon_session.proofs.Versions.{version_stands}
use Rattle.mon_session.proofs.Tables.{table_stands, unsettled_stands}

pub steps_stand : StepsStand
steps_stand run earlier own o good named =
    let a = greeted_stands run earlier own o in
    let b = known_stands run earlier own o in
    let c = datapath_stands run earlier own o in
    let d = asked_stands run earlier own o in
    let e = askers_stand run earlier own o in
    let f = armed_stands run earlier own o in
    let g = kept_stands run earlier own o in
    let h = count_stands run earlier own o in
    let i = table_stands rejecting run earlier own o good in
    let j = unsettled_stands run earlier own o in
    let k = waiting_stands run earlier own o in
    let l = postponed_stands run earlier own o in
    let m = miss_stands run earlier own o in
    let n = tracks_stand run earlier own o good in
    let q = under_way_stands run earlier own o in
    let r = watching_stands run earlier own o in
    let p = reported_stands run earlier own o in
    let s = out_stands own o in
    let t = name_stands run earlier own o named in
    let v = version_stands run earlier own o in
    let u = guards_stand run earlier own o in
    let w = planned_stands run earlier own o in
    let x = catching_stands run earlier own o in
    cc
