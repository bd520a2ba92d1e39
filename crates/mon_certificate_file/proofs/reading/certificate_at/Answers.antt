use Rattle.std.proofs.Common.{sym, ◌<◌, ◌^◌, rules}
use Rattle.mon_certificate_file.proofs.Certifying.{probe_found, probe_same, probe_none, overlap_found, overlap_same, overlap_none}
use Rattle.mon_certificate_file.proofs.Leaving.{probe_stops, overlap_stops, kind_stops}
use Rattle.mon_certificate_file.proofs.reading.certificate_at.Goals as goal

pub returns-in-Some-probe_at-clause-found : goal.returns-in-Some-probe_at-clause-found
returns-in-Some-probe_at-clause-found c =
    probe_found c.args.rule c.args.text.now c.in-Some.rest.now c.in-Some-probe_at.h c.in-Some-probe_at.e c.in-Some-probe_at.rest.now (sym c.in-Some.ensures.value) (sym c.in-Some-probe_at.ensures)

pub returns-in-Some-probe_at-clause-only : goal.returns-in-Some-probe_at-clause-only
returns-in-Some-probe_at-clause-only c certificate rest a =
    probe_same c.args.rule c.args.text.now c.in-Some.rest.now c.in-Some-probe_at.h c.in-Some-probe_at.e c.in-Some-probe_at.rest.now certificate rest (sym c.in-Some.ensures.value) (sym c.in-Some-probe_at.ensures) a

pub returns-in-None-clause-only : goal.returns-in-None-clause-only
returns-in-None-clause-only c certificate rest a = probe_none c.args.rule c.args.text.now c.in-Some.rest.now certificate rest (sym c.in-Some.ensures.value) (sym c.in-None.ensures) a

pub returns-in-Some-overlap_at-clause-found : goal.returns-in-Some-overlap_at-clause-found
returns-in-Some-overlap_at-clause-found c = overlap_found c.args.rule c.args.text.now c.in-Some-behind-2.rest.now c.in-Some-overlap_at.rest.now (sym c.in-Some-behind-2.ensures.value) (sym c.in-Some-overlap_at.ensures)

pub returns-in-Some-overlap_at-clause-only : goal.returns-in-Some-overlap_at-clause-only
returns-in-Some-overlap_at-clause-only c certificate rest a =
    overlap_same c.args.rule c.args.text.now c.in-Some-behind-2.rest.now c.in-Some-overlap_at.rest.now certificate rest (sym c.in-Some-behind-2.ensures.value) (sym c.in-Some-overlap_at.ensures) a

pub returns-in-None-overlap_at-clause-only : goal.returns-in-None-overlap_at-clause-only
returns-in-None-overlap_at-clause-only c certificate rest a = overlap_none c.args.rule c.args.text.now c.in-Some-behind-2.rest.now certificate rest (sym c.in-Some-behind-2.ensures.value) (sym c.in-None-overlap_at.ensures) a

pub returns-in-None-clause-stops : goal.returns-in-None-clause-stops
returns-in-None-clause-stops c =
    let w : c.args.rule < 2 ^ 64 = search rules in
    probe_stops c.args.rule c.args.text.now c.in-Some.rest.now w (sym c.in-Some.ensures.value) (sym c.in-None.ensures)

pub returns-in-None-overlap_at-clause-stops : goal.returns-in-None-overlap_at-clause-stops
returns-in-None-overlap_at-clause-stops c =
    let w : c.args.rule < 2 ^ 64 = search rules in
    overlap_stops c.args.rule c.args.text.now c.in-Some-behind-2.rest.now w (sym c.in-Some-behind-2.ensures.value) (sym c.in-None-overlap_at.ensures)

pub returns-in_default-behind-2-clause-stops : goal.returns-in_default-behind-2-clause-stops
returns-in_default-behind-2-clause-stops c =
    let w : c.args.rule < 2 ^ 64 = search rules in
    kind_stops c.args.rule c.args.text.now w (sym c.in_default.ensures.value) (sym c.in_default-behind.ensures.value) (sym c.in_default-behind-2.ensures.value)
