-- A tick leaves a session as its counting does, and puts out what is due.
use Rattle.std.specs.Prelude.{◌≡◌, ℕ, Bool, true, false, if◌then◌else◌, List, [], ◌∷◌, ◌++◌, map, None, refl}
use Rattle.std.proofs.Common.{ap, sym, ◌∙◌, subst}
use Rattle.std.proofs.lemmas.List.{append_assoc, append-nil}
use Rattle.mon_report.specs.declared.line.Line.TheVariants.{Fact}
use Rattle.mon_report.specs.declared.line.What.TheVariants.{Silent}
use Rattle.mon_legal.specs.Runs.{Run}
use Rattle.mon_legal.specs.Owns.Own.{Ticks, Goes_out}
use Rattle.mon_legal.specs.Edits.{Passed}
use Rattle.mon_legal.specs.Probes.{Live, silent}
use Rattle.mon_legal.specs.Watching.{Watching, carried, at_tick}
use Rattle.mon_legal.specs.Directly.{Due, fact}
use Rattle.mon_session.specs.declared.step.Step.{Step}
use Rattle.mon_session.specs.Now.{Now, step, walked}
use Rattle.mon_session.specs.Tracks.{Track, goes_again, again_in, AllGone}
use Rattle.mon_session.specs.Walks.{Known, walks, takes, steps_of}
use Rattle.mon_session.specs.Dues.{met}
use Rattle.mon_session.specs.Probing.{told_at_tick, tick_entries, watch_goes, probe_of_watch, is_watch_again}
use Rattle.mon_session.specs.Ticking.{again_step, silent_step, silent_in, is_silent}
use Rattle.mon_session.proofs.Walking.{walked_on, steps_on}
use Rattle.mon_session.proofs.Plain.{plain_tells}
use Rattle.mon_session.proofs.Probed.{tracks_same}

pub carried-none : (serial near : ℕ) (frame : List ℕ) (w : Watching) → w.watch ≡ None → carried serial near frame w ≡ w
carried-none serial near frame w e = rw e refl

tick-none : (run : Run) (version : ℕ) (armed : Bool) (w : Watching) → w.watch ≡ None → (at_tick run version armed w).watch ≡ None
tick-none run version false w e = e
tick-none run version true w e = rw e refl

-- a probe that went out goes out again: that changes nothing
going-one : (run : Run) (n : Now) (version serial near : ℕ) (frame : List ℕ) → AllGone (step run n (Ticks version)).tracks → n.watching.watch ≡ None
    → step run (step run n (Ticks version)) (Goes_out serial near frame) ≡ step run n (Ticks version)
going-one run n version serial near frame gone none =
    let m : Now = step run n (Ticks version) in
    ap (λ (ts : List Track). record m { tracks = ts; watching = carried serial near frame m.watching }) (tracks_same serial near frame m.tracks gone)
    ∙ ap (λ (w : Watching). record m { watching = w }) (carried-none serial near frame m.watching (tick-none run version n.armed n.watching none))

goings-still : (run : Run) (n : Now) (version : ℕ) (ls : List Live) → AllGone (step run n (Ticks version)).tracks → n.watching.watch ≡ None
    → walked run (step run n (Ticks version)) (map goes_again ls) ≡ step run n (Ticks version)
goings-still run n version [] gone none = refl
goings-still run n version (l ∷ ls) gone none =
    ap (λ (m : Now). walked run m (map goes_again ls)) (going-one run n version l.probe.serial _ _ gone none) ∙ goings-still run n version ls gone none

silents-still : (run : Run) (s : ℕ) (n : Now) (version : ℕ) (ks : List ℕ)
    → walked run (step run n (Ticks version)) (met (map (λ k. fact s k Silent) ks)) ≡ step run n (Ticks version)
silents-still run s n version [] = refl
silents-still run s n version (k ∷ ks) =
    ap (λ (m : Now). walked run m (met (map (λ k. fact s k Silent) ks))) (plain_tells run (step run n (Ticks version)) (Fact s k Silent) refl)
    ∙ silents-still run s n version ks

told-none : (run : Run) (s version : ℕ) (n : Now) → n.watching.watch ≡ None → told_at_tick run s version n ≡ map (λ k. fact s k Silent) (silent run n.unsettled)
told-none run s version n none = rw none (append-nil (map (λ k. fact s k Silent) (silent run n.unsettled)))

entries-none : (run : Run) (s version : ℕ) (n : Now) → n.watching.watch ≡ None
    → tick_entries run s version n ≡ Ticks version ∷ (map goes_again (again_in run.retry_ticks version n.tracks) ++ met (map (λ k. fact s k Silent) (silent run n.unsettled)))
entries-none run s version n none =
    ap (λ (ds : List Due). Ticks version ∷ (map goes_again (again_in run.retry_ticks version n.tracks)
    ++ (watch_goes (probe_of_watch n.watching.watch) (is_watch_again run version (probe_of_watch n.watching.watch)) ++ met ds)))
    (told-none run s version n none)
    ∙ rw none refl

pub tick_still : (run : Run) (s version : ℕ) (k l : Known) → l ≡ takes run k (Ticks version) → k.now.watching.watch ≡ None → AllGone l.now.tracks
    → l ≡ walks run k (tick_entries run s version k.now)
tick_still run s version k l e none gone =
    let here : AllGone (step run k.now (Ticks version)).tracks = subst (λ (x : Known). AllGone x.now.tracks) e gone in
    let goings = map goes_again (again_in run.retry_ticks version k.now.tracks) in
    let silents = met (map (λ q. fact s q Silent) (silent run k.now.unsettled)) in
    let still : walked run (step run k.now (Ticks version)) (goings ++ silents) ≡ step run k.now (Ticks version) =
    walked_on run (step run k.now (Ticks version)) goings silents
    ∙ ap (λ (m : Now). walked run m silents) (goings-still run k.now version (again_in run.retry_ticks version k.now.tracks) here none)
    ∙ silents-still run s k.now version (silent run k.now.unsettled) in
    e ∙ ap (λ (m : Now). record k { now = m }) (sym still) ∙ ap (walks run k) (sym (entries-none run s version k.now none))

-- what goes out ------------------------------------------------------------------

goings-steps : (s : ℕ) (ls : List Live) → steps_of s (map goes_again ls) ≡ map again_step ls
goings-steps s [] = refl
goings-steps s (l ∷ ls) = ap (λ (os : List Step). again_step l ∷ os) (goings-steps s ls)

silents-steps : (s : ℕ) (ks : List ℕ) → steps_of s (met (map (λ k. fact s k Silent) ks)) ≡ map (silent_step s) ks
silents-steps s [] = refl
silents-steps s (k ∷ ks) = ap (λ (os : List Step). silent_step s k ∷ os) (silents-steps s ks)

silent-same : (run : Run) (ps : List Passed) → silent run ps ≡ silent_in run.alarm_ticks ps
silent-same run [] = refl
silent-same run (p ∷ ps) = ap (λ (ks : List ℕ). ks ++ (if is_silent run.alarm_ticks p then p.number ∷ [] else [])) (silent-same run ps)

pub tick_steps : (run : Run) (s version : ℕ) (n : Now) → n.watching.watch ≡ None
    → steps_of s (tick_entries run s version n)
    ≡ map again_step (again_in run.retry_ticks version n.tracks) ++ map (silent_step s) (silent_in run.alarm_ticks n.unsettled)
tick_steps run s version n none =
    ap (steps_of s) (entries-none run s version n none)
    ∙ steps_on s (map goes_again (again_in run.retry_ticks version n.tracks)) (met (map (λ k. fact s k Silent) (silent run n.unsettled)))
    ∙ ap (λ (os : List Step). os ++ steps_of s (met (map (λ k. fact s k Silent) (silent run n.unsettled)))) (goings-steps s (again_in run.retry_ticks version n.tracks))
    ∙ ap (λ (os : List Step). map again_step (again_in run.retry_ticks version n.tracks) ++ os)
    (silents-steps s (silent run n.unsettled) ∙ ap (map (silent_step s)) (silent-same run n.unsettled))

-- what was sent again stands before what is told
pub tick_outs : (run : Run) (view k : Known) (before mid after : List Step) → view ≡ k → view.now.watching.watch ≡ None
    → mid ≡ before ++ map again_step (again_in run.retry_ticks view.now.version view.now.tracks)
    → after ≡ mid ++ map (silent_step view.number) (silent_in run.alarm_ticks view.now.unsettled)
    → after ≡ before ++ steps_of k.number (tick_entries run k.number k.now.version k.now)
tick_outs run view k before mid after is none a b =
    let again = map again_step (again_in run.retry_ticks view.now.version view.now.tracks) in
    let told = map (silent_step view.number) (silent_in run.alarm_ticks view.now.unsettled) in
    subst (λ (x : Known). after ≡ before ++ steps_of x.number (tick_entries run x.number x.now.version x.now)) is
    (b ∙ (ap (λ (os : List Step). os ++ told) a
    ∙ (append_assoc before again told
    ∙ ap (λ (os : List Step). before ++ os) (sym (tick_steps run view.number view.now.version view.now none)))))
