-- What an answer makes of a session.
use Rattle.std.specs.Prelude.{◌≡◌, ℕ, ◌+◌, Bool, true, false, not, ◌==◌, ◌&&◌, if◌then◌else◌, IsTrue, List, [], ◌∷◌, ◌++◌, map, Option, Some, None, refl}
use Rattle.std.specs.List.{list_any}
use Rattle.std.proofs.Common.{ap, sym, subst, ◌∙◌}
use Rattle.std.proofs.lemmas.Bool.{and_parts, false≢true}
use Rattle.std.proofs.lemmas.List.{append-nil}
use Rattle.mon_header.specs.declared.header.Header.{Header}
use Rattle.mon_header.specs.Classes.{in_class}
use Rattle.mon_table.specs.declared.rule.Rule.{Rule}
use Rattle.mon_outcome.specs.declared.emission.Emission.{Emission}
use Rattle.mon_shows.specs.declared.target.Target.{Target}
use Rattle.mon_shows.specs.declared.seen.Seen.{Seen}
use Rattle.mon_shows.specs.Views.{Viewing, has_link, is_unicast, is_open, craftable, caught, observed}
use Rattle.mon_shows.specs.Separation.{with_update, without_update, must_show, may_show, separates}
use Rattle.mon_job.specs.Verdicts.{Ruling}
use Rattle.mon_job.specs.declared.verdict.Says.{Says}
use Rattle.mon_job.specs.declared.verdict.Says.TheVariants as says
use Rattle.mon_report.specs.declared.line.What.TheVariants as what
use Rattle.mon_world.specs.declared.event.Kind.{Kind}
use Rattle.mon_world.specs.declared.event.Kind.TheVariants as kind
use Rattle.mon_world.specs.declared.event.Side.TheVariants.{Switch}
use Rattle.mon_legal.specs.Runs.{Run}
use Rattle.mon_legal.specs.Owns.{Own}
use Rattle.mon_legal.specs.Owns.Own.{Judged}
use Rattle.mon_legal.specs.Messages.{own_barrier, probe_frame}
use Rattle.mon_legal.specs.Edits.{is_number}
use Rattle.mon_legal.specs.Directly.{Due, fact}
use Rattle.mon_legal.specs.Directly.Due.{Frame}
use Rattle.mon_legal.specs.Watching.{Watching, is_of_job, judged_if, probed_if, carried}
use Rattle.mon_legal.specs.Probes.{Probe}
use Rattle.mon_session.specs.Now.{Now, step, probe_of}
use Rattle.mon_session.specs.Tracks.{Track, gone_out, probed, sent_one}
use Rattle.mon_session.specs.declared.around.Neighbour.{Neighbour}
use Rattle.mon_session.specs.declared.step.Step.{Step}
use Rattle.mon_session.specs.Walks.{Known, walks, takes, steps_of}
use Rattle.mon_session.specs.Entries.{with_now, forgotten}
use Rattle.mon_session.specs.Dues.{met}
use Rattle.mon_session.specs.Probing.{stands, unshown_dues, judged_dues, answer_dues}
use Rattle.mon_session.specs.Answering.{Shot, entries_of_shot, kind_said, near_at, shot_by, shot_in, shot_said, shot_of, is_fresh, is_current, entries_if_shot, steps_if_shot, answer_entries, answer_steps}
use Rattle.mon_session.proofs.Ticked.{carried-none}

pub judged_none : (b : Bool) (job : ℕ) (fresh : Bool) (w : Watching) → w.watch ≡ None → judged_if b job fresh w ≡ w
judged_none true job fresh w e = rw e refl
judged_none false job fresh w e = refl

probed-none : (b : Bool) (p : Probe) (w : Watching) → w.watch ≡ None → probed_if b p w ≡ w
probed-none true p w e = rw e refl
probed-none false p w e = refl

sent-all : (near : ℕ) (frame : List ℕ) (p : Probe) (ts : List Track) → map (gone_out p.serial near frame) (map (probed p) ts) ≡ map (sent_one near frame p) ts
sent-all near frame p [] = refl
sent-all near frame p (t ∷ ts) = ap (λ (us : List Track). sent_one near frame p t ∷ us) (sent-all near frame p ts)

-- a probe that goes out is one of its edit's, and nothing else changes
pub shot_walk : (run : Run) (k : Known) (p : Shot) → k.now.watching.watch ≡ None
    → walks run k (entries_of_shot p) ≡ with_now k (record (forgotten k.now) { tracks = map (sent_one p.near p.frame (probe_of p.serial p.edit p.version p.emission p.shows)) k.now.tracks })
shot_walk run k p none =
    let q = probe_of p.serial p.edit p.version p.emission p.shows in
    let w : carried p.serial p.near p.frame (probed_if (p.edit == 0) q k.now.watching) ≡ k.now.watching =
    ap (carried p.serial p.near p.frame) (probed-none (p.edit == 0) q k.now.watching none) ∙ carried-none p.serial p.near p.frame k.now.watching none in
    ap (λ (x : Watching). with_now k (record (forgotten k.now) { tracks = map (gone_out p.serial p.near p.frame) (map (probed q) k.now.tracks); watching = x })) w
    ∙ ap (λ (ts : List Track). with_now k (record (forgotten k.now) { tracks = ts })) (sent-all p.near p.frame q k.now.tracks)

-- the header of a probe that separates is in a class
pub separates_class : (v : Viewing) (t : List Rule) (x : Target) (h : Header) (e : Emission) → separates v t x h e ≡ true → IsTrue (in_class h)
unfolding separates craftable
separates_class v t x h e y =
    (and_parts (in_class h) (has_link h.in_port v.links && ((h.dl_vlan == v.tag) && (is_unicast h.dl_src && is_open h.dl_dst)))
    (and_parts (craftable v h) (must_show (with_update t x) h e && (caught v e && not (may_show (without_update t x) h e))) y).0).0

-- a probe goes out, where the view and the neighbour are there
pub shot_entries : (run : Run) (k f v : Known) (tracks : List Track) (key : ℕ) (o : Option Viewing) (view : Viewing) (near : List Neighbour) (n : Neighbour)
    (last serial job edit version : ℕ) (h : Header) (e : Emission) (shows : Option Seen) (frame : List ℕ)
    → k.now.watching.watch ≡ None → f ≡ with_now k (forgotten k.now) → v ≡ f → o ≡ Some view → near_at h.in_port near ≡ Some n → serial ≡ last + 1
    → version ≡ k.now.version → shows ≡ observed view e → frame ≡ probe_frame key serial n.far_port h
    → tracks ≡ map (sent_one n.session frame (probe_of serial edit version e shows)) v.now.tracks
    → with_now v (record v.now { tracks = tracks }) ≡ walks run k (entries_if_shot (shot_in key o near (last + 1) job edit k.now.version h e))
shot_entries run k f v tracks key o view near n last serial job edit version h e shows frame none a b seen at next same sees goes made =
    let sent : List ℕ = probe_frame key (last + 1) n.far_port h in
    let p : Probe = probe_of serial edit version e shows in
    let q : Probe = probe_of (last + 1) edit k.now.version e (observed view e) in
    let shot : Shot = record {
      job = job;
      serial = last + 1;
      edit = edit;
      version = k.now.version;
      emission = e;
      shows = observed view e;
      near = n.session;
      frame = sent;
    } in
    let is : shot_in key o near (last + 1) job edit k.now.version h e ≡ Some shot =
    ap (λ (x : Option Viewing). shot_in key x near (last + 1) job edit k.now.version h e) seen
    ∙ ap (shot_by key view (last + 1) job edit k.now.version h e) at in
    let same_probe : p ≡ q =
    ap (λ (x : ℕ). probe_of x edit version e shows) next
    ∙ (ap (λ (x : ℕ). probe_of (last + 1) edit x e shows) same ∙ ap (λ (x : Option Seen). probe_of (last + 1) edit k.now.version e x) sees) in
    let same_frame : frame ≡ sent = goes ∙ ap (λ (x : ℕ). probe_frame key x n.far_port h) next in
    let still : v ≡ with_now k (forgotten k.now) = b ∙ a in
    let all : tracks ≡ map (sent_one n.session sent q) k.now.tracks =
    made ∙ (ap (λ (x : Known). map (sent_one n.session frame p) x.now.tracks) still
    ∙ (ap (λ (x : List ℕ). map (sent_one n.session x p) k.now.tracks) same_frame ∙ ap (λ (x : Probe). map (sent_one n.session sent x) k.now.tracks) same_probe)) in
    ap (λ (x : Known). with_now x (record x.now { tracks = tracks })) still
    ∙ (ap (λ (ts : List Track). with_now k (record (forgotten k.now) { tracks = ts })) all
    ∙ (sym (shot_walk run k shot none) ∙ ap (λ (x : Option Shot). walks run k (entries_if_shot x)) (sym is)))

-- no probe shows an edit
unshown-met : (s : ℕ) (n : Now) (k : ℕ) → (k == 0) ≡ false → met (unshown_dues s n k) ≡ met (fact s k what.Indistinguishable ∷ Frame Switch own_barrier ∷ [])
unshown-met s n k z = rw z refl

pub unshown_walk : (run : Run) (k l : Known) (r : Ruling) (key serial edit : ℕ) (v : Option Viewing) (near : List Neighbour)
    → r.says ≡ says.Indistinguishable → edit ≡ r.job.edit → (r.job.edit == 0) ≡ false
    → l ≡ walks run k (met (fact k.number edit what.Indistinguishable ∷ Frame Switch own_barrier ∷ []))
    → l ≡ walks run k (met (judged_dues k.number k.now r.job.number r.job.edit (kind_said r.says)) ++ entries_if_shot (shot_said key v near serial r.job k.now.version r.says))
unshown_walk run k l r key serial edit v near is same z w =
    subst (λ (s : Says). l ≡ walks run k (met (judged_dues k.number k.now r.job.number r.job.edit (kind_said s)) ++ entries_if_shot (shot_said key v near serial r.job k.now.version s))) (sym is)
    (w ∙ (ap (λ (x : ℕ). walks run k (met (fact k.number x what.Indistinguishable ∷ Frame Switch own_barrier ∷ []))) same
    ∙ ap (walks run k) (sym (unshown-met k.number k.now r.job.edit z) ∙ sym (append-nil (met (unshown_dues k.number k.now r.job.edit))))))

-- a current answer, and a stale one
pub current_edit : (n : Now) (job k : ℕ) → n.watching.watch ≡ None → stands n job k ≡ true → (k == 0) ≡ false
current_edit n job k none y =
    elim (k == 0) as (λ b. (if b then is_of_job job n.watching.watch else list_any (is_number k) n.unsettled) ≡ true → b ≡ false) [
      | true ↦ λ e. absurd (false≢true (sym (ap (is_of_job job) none) ∙ e))
      | false ↦ λ e. refl
    ] y

dues-behind : (s : ℕ) (n m : Now) (job k : ℕ) (kind : Kind) → (k == 0) ≡ false → judged_dues s m job k kind ≡ judged_dues s n job k kind
dues-behind s n m job k kind.Probe z = refl
dues-behind s n m job k kind.Indistinguishable z = rw z refl
dues-behind s n m job k kind.Skipped z = refl

current-entries : (k : Known) (m : Now) (r : Ruling) (key serial : ℕ) (v : Option Viewing) (near : List Neighbour) → is_current k.now r ≡ true → (r.job.edit == 0) ≡ false
    → met (judged_dues k.number m r.job.number r.job.edit (kind_said r.says)) ++ entries_if_shot (shot_said key v near serial r.job k.now.version r.says)
    ≡ met (answer_dues k.number k.now r.job.number r.job.edit (kind_said r.says) (is_fresh k.now r)) ++ entries_if_shot (shot_of key v near serial k.now r)
current-entries k m r key serial v near c z =
    ap (λ (ds : List Due). met ds ++ entries_if_shot (shot_said key v near serial r.job k.now.version r.says)) (dues-behind k.number k.now m r.job.number r.job.edit (kind_said r.says) z)
    ∙ (ap (λ (b : Bool). met (if b then judged_dues k.number k.now r.job.number r.job.edit (kind_said r.says) else []) ++ entries_if_shot (shot_said key v near serial r.job k.now.version r.says)) (sym c)
    ∙ ap (λ (b : Bool). met (answer_dues k.number k.now r.job.number r.job.edit (kind_said r.says) (is_fresh k.now r))
    ++ entries_if_shot (if b then shot_said key v near serial r.job k.now.version r.says else None)) (sym c))

pub current_walk : (run : Run) (k j l : Known) (r : Ruling) (key serial : ℕ) (v : Option Viewing) (near : List Neighbour) → is_current k.now r ≡ true → (r.job.edit == 0) ≡ false
    → j ≡ takes run k (Judged r.job.number r.job.edit (kind_said r.says) (is_fresh k.now r))
    → l ≡ walks run j (met (judged_dues j.number j.now r.job.number r.job.edit (kind_said r.says)) ++ entries_if_shot (shot_said key v near serial r.job j.now.version r.says))
    → l ≡ walks run k (answer_entries k.number k.now r (shot_of key v near serial k.now r))
current_walk run k j l r key serial v near c z e w =
    let o : Own = Judged r.job.number r.job.edit (kind_said r.says) (is_fresh k.now r) in
    w ∙ (ap (λ (x : Known). walks run x (met (judged_dues x.number x.now r.job.number r.job.edit (kind_said r.says)) ++ entries_if_shot (shot_said key v near serial r.job x.now.version r.says))) e
    ∙ ap (λ (os : List Own). walks run k (o ∷ os)) (current-entries k (step run k.now o) r key serial v near c z))

steps-of-shot : (s : ℕ) (n m : Now) (r : Ruling) (key serial : ℕ) (v : Option Viewing) (near : List Neighbour) → is_current n r ≡ true → (r.job.edit == 0) ≡ false
    → steps_of s (met (judged_dues s m r.job.number r.job.edit (kind_said r.says))) ++ steps_if_shot (shot_said key v near serial r.job n.version r.says)
    ≡ answer_steps s n r (shot_of key v near serial n r)
steps-of-shot s n m r key serial v near c z =
    ap (λ (ds : List Due). steps_of s (met ds) ++ steps_if_shot (shot_said key v near serial r.job n.version r.says)) (dues-behind s n m r.job.number r.job.edit (kind_said r.says) z)
    ∙ (ap (λ (b : Bool). steps_of s (met (if b then judged_dues s n r.job.number r.job.edit (kind_said r.says) else [])) ++ steps_if_shot (shot_said key v near serial r.job n.version r.says)) (sym c)
    ∙ ap (λ (b : Bool). steps_of s (met (answer_dues s n r.job.number r.job.edit (kind_said r.says) (is_fresh n r)))
    ++ steps_if_shot (if b then shot_said key v near serial r.job n.version r.says else None)) (sym c))

pub current_steps : (run : Run) (k j : Known) (r : Ruling) (key serial : ℕ) (v : Option Viewing) (near : List Neighbour) (before after : List Step)
    → is_current k.now r ≡ true → (r.job.edit == 0) ≡ false
    → j ≡ takes run k (Judged r.job.number r.job.edit (kind_said r.says) (is_fresh k.now r))
    → after ≡ before ++ (steps_of j.number (met (judged_dues j.number j.now r.job.number r.job.edit (kind_said r.says))) ++ steps_if_shot (shot_said key v near serial r.job j.now.version r.says))
    → after ≡ before ++ answer_steps k.number k.now r (shot_of key v near serial k.now r)
current_steps run k j r key serial v near before after c z e w =
    let o : Own = Judged r.job.number r.job.edit (kind_said r.says) (is_fresh k.now r) in
    w ∙ (ap (λ (x : Known). before ++ (steps_of x.number (met (judged_dues x.number x.now r.job.number r.job.edit (kind_said r.says))) ++ steps_if_shot (shot_said key v near serial r.job x.now.version r.says))) e
    ∙ ap (λ (os : List Step). before ++ os) (steps-of-shot k.number k.now (step run k.now o) r key serial v near c z))

stale-entries : (s : ℕ) (n : Now) (r : Ruling) (key serial : ℕ) (v : Option Viewing) (near : List Neighbour) → is_current n r ≡ false
    → met (answer_dues s n r.job.number r.job.edit (kind_said r.says) (is_fresh n r)) ++ entries_if_shot (shot_of key v near serial n r) ≡ []
stale-entries s n r key serial v near c =
    ap (λ (b : Bool). met (if b then judged_dues s n r.job.number r.job.edit (kind_said r.says) else []) ++ entries_if_shot (shot_of key v near serial n r)) c
    ∙ ap (λ (b : Bool). entries_if_shot (if b then shot_said key v near serial r.job n.version r.says else None)) c

pub stale_walk : (run : Run) (k l : Known) (r : Ruling) (key serial : ℕ) (v : Option Viewing) (near : List Neighbour) → is_current k.now r ≡ false
    → l ≡ takes run k (Judged r.job.number r.job.edit (kind_said r.says) (is_fresh k.now r))
    → l ≡ walks run k (answer_entries k.number k.now r (shot_of key v near serial k.now r))
stale_walk run k l r key serial v near c w =
    w ∙ ap (λ (os : List Own). walks run k (Judged r.job.number r.job.edit (kind_said r.says) (is_fresh k.now r) ∷ os)) (sym (stale-entries k.number k.now r key serial v near c))
