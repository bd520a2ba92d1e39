-- Tracks whose live probes all went out stay such, and a probe changes no other edit's.
use Rattle.std.specs.Prelude.{◌≡◌, ℕ, zero, suc, ◌-◌, ◌<◌, ◌≤◌, length, drop, slice_index_or, Bool, true, false, not, ◌==◌, ◌&&◌, List, [], ◌∷◌, ◌++◌, take, map, filter, Option, Some, None, is_some, refl}
use Rattle.std.specs.List.{AllByRecursion}
use Rattle.std.proofs.Common.{arith, ap, sym, subst, ◌∙◌, cond}
use Rattle.mon_shows.specs.declared.seen.Seen.{Seen}
use Rattle.std.proofs.lemmas.Bool.{false≢true}
use Rattle.mon_legal.specs.Probes.{Probe, Way, Live, just_live, sent_out, first_way}
use Rattle.mon_session.specs.Tracks.{Track, is_track, new_track, marked_track, offered, answered_for, gone_out, sent_one, is_over, fits, confirmed_in, HasGone, AllGone}

and-false : (b : Bool) → (b && false) ≡ false
and-false true = refl
and-false false = refl

way-same : (b : Bool) (near : ℕ) (frame : List ℕ) (w : Option Way) → is_some w ≡ true → first_way b near frame w ≡ w
way-same b near frame None e = absurd (false≢true e)
way-same true near frame (Some w) e = refl
way-same false near frame (Some w) e = refl

-- what went out goes out no more
pub gone_same : (serial near : ℕ) (frame : List ℕ) (ls : List Live) → AllByRecursion HasGone ls → map (sent_out serial near frame) ls ≡ ls
gone_same serial near frame [] a = refl
gone_same serial near frame (l ∷ ls) a =
    let one : sent_out serial near frame l ≡ l = ap (λ (w : Option Way). record l { way = w }) (way-same (l.probe.serial == serial) near frame l.way a.0) in
    rw one (rw (gone_same serial near frame ls a.1) refl)

pub tracks_same : (serial near : ℕ) (frame : List ℕ) (ts : List Track) → AllGone ts → map (gone_out serial near frame) ts ≡ ts
tracks_same serial near frame [] a = refl
tracks_same serial near frame (t ∷ ts) a =
    let one : gone_out serial near frame t ≡ t = ap (λ (ls : List Live). record t { live = ls }) (gone_same serial near frame t.live a.0) in
    rw one (rw (tracks_same serial near frame ts a.1) refl)

pub probe_other : (near : ℕ) (frame : List ℕ) (p : Probe) (t : Track) → (t.number == p.edit) ≡ false → AllByRecursion HasGone t.live
    → sent_one near frame p t ≡ t
probe_other near frame p t e a =
    rw e (rw (and-false (not (p.edit == 0))) (ap (λ (ls : List Live). record t { live = ls }) (gone_same p.serial near frame t.live a)))

pub probe_own : (near : ℕ) (frame : List ℕ) (p : Probe) (t : Track) → (t.number == p.edit) ≡ true → (p.edit == 0) ≡ false → AllByRecursion HasGone t.live
    → sent_one near frame p t ≡ record t { kept = take 16 (p ∷ t.kept); live = sent_out p.serial near frame (just_live p) ∷ t.live }
probe_own near frame p t e z a =
    rw e (rw z (ap (λ (ls : List Live). record t { kept = take 16 (p ∷ t.kept); live = sent_out p.serial near frame (just_live p) ∷ ls }) (gone_same p.serial near frame t.live a)))

pub gone_filtered : (retry version : ℕ) (reported : Bool) (ls : List Live) → AllByRecursion HasGone ls → AllByRecursion HasGone (filter (λ l. not (is_over retry version reported l)) ls)
gone_filtered retry version reported [] a = tt
gone_filtered retry version reported (l ∷ ls) a =
    elim (is_over retry version reported l) as (λ b. AllByRecursion HasGone (cond (not b) (l ∷ filter (λ l. not (is_over retry version reported l)) ls) (filter (λ l. not (is_over retry version reported l)) ls))) [
      | true ↦ gone_filtered retry version reported ls a.1
      | false ↦ (a.0, gone_filtered retry version reported ls a.1)
    ]

-- of all tracks
pub gone_more : (k : ℕ) (ts : List Track) → AllGone ts → AllGone (ts ++ new_track k ∷ [])
gone_more k [] a = (tt, tt)
gone_more k (t ∷ ts) a = (a.0, gone_more k ts a.1)

pub gone_left : (k : ℕ) (ts : List Track) → AllGone ts → AllGone (filter (λ t. not (is_track k t)) ts)
gone_left k [] a = tt
gone_left k (t ∷ ts) a =
    elim (t.number == k) as (λ b. AllGone (cond (not b) (t ∷ filter (λ t. not (is_track k t)) ts) (filter (λ t. not (is_track k t)) ts))) [
      | true ↦ gone_left k ts a.1
      | false ↦ (a.0, gone_left k ts a.1)
    ]

pub gone_marked : (k : ℕ) (ts : List Track) → AllGone ts → AllGone (map (marked_track k) ts)
gone_marked k [] a = tt
gone_marked k (t ∷ ts) a = (a.0, gone_marked k ts a.1)

pub gone_offered : (k : ℕ) (ts : List Track) → AllGone ts → AllGone (map (offered k) ts)
gone_offered k [] a = tt
gone_offered k (t ∷ ts) a = (a.0, gone_offered k ts a.1)

pub gone_answered : (k : ℕ) (ts : List Track) → AllGone ts → AllGone (map (answered_for k) ts)
gone_answered k [] a = tt
gone_answered k (t ∷ ts) a = (a.0, gone_answered k ts a.1)

found-at : (serial : ℕ) (seen : Seen) (ts : List Track) (i : ℕ) (d : Track) → i < length ts → confirmed_in serial seen (drop (suc i) ts) ≡ None
    → fits serial seen (slice_index_or ts i d) ≡ true → confirmed_in serial seen ts ≡ Some (slice_index_or ts i d).number
found-at serial seen [] i d lt none e = absurd (omega (arith, lt))
found-at serial seen (t ∷ ts) zero d lt none e = rw none (rw e refl)
found-at serial seen (t ∷ ts) (suc i) d lt none e =
    let less : i < length ts = omega (arith, lt) in
    rw (found-at serial seen ts i d less none e) refl

-- the newest edit of which a kept probe fits
pub confirmed_before : (serial : ℕ) (seen : Seen) (ts : List Track) (n : ℕ) (t : Track) → 0 < n → n ≤ length ts → confirmed_in serial seen (drop n ts) ≡ None
    → t ≡ slice_index_or ts (n - 1) t → fits serial seen t ≡ true → confirmed_in serial seen ts ≡ Some t.number
confirmed_before serial seen ts n t more le none is e =
    let same : suc (n - 1) ≡ n = omega (arith, more) in
    let lt : n - 1 < length ts = omega (arith, more, le) in
    found-at serial seen ts (n - 1) t lt (subst (λ (k : ℕ). confirmed_in serial seen (drop k ts) ≡ None) (sym same) none)
    (subst (λ (u : Track). fits serial seen u ≡ true) is e)
    ∙ ap (λ (u : Track). Some u.number) (sym is)
