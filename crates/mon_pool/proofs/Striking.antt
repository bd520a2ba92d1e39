-- The jobs that are out: one more, and one less.
use Rattle.std.proofs.Common.{◌≡◌, ◌≢◌, ℕ, ◌<◌, List, [], ◌∷◌, ◌++◌, map, length, get_or, slice_index_or, sym, ap, ◌∙◌, subst, arith}
use Rattle.std.proofs.lemmas.List.{map-append, length-map}
use Rattle.std.specs.List.{remove}
use Rattle.std.specs.Arc.{arc_value}
use Rattle.std.specs.Global.{Global}
use Rattle.std.specs.declared.sync.Arc.{Arc}
use Rattle.mon_list.specs.Has.{Has}
use Rattle.mon_job.specs.Jobs.{Task}
use Rattle.mon_world.specs.Crews.{without_job}
use Rattle.mon_tally.specs.Tallies.{weigh, AsOften}
use Rattle.mon_tally.proofs.Lists.{weigh_remove, has_at, none_has, map_remove, get_or_map}
use Rattle.mon_tally.proofs.Rising.{rise_snoc, rise_remove, remove_without}
use Rattle.mon_pool.specs.Sides.{Rising}

abbrev pub Jobs : Type 0
Jobs = List (Arc Task Global)

abbrev number_of : Task → ℕ
number_of j = j.number

pub pushed : (items new : Jobs) (x : Arc Task Global) (last n : ℕ) → new ≡ items ++ x ∷ [] → n ≡ (arc_value x).number → Rising (map arc_value items) last → last < (arc_value x).number → Rising (map arc_value new) n
pushed items new x last n is number rising above =
    subst (λ (m : ℕ). Rising (map arc_value new) m) (sym number)
    (subst (λ (js : List Task). Rising js (arc_value x).number) (sym (ap (map arc_value) is ∙ map-append arc_value items (x ∷ [])))
    (rise_snoc number_of 0 (map arc_value items) last (arc_value x) rising above))

-- the job stands at the place
abbrev pub At : Jobs → ℕ → Task → Type 0
At items k job = (k < length items) × ((d : Arc Task Global) → arc_value (slice_index_or items k d) ≡ job)

at_mapped : (items : Jobs) (k : ℕ) (job : Task) → At items k job → (d : Arc Task Global) → get_or (map arc_value items) k job ≡ job
at_mapped items k job at d = get_or_map arc_value items k d job at.0 ∙ at.1 d

pub left_rise : (items new : Jobs) (last k : ℕ) → new ≡ remove items k → Rising (map arc_value items) last → Rising (map arc_value new) last
left_rise items new last k is rising =
    subst (λ (js : List Task). Rising js last) (sym (ap (map arc_value) is ∙ map_remove arc_value items k)) (rise_remove number_of 0 (map arc_value items) last k rising)

pub was_there : (items : Jobs) (k : ℕ) (job : Task) → At items k job → (d : Arc Task Global) → Has (map arc_value items) job
was_there items k job at d =
    subst (λ (j : Task). Has (map arc_value items) j) (at_mapped items k job at d) (has_at (map arc_value items) k job (let l : length (map arc_value items) ≡ length items = length-map items arc_value in let lt : k < length items = at.0 in omega arith))

pub left_out : (items new : Jobs) (last k : ℕ) (job : Task) → At items k job → (d : Arc Task Global) → new ≡ remove items k → Rising (map arc_value items) last → map arc_value new ≡ without_job job.number (map arc_value items)
left_out items new last k job at d is rising =
    let lt : k < length (map arc_value items) = (let l : length (map arc_value items) ≡ length items = length-map items arc_value in let lt : k < length items = at.0 in omega arith) in
    (ap (map arc_value) is ∙ map_remove arc_value items k)
    ∙ (remove_without number_of 0 (map arc_value items) last k job lt rising ∙ ap (λ (j : Task). without_job j.number (map arc_value items)) (at_mapped items k job at d))

pub left_weight : (items new : Jobs) (k : ℕ) (job : Task) → At items k job → (d : Arc Task Global) → new ≡ remove items k → AsOften (map arc_value items) (job ∷ map arc_value new)
left_weight items new k job at d is h =
    let lt : k < length (map arc_value items) = (let l : length (map arc_value items) ≡ length items = length-map items arc_value in let lt : k < length items = at.0 in omega arith) in
    let a : weigh h (map arc_value new) ≡ weigh h (remove (map arc_value items) k) = ap (weigh h) (ap (map arc_value) is ∙ map_remove arc_value items k) in
    let b : h (get_or (map arc_value items) k job) ≡ h job = ap h (at_mapped items k job at d) in
    omega (arith, weigh_remove h (map arc_value items) k job lt)

pub not_there : (items : Jobs) (job : Task) → ((k : ℕ) (d : Arc Task Global) → k < length items → arc_value (slice_index_or items k d) ≢ job) → Has (map arc_value items) job → ⊥
not_there [] job none has = elim has [ ]
not_there (x ∷ xs) job none has =
    let same : length (map arc_value (x ∷ xs)) ≡ length (x ∷ xs) = length-map (x ∷ xs) arc_value in
    none_has (map arc_value (x ∷ xs)) job
    (λ k d lt e.
    let lt' : k < length (x ∷ xs) = omega (arith, same) in
    none k x lt' (sym (get_or_map arc_value (x ∷ xs) k x d lt') ∙ e))
    has
