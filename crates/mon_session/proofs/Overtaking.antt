-- What a frame of the controller makes of a session.
use Rattle.std.specs.Prelude.{◌≡◌, ℕ, true, false, List, [], ◌∷◌, ◌++◌, refl}
use Rattle.std.proofs.Common.{ap, ◌∙◌}
use Rattle.mon_world.specs.declared.event.Side.TheVariants.{Switch}
use Rattle.mon_legal.specs.Runs.{Run}
use Rattle.mon_legal.specs.Owns.Own.{From_controller, Sends}
use Rattle.mon_legal.specs.Messages.{is_light}
use Rattle.mon_legal.specs.Directly.{Due}
use Rattle.mon_legal.specs.Directly.Due.{Frame}
use Rattle.mon_session.specs.Now.{Now, step}
use Rattle.mon_session.specs.Walks.{Known, walks, takes}
use Rattle.mon_session.specs.Entries.{with_now, forgotten}
use Rattle.mon_session.specs.Dues.{met, controller_dues}

pub light_comes : (run : Run) (n : Now) (frame : List ℕ) → is_light frame ≡ true → step run n (From_controller frame) ≡ forgotten n
light_comes run n frame e = rw e refl

pub light_dues : (frame : List ℕ) → is_light frame ≡ true → controller_dues frame ≡ Frame Switch frame ∷ []
light_dues frame e = rw e refl

pub heavy_dues : (frame : List ℕ) → is_light frame ≡ false → controller_dues frame ≡ []
heavy_dues frame e = rw e refl

pub light_walk : (run : Run) (k : Known) (frame : List ℕ) → is_light frame ≡ true
    → walks run k (From_controller frame ∷ met (controller_dues frame)) ≡ takes run (with_now k (forgotten k.now)) (Sends Switch frame false)
light_walk run k frame e =
    ap (λ (ds : List Due). walks run k (From_controller frame ∷ met ds)) (light_dues frame e)
    ∙ ap (λ (n : Now). walks run (with_now k n) (Sends Switch frame false ∷ [])) (light_comes run k.now frame e)

pub other_waits : (run : Run) (n : Now) (frame : List ℕ) → is_light frame ≡ false
    → step run n (From_controller frame) ≡ record (forgotten n) { waiting = n.waiting ++ frame ∷ [] }
other_waits run n frame e = rw e refl
