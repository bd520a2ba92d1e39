-- What is left of the kept replies.
use Rattle.std.specs.Prelude.{◌≡◌, ℕ, Bool, true, false, if◌then◌else◌, List, [], ◌∷◌, drop, Option, Some, None, option_map, refl}
use Rattle.std.proofs.Common.{ap, sym, ◌∙◌, subst}
use Rattle.mon_barriers.specs.declared.barriers.Reply.{Reply}
use Rattle.mon_barriers.specs.Barriers.{Pending, may_go, released, replies_without}
use Rattle.mon_world.specs.declared.event.Side.TheVariants.{Controller}
use Rattle.mon_legal.specs.Runs.{Run}
use Rattle.mon_legal.specs.Owns.{Act}
use Rattle.mon_legal.specs.Owns.Own.{Sends}
use Rattle.mon_legal.specs.Owns.Act.{Reply as Release}
use Rattle.mon_legal.specs.Edits.{oldest}
use Rattle.mon_legal.specs.Held.{due_reply}
use Rattle.mon_session.specs.Walks.{Known, takes, walks}
use Rattle.mon_session.specs.Entries.{with_now}
use Rattle.mon_session.specs.Acting.{entries_if}

none-if : (b : Bool) (reply : Reply) (later : List Reply) → (if b then Some reply.frame else None) ≡ None → (if b then later else reply ∷ later) ≡ reply ∷ later
none-if true reply later e = absurd (let g : Some reply.frame ≡ None = e in cc)
none-if false reply later e = refl

some-if : (b : Bool) (reply : Reply) (later : List Reply) (frame : List ℕ) → (if b then Some reply.frame else None) ≡ Some frame → (if b then later else reply ∷ later) ≡ later
some-if true reply later frame e = refl
some-if false reply later frame e = absurd (let g : None ≡ Some frame = e in cc)

pub none_goes : (oldest : Option ℕ) (replies : List Reply) → released oldest replies ≡ None → replies_without oldest replies ≡ replies
none_goes oldest [] e = refl
none_goes oldest (reply ∷ later) e = none-if (may_go oldest reply.edits) reply later e

pub one_goes : (oldest : Option ℕ) (replies : List Reply) (frame : List ℕ) → released oldest replies ≡ Some frame → replies_without oldest replies ≡ drop 1 replies
one_goes oldest [] frame e = absurd (let g : None ≡ Some frame = e in cc)
one_goes oldest (reply ∷ later) frame e = some-if (may_go oldest reply.edits) reply later frame e

-- the oldest reply goes
release-walk : (run : Run) (k l : Known) (o : Option ℕ) (frame : List ℕ) → o ≡ oldest k.now.unsettled → released o k.now.kept ≡ Some frame
    → l ≡ takes run (with_now k (record k.now { kept = replies_without o k.now.kept })) (Sends Controller frame false)
    → l ≡ walks run k (entries_if k.number k.now (due_reply k.now.unsettled k.now.kept))
release-walk run k l o frame e r w =
    let due : due_reply k.now.unsettled k.now.kept ≡ Some (Release frame) = ap (option_map Release) (ap (λ (x : Option ℕ). released x k.now.kept) (sym e) ∙ r) in
    w ∙ (ap (λ (ks : List Reply). takes run (with_now k (record k.now { kept = ks })) (Sends Controller frame false)) (one_goes o k.now.kept frame r)
    ∙ ap (λ (d : Option Act). walks run k (entries_if k.number k.now d)) (sym due))

pub release_at : (run : Run) (k view l : Known) (o : Option ℕ) (left : Pending) (frame : List ℕ) → view ≡ k → o ≡ oldest view.now.unsettled → Some frame ≡ released o view.now.kept
    → left ≡ record { askers = view.now.askers; replies = replies_without o view.now.kept }
    → l ≡ takes run (with_now view (record view.now { askers = left.askers; kept = left.replies })) (Sends Controller frame false)
    → l ≡ walks run k (entries_if k.number k.now (due_reply k.now.unsettled k.now.kept))
release_at run k view l o left frame p e r b w =
    subst (λ (x : Known). l ≡ walks run x (entries_if x.number x.now (due_reply x.now.unsettled x.now.kept))) p
    (release-walk run view l o frame e (sym r) (w ∙ ap (λ (q : Pending). takes run (with_now view (record view.now { askers = q.askers; kept = q.replies })) (Sends Controller frame false)) b))
