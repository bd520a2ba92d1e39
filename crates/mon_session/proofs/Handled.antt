-- A frame of the switch is handled by its kind.
use Rattle.std.specs.Prelude.{◌≡◌, ◌≢◌, ◌==◌, ℕ, Bool, true, false, not, ◌&&◌, if◌then◌else◌, List, [], ◌∷◌, ◌++◌, Option, Some, None, refl}
use Rattle.std.specs.List.{list_any}
use Rattle.std.proofs.Common.{⊎_elim, ap, sym, ◌∙◌}
use Rattle.std.proofs.lemmas.Bool.Decides.{eqb_tells}
use Rattle.of_frame.specs.Header.{kind_of}
use Rattle.std.proofs.lemmas.Bool.{false≢true}
use Rattle.std.proofs.lemmas.List.{append-nil}
use Rattle.mon_barriers.specs.declared.barriers.Asker.{Asker}
use Rattle.mon_barriers.specs.declared.barriers.Asker.TheVariants as asker
use Rattle.mon_report.specs.declared.line.What.TheVariants as what
use Rattle.mon_report.specs.declared.line.Cause.{Cause}
use Rattle.mon_header.specs.declared.header.Header.{Header}
use Rattle.mon_topo.specs.Tags.{tag_of}
use Rattle.mon_legal.specs.Runs.{Run}
use Rattle.mon_legal.specs.Owns.{Own}
use Rattle.mon_legal.specs.Owns.Own.{From_switch}
use Rattle.mon_world.specs.declared.event.Side.TheVariants.{Switch}
use Rattle.mon_legal.specs.Messages.{carried_in, features_request}
use Rattle.mon_legal.specs.Edits.{is_number}
use Rattle.mon_legal.specs.Directly.{Due, fact, ends_in, armed_with, armed_line}
use Rattle.mon_legal.specs.Directly.Due.{Frame, Ending}
use Rattle.mon_session.specs.declared.step.Step.{Step}
use Rattle.mon_session.specs.Now.{Now}
use Rattle.mon_session.specs.Walks.{Known, walks, steps_of}
use Rattle.mon_session.specs.Dues.{met, request_if, with_request, barrier_dues, switch_dues, others_at, dues_at}
use Rattle.mon_session.specs.Returning.{own_in, return_of, return_steps}
use Rattle.mon_session.proofs.Arriving.{first_walk, first_steps, ended_dues, own_dues, others_count, nothing_back}

-- what is due, in other words
pub walk_as : (run : Run) (k l : Known) (o : Own) (dues other : List Due) → other ≡ dues → l ≡ walks run k (o ∷ met dues) → l ≡ walks run k (o ∷ met other)
walk_as run k l o dues other e w = w ∙ ap (λ (ds : List Due). walks run k (o ∷ met ds)) (sym e)

pub steps_as : (s : ℕ) (before after : List Step) (dues other : List Due) → other ≡ dues → after ≡ before ++ steps_of s (met dues) → after ≡ before ++ steps_of s (met other)
steps_as s before after dues other e w = w ∙ ap (λ (ds : List Due). before ++ steps_of s (met ds)) (sym e)

pub calm_as : (dues other : List Due) → other ≡ dues → ends_in dues ≡ false → ends_in other ≡ false
calm_as dues other e w = ap ends_in e ∙ w

-- the answer to a barrier ends nothing
tag-calm : (s d : ℕ) (tag : Option ℕ) → ends_in (armed_with s d tag) ≡ false
tag-calm s d None = refl
tag-calm s d (Some tag) = refl

line-calm : (run : Run) (s : ℕ) (d : Option ℕ) → ends_in (armed_line run s d) ≡ false
line-calm run s None = refl
line-calm run s (Some d) = tag-calm s d (tag_of d run.given)

settled-calm : (s k : ℕ) (b : Bool) → ends_in (if b then fact s k what.Settled ∷ [] else []) ≡ false
settled-calm s k true = refl
settled-calm s k false = refl

pub barrier_calm : (run : Run) (s : ℕ) (n : Now) (frame : List ℕ) (who : Option Asker) → ends_in (barrier_dues run s n frame who) ≡ false
barrier_calm run s n frame None = refl
barrier_calm run s n frame (Some asker.Arming) = line-calm run s n.datapath
barrier_calm run s n frame (Some (asker.Own k)) = settled-calm s k (list_any (is_number k) n.unsettled)
barrier_calm run s n frame (Some (asker.Controller edits)) = refl

-- a probe came back
back-dues : (run : Run) (k : Known) (taken frame : List ℕ) (p : ℕ × Header) → own_in run.key (carried_in frame) ≡ Some p → dues_at run k taken frame ≡ with_request k.now []
back-dues run k taken frame p e = ap (with_request k.now) (own_dues run k.number (others_at taken frame) frame k.now p e)

pub back_walk : (run : Run) (k l : Known) (taken frame others : List ℕ) (p : ℕ × Header) → own_in run.key (carried_in frame) ≡ Some p
    → l ≡ walks run k (From_switch frame others ∷ met (with_request k.now [])) → l ≡ walks run k (From_switch frame others ∷ met (dues_at run k taken frame))
back_walk run k l taken frame others p e w = walk_as run k l (From_switch frame others) (with_request k.now []) (dues_at run k taken frame) (back-dues run k taken frame p e) w

pub back_steps : (run : Run) (k : Known) (before after : List Step) (taken frame : List ℕ) (p : ℕ × Header) → own_in run.key (carried_in frame) ≡ Some p
    → after ≡ before ++ (steps_of k.number (met (with_request k.now [])) ++ return_of k.now.datapath frame (Some p))
    → after ≡ before ++ (steps_of k.number (met (dues_at run k taken frame)) ++ return_steps run k.now frame)
back_steps run k before after taken frame p e w =
    w ∙ (ap (λ (ds : List Due). before ++ (steps_of k.number (met ds) ++ return_of k.now.datapath frame (Some p))) (sym (back-dues run k taken frame p e))
    ∙ ap (λ (own : Option (ℕ × Header)). before ++ (steps_of k.number (met (dues_at run k taken frame)) ++ return_of k.now.datapath frame own)) (sym e))

-- any other frame, and the request behind the first one
here-dues : (run : Run) (k : Known) (taken frame : List ℕ) → with_request k.now (switch_dues run k.number taken k.now frame) ≡ dues_at run k taken frame
here-dues run k taken frame = ap (with_request k.now) (sym (others_count run k.number taken frame k.now))

pub here_walk : (run : Run) (k l m : Known) (first : Bool) (taken frame others : List ℕ) → first ≡ not k.now.greeted
    → ends_in (switch_dues run k.number taken k.now frame) ≡ false → l ≡ walks run k (From_switch frame others ∷ met (switch_dues run k.number taken k.now frame))
    → m ≡ walks run l (met (request_if first [])) → m ≡ walks run k (From_switch frame others ∷ met (dues_at run k taken frame))
here_walk run k l m first taken frame others f calm w r =
    first_walk run k l m (From_switch frame others) (switch_dues run k.number taken k.now frame) calm w (r ∙ ap (λ (b : Bool). walks run l (met (request_if b []))) f)
    ∙ ap (λ (ds : List Due). walks run k (From_switch frame others ∷ met ds)) (here-dues run k taken frame)

pub here_steps : (run : Run) (k l : Known) (first : Bool) (taken frame : List ℕ) (before mid after : List Step) → first ≡ not k.now.greeted
    → own_in run.key (carried_in frame) ≡ None
    → ends_in (switch_dues run k.number taken k.now frame) ≡ false → l.number ≡ k.number → mid ≡ before ++ steps_of k.number (met (switch_dues run k.number taken k.now frame))
    → after ≡ mid ++ steps_of l.number (met (request_if first []))
    → after ≡ before ++ (steps_of k.number (met (dues_at run k taken frame)) ++ return_steps run k.now frame)
here_steps run k l first taken frame before mid after f none calm e w r =
    first_steps k.number k.now (switch_dues run k.number taken k.now frame) before mid after calm w
    (r ∙ (ap (λ (x : ℕ). mid ++ steps_of x (met (request_if first []))) e ∙ ap (λ (b : Bool). mid ++ steps_of k.number (met (request_if b []))) f))
    ∙ (ap (λ (ds : List Due). before ++ steps_of k.number (met ds)) (here-dues run k taken frame)
    ∙ ap (λ (xs : List Step). before ++ xs)
    (sym (append-nil (steps_of k.number (met (dues_at run k taken frame))))
    ∙ ap (λ (xs : List Step). steps_of k.number (met (dues_at run k taken frame)) ++ xs) (sym (nothing_back k.now.datapath frame (own_in run.key (carried_in frame)) none))))

-- the request ends nothing
more-calm : (dues : List Due) → ends_in dues ≡ false → ends_in (dues ++ Frame Switch features_request ∷ []) ≡ false
more-calm [] e = refl
more-calm (Ending c ∷ later) e = absurd (false≢true (sym e))
more-calm (due ∷ later) e = more-calm later e

request-calm : (b : Bool) (dues : List Due) → ends_in dues ≡ false → ends_in (request_if b dues) ≡ false
request-calm true dues e = more-calm dues e
request-calm false dues e = e

pub back_calm : (run : Run) (k : Known) (taken frame : List ℕ) (p : ℕ × Header) → own_in run.key (carried_in frame) ≡ Some p → ends_in (dues_at run k taken frame) ≡ false
back_calm run k taken frame p e = ap ends_in (back-dues run k taken frame p e) ∙ request-calm (not k.now.greeted && not (ends_in [])) [] refl

pub here_calm : (run : Run) (k : Known) (taken frame : List ℕ) → ends_in (switch_dues run k.number taken k.now frame) ≡ false → ends_in (dues_at run k taken frame) ≡ false
here_calm run k taken frame e =
    ap ends_in (sym (here-dues run k taken frame))
    ∙ request-calm (not k.now.greeted && not (ends_in (switch_dues run k.number taken k.now frame))) (switch_dues run k.number taken k.now frame) e

-- an end
pub here_ended : (run : Run) (k : Known) (taken frame : List ℕ) (c : Cause) → switch_dues run k.number taken k.now frame ≡ Ending c ∷ [] → dues_at run k taken frame ≡ Ending c ∷ []
here_ended run k taken frame c e = sym (here-dues run k taken frame) ∙ ended_dues k.now c (switch_dues run k.number taken k.now frame) e

-- a frame of another kind
pub other_kind : (frame : List ℕ) (x kind : ℕ) → x ≡ kind_of frame → x ≢ kind → (kind_of frame == kind) ≡ false
other_kind frame x kind e other = ⊎_elim (λ t. absurd (other (e ∙ t.1))) (λ t. t.0) (eqb_tells (kind_of frame) kind)
