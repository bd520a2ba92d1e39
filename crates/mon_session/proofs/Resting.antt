-- Where no reply is due, the frames of the session are.
use Rattle.std.specs.Prelude.{◌≡◌, ℕ, Bool, true, false, is_some, List, [], ◌++◌, Option, Some, None}
use Rattle.std.proofs.Common.{ap, sym, ◌∙◌}
use Rattle.std.proofs.lemmas.Bool.{false≢true}
use Rattle.std.proofs.lemmas.List.{append-nil}
use Rattle.mon_legal.specs.Runs.{Run}
use Rattle.mon_legal.specs.Owns.{Act}
use Rattle.mon_legal.specs.Held.{due_reply}
use Rattle.mon_session.specs.declared.step.Step.{Step}
use Rattle.mon_session.specs.Now.{Now}
use Rattle.mon_session.specs.Walks.{Known, walks, steps_of}
use Rattle.mon_session.specs.Acting.{due_in, frames_due, entries_if}
use Rattle.mon_session.proofs.Doing.{reply_first, frames_last}

-- nothing was due, so nothing was done
pub none_done : (run : Run) (k l : Known) (due : Option Act) → is_some due ≡ false → l ≡ walks run k (entries_if k.number k.now due) → l ≡ k
none_done run k l None e w = w
none_done run k l (Some act) e w = absurd (false≢true (sym e))

pub none_told : (s : ℕ) (n : Now) (before mid : List Step) (due : Option Act) → is_some due ≡ false → mid ≡ before ++ steps_of s (entries_if s n due) → mid ≡ before
none_told s n before mid None e w = w ∙ append-nil before
none_told s n before mid (Some act) e w = absurd (false≢true (sym e))

-- a reply went
pub reply_walk : (run : Run) (k l : Known) → k.now.armed ≡ true → k.now.postponed ≡ [] → is_some (due_reply k.now.unsettled k.now.kept) ≡ true
    → l ≡ walks run k (entries_if k.number k.now (due_reply k.now.unsettled k.now.kept)) → l ≡ walks run k (entries_if k.number k.now (due_in k.now))
reply_walk run k l a p some w = w ∙ ap (λ (d : Option Act). walks run k (entries_if k.number k.now d)) (sym (reply_first k.now a p some))

pub reply_steps : (s : ℕ) (n : Now) (before after : List Step) → n.armed ≡ true → n.postponed ≡ [] → is_some (due_reply n.unsettled n.kept) ≡ true
    → after ≡ before ++ steps_of s (entries_if s n (due_reply n.unsettled n.kept)) → after ≡ before ++ steps_of s (entries_if s n (due_in n))
reply_steps s n before after a p some w = w ∙ ap (λ (d : Option Act). before ++ steps_of s (entries_if s n d)) (sym (reply_first n a p some))

-- none did, and the frames may go on
pub frames_done : (k l : Known) (done : Bool) → l ≡ k → k.now.armed ≡ true → k.now.postponed ≡ [] → is_some (due_reply k.now.unsettled k.now.kept) ≡ false
    → done ≡ is_some (frames_due l.now) → done ≡ is_some (due_in k.now)
frames_done k l done e a p none d =
    d ∙ (ap (λ (x : Known). is_some (frames_due x.now)) e ∙ ap is_some (sym (frames_last k.now a p none)))

pub frames_walk : (run : Run) (k l m : Known) → l ≡ k → k.now.armed ≡ true → k.now.postponed ≡ [] → is_some (due_reply k.now.unsettled k.now.kept) ≡ false
    → m ≡ walks run l (entries_if l.number l.now (frames_due l.now)) → m ≡ walks run k (entries_if k.number k.now (due_in k.now))
frames_walk run k l m e a p none w =
    w ∙ (ap (λ (x : Known). walks run x (entries_if x.number x.now (frames_due x.now))) e
    ∙ ap (λ (d : Option Act). walks run k (entries_if k.number k.now d)) (sym (frames_last k.now a p none)))

pub frames_steps : (k l : Known) (before mid after : List Step) → l ≡ k → mid ≡ before → k.now.armed ≡ true → k.now.postponed ≡ []
    → is_some (due_reply k.now.unsettled k.now.kept) ≡ false → after ≡ mid ++ steps_of l.number (entries_if l.number l.now (frames_due l.now))
    → after ≡ before ++ steps_of k.number (entries_if k.number k.now (due_in k.now))
frames_steps k l before mid after e b a p none w =
    w ∙ (ap (λ (xs : List Step). xs ++ steps_of l.number (entries_if l.number l.now (frames_due l.now))) b
    ∙ (ap (λ (x : Known). before ++ steps_of x.number (entries_if x.number x.now (frames_due x.now))) e
    ∙ ap (λ (d : Option Act). before ++ steps_of k.number (entries_if k.number k.now d)) (sym (frames_last k.now a p none))))
