-- Jobs that are offered one after the other are those for which there is room.
use Rattle.std.specs.Prelude.{◌≡◌, ℕ, zero, suc, ◌+◌, ◌<◌, ◌^◌, Bool, true, false, ◌==◌, if◌then◌else◌, List, [], ◌∷◌, ◌++◌, length, take, map, Option, Some, None, is_some, refl}
use Rattle.std.specs.List.{AllByRecursion}
use Rattle.std.proofs.Common.{arith, ap, sym, subst, ◌∙◌, cond}
use Rattle.std.proofs.lemmas.Bool.{false≢true}
use Rattle.std.proofs.lemmas.List.{append_assoc, append-nil, length-append}
use Rattle.mon_shows.specs.Views.{Viewing}
use Rattle.mon_table.specs.declared.rule.Rule.{Rule}
use Rattle.mon_table.specs.declared.edit.Edit.{Edit}
use Rattle.mon_table.specs.declared.edit.Edit.TheVariants.{Put, Cut}
use Rattle.mon_table.specs.Edits.{edited}
use Rattle.mon_table.specs.Tables.{slice}
use Rattle.mon_shows.specs.declared.target.Target.{Target}
use Rattle.mon_job.specs.Jobs.{Task, updated, IsJob}
use Rattle.mon_job.proofs.Asking.{slice-asks}
use Rattle.mon_legal.specs.Runs.{Run}
use Rattle.mon_legal.specs.Edits.{Passed, is_number}
use Rattle.mon_legal.specs.Targets.{target_of, table_for}
use Rattle.mon_session.specs.declared.numbers.Numbers.{Numbers}
use Rattle.mon_session.specs.Now.{Now, edit_numbered}
use Rattle.mon_session.specs.Walks.{Known, walks}
use Rattle.mon_session.specs.Probing.{wanted}
use Rattle.mon_session.specs.Offering.{expected_in, job_of, edit_at, job_for, next_job, with_offer, and_later, jobs_for, last_after, offer_of, EditsAreThere, UsedUp}
use Rattle.mon_session.proofs.Walking.{walks_on}

-- what is next -------------------------------------------------------------------

pub none_seen : (v : Option Viewing) (k : Known) (number : ℕ) → v ≡ None → next_job v k number ≡ None
none_seen v k number e = rw e refl

pub none_wanted : (v : Option Viewing) (k : Known) (number : ℕ) → edit_at k.now.unsettled (wanted k.now) ≡ None → next_job v k number ≡ None
none_wanted None k number e = refl
none_wanted (Some v) k number e = ap (job_for v k number) e

pub none_numbered : (v : Option Viewing) (k : Known) (number : ℕ) (p : Passed) → edit_at k.now.unsettled (wanted k.now) ≡ Some p → (p.number == 0) ≡ true
    → next_job v k number ≡ None
none_numbered None k number p e z = refl
none_numbered (Some v) k number p e z = ap (job_for v k number) e ∙ ap (λ (b : Bool). if b then None else Some (job_of v k number p)) z

pub one_wanted : (o : Option Viewing) (v : Viewing) (k : Known) (number : ℕ) (p : Passed) → o ≡ Some v → edit_at k.now.unsettled (wanted k.now) ≡ Some p
    → (p.number == 0) ≡ false → next_job o k number ≡ Some (job_of v k number p)
one_wanted o v k number p s e z =
    ap (λ (x : Option Viewing). next_job x k number) s
    ∙ (ap (job_for v k number) e ∙ ap (λ (b : Bool). if b then None else Some (job_of v k number p)) z)

-- the edit is there
there-numbered : (P : Passed → Type 0) (e : ℕ) (ps : List Passed) (p : Passed) → AllByRecursion P ps → edit_numbered e ps ≡ Some p → P p
there-numbered P e [] p a is = absurd (let f : ⊥ = cc in f)
there-numbered P e (q ∷ ps) p a is =
    elim (is_number e q) as (λ b. cond b (Some q) (edit_numbered e ps) ≡ Some p → P p) [
      | true ↦ λ y. let same : q ≡ p = cc in subst P same a.0
      | false ↦ λ y. there-numbered P e ps p a.1 y
    ] is

pub there_at : (v : Viewing) (n : Now) (w : Option ℕ) (p : Passed) → EditsAreThere n → edit_at n.unsettled w ≡ Some p
    → IsJob (table_for (expected_in n) (target_of v p.edit)) (target_of v p.edit)
there_at v n None p a is = absurd (let f : ⊥ = cc in f)
there_at v n (Some e) p a is =
    there-numbered (λ q. IsJob (table_for (expected_in n) (target_of v q.edit)) (target_of v q.edit)) e n.unsettled p (a v) is

pub there_on : (o : Option Task) (k : Known) → EditsAreThere k.now → EditsAreThere (with_offer o k).now
there_on None k a = a
there_on (Some j) k a = a

-- its job ------------------------------------------------------------------------

updated-is : (v : Viewing) (x : Edit) → updated (target_of v x) ≡ edited x
updated-is v (Put r old) = refl
updated-is v (Cut r) = refl

sliced-is : (v : Viewing) (x : Edit) (r : Rule) (t : List Rule) → r ≡ edited x → slice r.matching t ≡ slice (updated (target_of v x)).matching t
sliced-is v x r t e = ap (λ (y : Rule). slice y.matching t) (e ∙ sym (updated-is v x))

pub job_there : (v : Viewing) (n : Now) (x : Edit) (r : Rule) (part : List Rule) (t : Target) → IsJob (expected_in n) (target_of v x)
    → t ≡ target_of v x → r ≡ edited x → part ≡ slice r.matching (expected_in n) → IsJob part t
job_there v n x r part t h a b e =
    subst (λ (y : Target). IsJob part y) (sym a)
    (subst (λ (y : List Rule). IsJob y (target_of v x)) (sym (e ∙ sliced-is v x r (expected_in n) b)) (slice-asks (expected_in n) (target_of v x) h))

abbrev task-of : Viewing → Known → ℕ → Passed → List Rule → Target → Task
task-of v k number p t x = record { number = number; session = k.number; slot = k.slot; edit = p.number; version = k.now.version; view = v; table = t; target = x }

pub job_is : (v w : Viewing) (k l : Known) (number : ℕ) (p q : Passed) (r : Rule) (part : List Rule) (t : Target) → l ≡ k → q ≡ p → w ≡ v
    → t ≡ target_of v q.edit → r ≡ edited q.edit → part ≡ slice r.matching (expected_in l.now) → task-of w l number q part t ≡ job_of v k number p
job_is v w k l number p q r part t a b s x e i =
    ap (λ (y : Viewing). task-of y l number q part t) s
    ∙ (ap (λ (y : List Rule). task-of v l number q y t) (i ∙ sliced-is v q.edit r (expected_in l.now) e)
    ∙ (ap (λ (y : Target). task-of v l number q (slice (updated (target_of v q.edit)).matching (expected_in l.now)) y) x
    ∙ (ap (λ (y : Known). job_of v y number q) a ∙ ap (λ (y : Passed). job_of v k number y) b)))

-- one after the other -------------------------------------------------------------

-- a job that is next is an edit's
edit-next : (b : Bool) (t j : Task) → cond b None (Some t) ≡ Some j → b ≡ false
edit-next true t j e = absurd (let f : ⊥ = cc in f)
edit-next false t j e = refl

job-next : (b : Bool) (t j : Task) → cond b None (Some t) ≡ Some j → t ≡ j
job-next true t j e = absurd (let f : ⊥ = cc in f)
job-next false t j e = cc

not-zero-at : (v : Viewing) (k : Known) (number : ℕ) (p : Option Passed) (j : Task) → job_for v k number p ≡ Some j → (j.edit == 0) ≡ false
not-zero-at v k number None j e = absurd (let f : ⊥ = cc in f)
not-zero-at v k number (Some p) j e =
    ap (λ (t : Task). t.edit == 0) (sym (job-next (p.number == 0) (job_of v k number p) j e)) ∙ edit-next (p.number == 0) (job_of v k number p) j e

not-zero : (v : Option Viewing) (k : Known) (number : ℕ) (j : Task) → next_job v k number ≡ Some j → (j.edit == 0) ≡ false
not-zero None k number j e = absurd (let f : ⊥ = cc in f)
not-zero (Some v) k number j e = not-zero-at v k number (edit_at k.now.unsettled (wanted k.now)) j e

offer-walk : (run : Run) (k : Known) (j : Task) → (j.edit == 0) ≡ false → with_offer (Some j) k ≡ walks run k (offer_of j ∷ [])
offer-walk run k j z = rw z refl

-- so many jobs were offered, and there is still room
pub record SoFar (v : Option Viewing) (left : ℕ) (k l : Known) (n m : Numbers) (jobs new all : List Task) : Type 0 where
  pub done : List Task
  pub rest : done ++ jobs_for v left l m.job ≡ all
  pub walk : (run : Run) → l ≡ walks run k (map offer_of done)
  pub offers : new ≡ jobs ++ done
  pub numbers : m ≡ record n { job = n.job + length done }

number-same : (n : Numbers) → n ≡ record n { job = n.job + 0 }
number-same n = let e : n.job + 0 ≡ n.job = omega arith in ap (λ (x : ℕ). record n { job = x }) (sym e)

pub none_yet : (v : Option Viewing) (room : ℕ) (k : Known) (n : Numbers) (jobs : List Task) → SoFar v room k k n n jobs jobs (jobs_for v room k n.job)
none_yet v room k n jobs =
    record { done = []; rest = refl; walk = λ run. refl; offers = sym (append-nil jobs); numbers = number-same n }

map-on : (xs ys : List Task) → map offer_of (xs ++ ys) ≡ map offer_of xs ++ map offer_of ys
map-on [] ys = refl
map-on (x ∷ xs) ys = ap (λ os. offer_of x ∷ os) (map-on xs ys)

number-more : (n m o : Numbers) (d : ℕ) → m ≡ record n { job = n.job + d } → o ≡ record m { job = m.job + 1 } → o ≡ record n { job = n.job + (d + 1) }
number-more n m o d e f =
    let more : n.job + d + 1 ≡ n.job + (d + 1) = omega arith in
    f ∙ (ap (λ (x : Numbers). record x { job = x.job + 1 }) e ∙ ap (λ (x : ℕ). record n { job = x }) more)

-- one more is offered
one-more : (v : Option Viewing) (left : ℕ) (k l h : Known) (n m o : Numbers) (jobs new newer all : List Task) (j : Task)
    → SoFar v (suc left) k l n m jobs new all → next_job v l (m.job + 1) ≡ Some j
    → h ≡ with_offer (Some j) l → newer ≡ new ++ j ∷ [] → o ≡ record m { job = m.job + 1 } → SoFar v left k h n o jobs newer all
one-more v left k l h n m o jobs new newer all j s is w f g =
    let z : (j.edit == 0) ≡ false = not-zero v l (m.job + 1) j is in
    record {
      done = s.done ++ j ∷ [];
      rest = ap (λ (x : Known). (s.done ++ j ∷ []) ++ jobs_for v left x o.job) w
          ∙ (ap (λ (x : Numbers). (s.done ++ j ∷ []) ++ jobs_for v left (with_offer (Some j) l) x.job) g
          ∙ (append_assoc s.done (j ∷ []) (jobs_for v left (with_offer (Some j) l) (m.job + 1))
          ∙ (ap (λ (x : Option Task). s.done ++ and_later x (jobs_for v left (with_offer x l) (m.job + 1))) (sym is) ∙ s.rest)));
      walk = λ run. w ∙ (offer-walk run l j z ∙ (ap (λ (x : Known). walks run x (offer_of j ∷ [])) (s.walk run)
          ∙ (sym (walks_on run k (map offer_of s.done) (offer_of j ∷ [])) ∙ ap (walks run k) (sym (map-on s.done (j ∷ []))))));
      offers = f ∙ (ap (λ (ts : List Task). ts ++ j ∷ []) s.offers ∙ append_assoc jobs s.done (j ∷ []));
      numbers = number-more n m o (length s.done) s.numbers g ∙ ap (λ (x : ℕ). record n { job = n.job + x }) (sym (length-append s.done (j ∷ [])));
    }

pub more_offered : (v : Option Viewing) (room left : ℕ) (k l h : Known) (n m o : Numbers) (jobs new newer all : List Task)
    → room ≡ suc left → SoFar v room k l n m jobs new all → true ≡ is_some (next_job v l (m.job + 1))
    → h ≡ with_offer (next_job v l (m.job + 1)) l → newer ≡ new ++ and_later (next_job v l (m.job + 1)) []
    → o ≡ last_after (next_job v l (m.job + 1)) m → SoFar v left k h n o jobs newer all
more_offered v room left k l h n m o jobs new newer all r s some w f g =
    let t : SoFar v (suc left) k l n m jobs new all = subst (λ (x : ℕ). SoFar v x k l n m jobs new all) r s in
    elim (next_job v l (m.job + 1)) as (λ x. next_job v l (m.job + 1) ≡ x → true ≡ is_some x → h ≡ with_offer x l → newer ≡ new ++ and_later x [] → o ≡ last_after x m → SoFar v left k h n o jobs newer all) [
      | None ↦ λ is y. absurd (false≢true (sym y))
      | Some j ↦ λ is y a b e. one-more v left k l h n m o jobs new newer all j t is a b e
    ] refl some w f g

-- the end ------------------------------------------------------------------------

rest-none : (v : Option Viewing) (left : ℕ) (l : Known) (last : ℕ) → next_job v l (last + 1) ≡ None → jobs_for v left l last ≡ []
rest-none v zero l last e = refl
rest-none v (suc left) l last e = ap (λ (x : Option Task). and_later x (jobs_for v left (with_offer x l) (last + 1))) e

all-done : (v : Option Viewing) (left : ℕ) (k l : Known) (n m : Numbers) (jobs new all : List Task) (s : SoFar v left k l n m jobs new all)
    → jobs_for v left l m.job ≡ [] → s.done ≡ all
all-done v left k l n m jobs new all s e = sym (append-nil s.done) ∙ (ap (λ (ts : List Task). s.done ++ ts) (sym e) ∙ s.rest)

-- what was offered is all for which there was room
pub record Offered (k l : Known) (n m : Numbers) (jobs new all : List Task) : Type 0 where
  pub walk : (run : Run) → l ≡ walks run k (map offer_of all)
  pub offers : new ≡ jobs ++ all
  pub numbers : m ≡ record n { job = n.job + length all }

offered-all : (v : Option Viewing) (left : ℕ) (k l : Known) (n m : Numbers) (jobs new all : List Task) → SoFar v left k l n m jobs new all
    → jobs_for v left l m.job ≡ [] → Offered k l n m jobs new all
offered-all v left k l n m jobs new all s none =
    let e : s.done ≡ all = all-done v left k l n m jobs new all s none in
    record {
      walk = λ run. s.walk run ∙ ap (λ (ts : List Task). walks run k (map offer_of ts)) e;
      offers = s.offers ∙ ap (λ (ts : List Task). jobs ++ ts) e;
      numbers = s.numbers ∙ ap (λ (ts : List Task). record n { job = n.job + length ts }) e;
    }

pub no_room : (v : Option Viewing) (left : ℕ) (k l : Known) (n m : Numbers) (jobs new all : List Task) → left ≡ 0 → SoFar v left k l n m jobs new all
    → Offered k l n m jobs new all
no_room v left k l n m jobs new all z s = offered-all v left k l n m jobs new all s (ap (λ (x : ℕ). jobs_for v x l m.job) z)

is-none : (o : Option Task) → false ≡ is_some o → o ≡ None
is-none None e = refl
is-none (Some j) e = absurd (false≢true e)

-- none is offered where no edit wants one
pub none_offered : (v : Option Viewing) (left : ℕ) (k l h : Known) (n m o : Numbers) (jobs new newer all : List Task)
    → SoFar v left k l n m jobs new all → false ≡ is_some (next_job v l (m.job + 1))
    → h ≡ with_offer (next_job v l (m.job + 1)) l → newer ≡ new ++ and_later (next_job v l (m.job + 1)) [] → o ≡ last_after (next_job v l (m.job + 1)) m
    → Offered k h n o jobs newer all
none_offered v left k l h n m o jobs new newer all s none w f g =
    let e : next_job v l (m.job + 1) ≡ None = is-none (next_job v l (m.job + 1)) none in
    let now : h ≡ l = w ∙ ap (λ (x : Option Task). with_offer x l) e in
    let same : newer ≡ new = f ∙ (ap (λ (x : Option Task). new ++ and_later x []) e ∙ append-nil new) in
    let stays : o ≡ m = g ∙ ap (λ (x : Option Task). last_after x m) e in
    subst (λ (x : Known). Offered k x n o jobs newer all) (sym now)
    (subst (λ (x : List Task). Offered k l n o jobs x all) (sym same)
    (subst (λ (x : Numbers). Offered k l n x jobs new all) (sym stays)
    (offered-all v left k l n m jobs new all s (rest-none v left l m.job e))))

take-front : (xs ys : List Task) → take (length xs) (xs ++ ys) ≡ xs
take-front [] ys = refl
take-front (x ∷ xs) ys = ap (λ zs. x ∷ zs) (take-front xs ys)

rest-some : (v : Option Viewing) (left : ℕ) (l : Known) (last : ℕ) → true ≡ is_some (next_job v l (last + 1)) → 0 < length (jobs_for v (suc left) l last)
rest-some v left l last some =
    elim (next_job v l (last + 1)) as (λ x. true ≡ is_some x → 0 < length (and_later x (jobs_for v left (with_offer x l) (last + 1)))) [
      | None ↦ λ y. absurd (false≢true (sym y))
      | Some j ↦ λ y. omega arith
    ] some

-- there is no number for the next one
pub used_up : (v : Option Viewing) (room left : ℕ) (k l : Known) (n m o : Numbers) (jobs new newer all : List Task) → room ≡ suc left
    → SoFar v room k l n m jobs new all → true ≡ is_some (next_job v l (m.job + 1)) → newer ≡ new → o ≡ m → m.job + 1 ≡ 2 ^ 64
    → UsedUp all n o jobs newer
used_up v room left k l n m o jobs new newer all r s some f g last =
    let t : SoFar v (suc left) k l n m jobs new all = subst (λ (x : ℕ). SoFar v x k l n m jobs new all) r s in
    let long : length (t.done ++ jobs_for v (suc left) l m.job) ≡ length all = ap length t.rest in
    record {
      done = length t.done;
      more = omega (arith, long, length-append t.done (jobs_for v (suc left) l m.job), rest-some v left l m.job some);
      offers = f ∙ (t.offers ∙ ap (λ (ts : List Task). jobs ++ ts) (sym (take-front t.done (jobs_for v (suc left) l m.job)) ∙ ap (take (length t.done)) t.rest));
      numbers = g ∙ t.numbers;
      last = ap (λ (x : Numbers). x.job + 1) g ∙ last;
    }
