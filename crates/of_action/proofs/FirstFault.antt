-- A fault is at the first faulty place, and only there.
use Rattle.std.proofs.Common.{◌≡◌, ℕ, zero, suc, ◌+◌, ◌-◌, ◌<◌, ◌≤◌, ◌⊎◌, inl, inr, Bool, true, false, cond, List, [], ◌∷◌, ◌++◌, length, take, drop, Result, Ok, Err, refl, sym, ap, subst, ◌∙◌, arith}
use Rattle.std.proofs.lemmas.List.{take-append-drop, take-append-le, take-take, length-take, length-drop}
use Rattle.mon_header.specs.declared.action.Action.{Action}
use Rattle.of_action.specs.Reading.{len_of, is_faulty, IsAction, action_of, before, actions_from, actions_of, IsFirstFault}
use Rattle.of_action.proofs.Front.{front}
use Rattle.of_action.proofs.Loop.{onto, faulty}
use Rattle.of_action.proofs.RoundTrip.{whole_not_faulty}
use Rattle.mon_fields.proofs.Within.{number_at-take}

-- bytes that begin with the same whole action
begins_alike : (bytes others : List ℕ) → is_faulty bytes ≡ false → take (len_of bytes) others ≡ take (len_of bytes) bytes
    → (is_faulty others ≡ false) × (len_of others ≡ len_of bytes)
begins_alike bytes others whole same =
    let f = front bytes whole in
    let len = len_of bytes in
    let action : IsAction (take len others) = subst (λ (bs : List ℕ). IsAction bs) (sym same) f.action in
    let parts : take len others ++ drop len others ≡ others = take-append-drop len others in (
      ap is_faulty (sym parts) ∙ whole_not_faulty (take len others) (drop len others) action,
      sym (number_at-take 2 2 len others (omega (arith, f.least))) ∙ ap len_of same ∙ number_at-take 2 2 len bytes (omega (arith, f.least)),
    )

-- what is read of bytes that begin with a whole action
unrolled : (place byte : ℕ) (bytes others : List ℕ) → is_faulty (byte ∷ bytes) ≡ false → take (len_of (byte ∷ bytes)) (byte ∷ others) ≡ take (len_of (byte ∷ bytes)) (byte ∷ bytes)
    → actions_from place 0 (byte ∷ others) ≡ before (action_of (take (len_of (byte ∷ bytes)) (byte ∷ bytes))) (actions_from (suc place) (len_of (byte ∷ bytes) - 1) others)
unrolled place byte bytes others whole same =
    let len = len_of (byte ∷ bytes) in
    let alike = begins_alike (byte ∷ bytes) (byte ∷ others) whole same in
    ap (λ (faulty : Bool). cond faulty (Err place) (before (action_of (take (len_of (byte ∷ others)) (byte ∷ others))) (actions_from (suc place) (len_of (byte ∷ others) - 1) others))) alike.0
    ∙ ap (λ (n : ℕ). before (action_of (take n (byte ∷ others))) (actions_from (suc place) (n - 1) others)) alike.1
    ∙ ap (λ (bs : List ℕ). before (action_of bs) (actions_from (suc place) (len - 1) others)) same

abbrev all_read : List Action → Result (List Action) ℕ
all_read actions = Ok actions

same_read : (xs ys : List Action) → all_read xs ≡ all_read ys → xs ≡ ys
same_read xs ys e = cc

onto-nothing : (read : Result (List Action) ℕ) → onto [] read ≡ read
onto-nothing (Ok actions) = refl
onto-nothing (Err place) = refl

before-onto : (action : Action) (actions : List Action) (read : Result (List Action) ℕ) → before action (onto actions read) ≡ onto (action ∷ actions) read
before-onto action actions (Ok more) = refl
before-onto action actions (Err place) = refl

not_refused : (faulty : Bool) (place : ℕ) (read : Result (List Action) ℕ) (actions : List Action) → cond faulty (Err place) read ≡ Ok actions → (faulty ≡ false) × (read ≡ Ok actions)
not_refused true place read actions e = absurd cc
not_refused false place read actions e = (refl, e)

refused_here : (faulty : Bool) (place at : ℕ) (read : Result (List Action) ℕ) → cond faulty (Err place) read ≡ Err at
    → ((faulty ≡ true) × (place ≡ at)) ⊎ ((faulty ≡ false) × (read ≡ Err at))
refused_here true place at read e = inl (refl, cc)
refused_here false place at read e = inr (refl, e)

ok_behind : (action : Action) (read : Result (List Action) ℕ) (actions : List Action) → before action read ≡ Ok actions → (more : List Action) × (read ≡ Ok more) × (action ∷ more ≡ actions)
ok_behind action (Ok more) actions e = (more, refl, cc)
ok_behind action (Err place) actions e = absurd cc

err_behind : (action : Action) (read : Result (List Action) ℕ) (at : ℕ) → before action read ≡ Err at → read ≡ Err at
err_behind action (Ok more) at e = absurd cc
err_behind action (Err place) at e = e

-- what is read of bytes behind whole actions
joined : (place rest : ℕ) (bytes more : List ℕ) (actions : List Action) → rest ≤ length bytes → actions_from place rest bytes ≡ Ok actions
    → actions_from place rest (bytes ++ more) ≡ onto actions (actions_from (place + length bytes) 0 more)
joined place zero [] more actions le e =
    let here : place ≡ place + 0 = omega arith in
    ap (λ (p : ℕ). actions_from p 0 more) here
    ∙ sym (onto-nothing (actions_from (place + 0) 0 more))
    ∙ ap (λ (all : List Action). onto all (actions_from (place + 0) 0 more)) (same_read [] actions e)
joined place (suc rest) [] more actions le e = absurd (omega arith)
joined place (suc rest) (byte ∷ bytes) more actions le e =
    let there : suc place + length bytes ≡ place + suc (length bytes) = omega arith in
    joined (suc place) rest bytes more actions (omega arith) e ∙ ap (λ (p : ℕ). onto actions (actions_from p 0 more)) there
joined place zero (byte ∷ bytes) more actions le e =
    let len = len_of (byte ∷ bytes) in
    let action = action_of (take len (byte ∷ bytes)) in
    let a = not_refused (is_faulty (byte ∷ bytes)) place (before action (actions_from (suc place) (len - 1) bytes)) actions e in
    let b = ok_behind action (actions_from (suc place) (len - 1) bytes) actions a.1 in
    let f = front (byte ∷ bytes) a.0 in
    let there : suc place + length bytes ≡ place + suc (length bytes) = omega arith in
    unrolled place byte bytes (bytes ++ more) a.0 (take-append-le len (byte ∷ bytes) more f.within)
    ∙ ap (before action) (joined (suc place) (len - 1) bytes more b.0 (omega (arith, f.least, f.within)) b.1)
    ∙ before-onto action b.0 (actions_from (suc place + length bytes) 0 more)
    ∙ ap (λ (all : List Action). onto all (actions_from (suc place + length bytes) 0 more)) b.2
    ∙ ap (λ (p : ℕ). onto actions (actions_from p 0 more)) there

-- where a reading ended: a step on, at a faulty front, behind whole actions
record EndsAt (place rest : ℕ) (bytes : List ℕ) (at : ℕ) : Type 0 where
  step : ℕ
  reached : at ≡ place + step
  enough : rest ≤ step
  within : step < length bytes
  faulty : is_faulty (drop step bytes) ≡ true
  actions : List Action
  whole : actions_from place rest (take step bytes) ≡ Ok actions

ends_at : (place rest : ℕ) (bytes : List ℕ) (at : ℕ) → rest ≤ length bytes → actions_from place rest bytes ≡ Err at → EndsAt place rest bytes at
ends_at place zero [] at le e = absurd cc
ends_at place (suc rest) [] at le e = absurd (omega arith)
ends_at place (suc rest) (byte ∷ bytes) at le e =
    let f = ends_at (suc place) rest bytes at (omega arith) e in
    record {
      step = suc f.step;
      reached = omega (arith, f.reached);
      enough = omega (arith, f.enough);
      within = omega (arith, f.within);
      faulty = f.faulty;
      actions = f.actions;
      whole = f.whole;
    }
ends_at place zero (byte ∷ bytes) at le e =
    let len = len_of (byte ∷ bytes) in
    let action = action_of (take len (byte ∷ bytes)) in
    elim (refused_here (is_faulty (byte ∷ bytes)) place at (before action (actions_from (suc place) (len - 1) bytes)) e) [
      | inl h ↦ record {
        step = 0;
        reached = omega (arith, h.1);
        enough = omega arith;
        within = omega arith;
        faulty = h.0;
        actions = [];
        whole = refl;
      }
      | inr h ↦
          let g = front (byte ∷ bytes) h.0 in
          let f = ends_at (suc place) (len - 1) bytes at (omega (arith, g.least, g.within)) (err_behind action (actions_from (suc place) (len - 1) bytes) at h.1) in
          record {
            step = suc f.step;
            reached = omega (arith, f.reached);
            enough = omega arith;
            within = omega (arith, f.within);
            faulty = f.faulty;
            actions = action ∷ f.actions;
            whole = unrolled place byte bytes (take f.step bytes) h.0 (take-take len (suc f.step) (byte ∷ bytes) (omega (arith, f.enough))) ∙ ap (before action) f.whole;
          }
    ]

pub is_first : (bytes : List ℕ) (place : ℕ) → actions_of bytes ≡ Err place → IsFirstFault bytes place
is_first bytes place e =
    let f = ends_at 0 0 bytes place (omega arith) e in
    let there : f.step ≡ place = omega (arith, f.reached) in
    record {
      within = omega (arith, f.within);
      faulty = ap (λ (n : ℕ). is_faulty (drop n bytes)) (sym there) ∙ f.faulty;
      actions = f.actions;
      whole = ap (λ (n : ℕ). actions_of (take n bytes)) (sym there) ∙ f.whole;
    }

pub only_first : (bytes : List ℕ) (place : ℕ) → IsFirstFault bytes place → actions_of bytes ≡ Err place
only_first bytes place f =
    let parts : take place bytes ++ drop place bytes ≡ bytes = take-append-drop place bytes in
    let long : length (take place bytes) ≡ place = omega (arith, length-take place bytes, f.within) in
    let some : 0 < length (drop place bytes) = omega (arith, length-drop place bytes, f.within) in
    ap actions_of (sym parts)
    ∙ joined 0 0 (take place bytes) (drop place bytes) f.actions (omega arith) f.whole
    ∙ ap (onto f.actions) (faulty (0 + length (take place bytes)) (drop place bytes) some f.faulty)
    ∙ (let there : 0 + length (take place bytes) ≡ place = omega (arith, long) in ap (λ (p : ℕ). Err p) there)
