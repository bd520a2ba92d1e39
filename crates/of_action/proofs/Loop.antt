-- The loop over the actions: one more is read, one is faulty, or none is left.
use Rattle.std.proofs.Common.{◌≡◌, ℕ, zero, suc, ◌+◌, ◌-◌, ◌<◌, ◌≤◌, Bool, true, false, cond, List, [], ◌∷◌, ◌++◌, length, take, drop, Result, Ok, Err, refl, sym, ap, ◌∙◌, append_assoc, arith}
use Rattle.std.proofs.lemmas.List.{append-nil, length-drop, drop-drop, drop_all}
use Rattle.mon_header.specs.declared.action.Action.{Action}
use Rattle.of_action.specs.Reading.{len_of, is_faulty, action_of, before, actions_from}
use Rattle.of_action.proofs.Front.{front}

-- actions that were read, before those that are still to be read
abbrev pub onto : List Action → Result (List Action) ℕ → Result (List Action) ℕ
onto actions (Ok more) = Ok (actions ++ more)
onto actions (Err place) = Err place

pub onto-before : (actions : List Action) (action : Action) (read : Result (List Action) ℕ) → onto actions (before action read) ≡ onto (actions ++ action ∷ []) read
onto-before actions action (Ok more) = ap (λ (all : List Action). Ok all) (sym (append_assoc actions (action ∷ []) more))
onto-before actions action (Err place) = refl

-- the bytes of an action that was read are passed over
pub passed_over : (place rest : ℕ) (bytes : List ℕ) → rest ≤ length bytes → actions_from place rest bytes ≡ actions_from (place + rest) 0 (drop rest bytes)
passed_over place zero bytes le = let e : place ≡ place + 0 = omega arith in ap (λ (p : ℕ). actions_from p 0 bytes) e
passed_over place (suc rest) [] le = absurd (omega arith)
passed_over place (suc rest) (byte ∷ bytes) le =
    let e : suc place + rest ≡ place + suc rest = omega arith in
    passed_over (suc place) rest bytes (omega arith) ∙ ap (λ (p : ℕ). actions_from p 0 (drop rest bytes)) e

-- where the front is not faulty, its action comes first
pub first_read : (place : ℕ) (bytes : List ℕ) → is_faulty bytes ≡ false
    → actions_from place 0 bytes ≡ before (action_of (take (len_of bytes) bytes)) (actions_from (place + len_of bytes) 0 (drop (len_of bytes) bytes))
first_read place [] e = let f = front [] e in absurd (omega (arith, f.least, f.within))
first_read place (byte ∷ bytes) e =
    let f = front (byte ∷ bytes) e in
    let len = len_of (byte ∷ bytes) in
    let back : suc (len - 1) ≡ len = omega (arith, f.least) in
    let forth : suc place + (len - 1) ≡ place + len = omega (arith, f.least) in
    let rest : actions_from (suc place) (len - 1) bytes ≡ actions_from (place + len) 0 (drop len (byte ∷ bytes)) =
    passed_over (suc place) (len - 1) bytes (omega (arith, f.least, f.within))
    ∙ ap (λ (p : ℕ). actions_from p 0 (drop (len - 1) bytes)) forth
    ∙ ap (λ (n : ℕ). actions_from (place + len) 0 (drop n (byte ∷ bytes))) back in
    ap (λ (faulty : Bool). cond faulty (Err place) (before (action_of (take len (byte ∷ bytes))) (actions_from (suc place) (len - 1) bytes))) e
    ∙ ap (before (action_of (take len (byte ∷ bytes)))) rest

-- one action more
pub goes_on : (actions new : List Action) (action : Action) (place len : ℕ) (rest bytes : List ℕ) (read : Result (List Action) ℕ)
    → rest ≡ drop place bytes → is_faulty rest ≡ false → len ≡ len_of rest → action ≡ action_of (take len rest) → new ≡ actions ++ action ∷ []
    → onto actions (actions_from place 0 (drop place bytes)) ≡ read → onto new (actions_from (place + len) 0 (drop (place + len) bytes)) ≡ read
goes_on actions new action place len rest bytes read left faulty n a pushed told =
    let later : drop (place + len) bytes ≡ drop len rest = sym (ap (drop len) left ∙ drop-drop len place bytes) in
    let first : actions_from place 0 (drop place bytes) ≡ before action (actions_from (place + len) 0 (drop len rest)) =
    rw (← left, a, n) (first_read place rest faulty) in
    ap (λ (all : List Action). onto all (actions_from (place + len) 0 (drop (place + len) bytes))) pushed
    ∙ sym (onto-before actions action (actions_from (place + len) 0 (drop (place + len) bytes)))
    ∙ ap (λ (bs : List ℕ). onto actions (before action (actions_from (place + len) 0 bs))) later
    ∙ ap (onto actions) (sym first)
    ∙ told

-- a faulty front is where the reading ends
pub faulty : (place : ℕ) (bytes : List ℕ) → 0 < length bytes → is_faulty bytes ≡ true → actions_from place 0 bytes ≡ Err place
faulty place [] lt e = absurd (omega arith)
faulty place (byte ∷ bytes) lt e = rw e refl

-- a faulty front ends the reading
pub ends : (actions : List Action) (place : ℕ) (bytes : List ℕ) (read : Result (List Action) ℕ) → place < length bytes → is_faulty (drop place bytes) ≡ true
    → onto actions (actions_from place 0 (drop place bytes)) ≡ read → read ≡ Err place
ends actions place bytes read lt e told = sym told ∙ ap (onto actions) (faulty place (drop place bytes) (omega (arith, length-drop place bytes)) e)

-- no byte is left
pub is_done : (actions : List Action) (place : ℕ) (bytes : List ℕ) (read : Result (List Action) ℕ) → length bytes ≤ place
    → onto actions (actions_from place 0 (drop place bytes)) ≡ read → read ≡ Ok actions
is_done actions place bytes read le told =
    let none : actions_from place 0 (drop place bytes) ≡ Ok [] = ap (actions_from place 0) (drop_all place bytes le) in
    sym told ∙ ap (onto actions) none ∙ ap (λ (all : List Action). Ok all) (append-nil actions)
