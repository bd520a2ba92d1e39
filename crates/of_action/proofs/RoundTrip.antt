-- What is spelled is read back.
use Rattle.std.proofs.Common.{◌≡◌, ℕ, ◌+◌, ◌%◌, ◌≤◌, true, false, not, ◌||◌, List, [], ◌∷◌, ◌++◌, length, take, drop, Ok, refl, ap, ◌∙◌, arith}
use Rattle.std.specs.Prelude.{nat_lt, ◌==◌}
use Rattle.std.proofs.lemmas.Bool.{lt-ltb, le-ltb, ne_eqb}
use Rattle.std.proofs.lemmas.List.{take_at, drop_at, length-append}
use Rattle.std.proofs.lemmas.List.Concat.{flat_map-cons}
use Rattle.byteorder.specs.Numbers.{big_number-reads_back}
use Rattle.mon_header.specs.declared.action.Action.{Action}
use Rattle.mon_header.specs.declared.action.Action.TheVariants.{Output, SetVlanVid, SetVlanPcp, StripVlan, SetDlSrc, SetDlDst, SetNwSrc, SetNwDst, SetNwTos, SetTpSrc, SetTpDst, Enqueue, Unknown}
use Rattle.mon_header.specs.Raw.{IsRawAction}
use Rattle.mon_header.specs.Actions.{FitsAction, AllFit}
use Rattle.of_action.specs.Layout.{spelled_action, spelled}
use Rattle.of_action.specs.Reading.{kind_of, len_of, has_its_length, is_faulty, IsAction, known_action, action_of, before, actions_from, actions_of}
use Rattle.mon_fields.proofs.Within.{number_at-front}
use Rattle.of_action.proofs.Loop.{first_read}

not_faulty : (all len kind : ℕ) → 8 ≤ len → len ≤ all → len % 8 ≡ 0 → has_its_length kind len ≡ true
    → (nat_lt all 4 || ((len == 0) || (not (len % 8 == 0) || (nat_lt all len || not (has_its_length kind len))))) ≡ false
not_faulty all len kind least within whole right =
    rw (le-ltb all 4 (omega arith), ne_eqb len 0 (omega arith), whole, le-ltb all len within, right) refl

-- a whole action is not faulty, whatever stands behind it
pub whole_not_faulty : (bytes rest : List ℕ) → IsAction bytes → is_faulty (bytes ++ rest) ≡ false
unfolding is_faulty
whole_not_faulty bytes rest p =
    let all = length-append bytes rest in
    let len : len_of (bytes ++ rest) ≡ length bytes = number_at-front 2 2 bytes rest (omega (arith, p.header)) ∙ p.exact in
    let kind : kind_of (bytes ++ rest) ≡ kind_of bytes = number_at-front 2 0 bytes rest (omega (arith, p.header)) in
    not_faulty (length (bytes ++ rest)) (len_of (bytes ++ rest)) (kind_of (bytes ++ rest)) (rw len p.header) (rw len (omega (arith, all))) (rw len p.whole)
    (rw (kind, len) p.right)

-- the unknown actions are those whose type stands above the table
unknown_kind : (bytes : List ℕ) → IsRawAction bytes → nat_lt 11 (kind_of bytes) ≡ true
unknown_kind bytes raw = lt-ltb 11 (kind_of bytes) raw.unknown

-- what is spelled is a whole action
spelled_whole : (action : Action) → FitsAction action → IsAction (spelled_action action)
spelled_whole (Output port max_len) fits = record { header = omega arith; exact = refl; whole = refl; right = refl }
spelled_whole (SetVlanVid vid) fits = record { header = omega arith; exact = refl; whole = refl; right = refl }
spelled_whole (SetVlanPcp pcp) fits = record { header = omega arith; exact = refl; whole = refl; right = refl }
spelled_whole StripVlan fits = record { header = omega arith; exact = refl; whole = refl; right = refl }
spelled_whole (SetDlSrc address) fits = record { header = omega arith; exact = refl; whole = refl; right = refl }
spelled_whole (SetDlDst address) fits = record { header = omega arith; exact = refl; whole = refl; right = refl }
spelled_whole (SetNwSrc address) fits = record { header = omega arith; exact = refl; whole = refl; right = refl }
spelled_whole (SetNwDst address) fits = record { header = omega arith; exact = refl; whole = refl; right = refl }
spelled_whole (SetNwTos tos) fits = record { header = omega arith; exact = refl; whole = refl; right = refl }
spelled_whole (SetTpSrc port) fits = record { header = omega arith; exact = refl; whole = refl; right = refl }
spelled_whole (SetTpDst port) fits = record { header = omega arith; exact = refl; whole = refl; right = refl }
spelled_whole (Enqueue port queue) fits = record { header = omega arith; exact = refl; whole = refl; right = refl }
spelled_whole (Unknown bytes) fits = record {
  header = fits.header;
  exact = fits.exact;
  whole = fits.whole;
  right = rw (unknown_kind bytes fits) refl;
}

-- the action of what is spelled
action_again : (action : Action) → FitsAction action → action_of (spelled_action action) ≡ action
unfolding known_action
action_again (Output port max_len) fits = rw (big_number-reads_back 2 port (drop 6 (spelled_action (Output port max_len))) fits.0, big_number-reads_back 2 max_len [] fits.1) refl
action_again (SetVlanVid vid) fits = rw (big_number-reads_back 2 vid (0 ∷ 0 ∷ []) fits) refl
action_again (SetVlanPcp pcp) fits = refl
action_again StripVlan fits = refl
action_again (SetDlSrc address) fits = rw (big_number-reads_back 6 address (drop 10 (spelled_action (SetDlSrc address))) fits) refl
action_again (SetDlDst address) fits = rw (big_number-reads_back 6 address (drop 10 (spelled_action (SetDlDst address))) fits) refl
action_again (SetNwSrc address) fits = rw (big_number-reads_back 4 address [] fits) refl
action_again (SetNwDst address) fits = rw (big_number-reads_back 4 address [] fits) refl
action_again (SetNwTos tos) fits = refl
action_again (SetTpSrc port) fits = rw (big_number-reads_back 2 port (0 ∷ 0 ∷ []) fits) refl
action_again (SetTpDst port) fits = rw (big_number-reads_back 2 port (0 ∷ 0 ∷ []) fits) refl
action_again (Enqueue port queue) fits = rw (big_number-reads_back 2 port (drop 6 (spelled_action (Enqueue port queue))) fits.0, big_number-reads_back 4 queue [] fits.1) refl
action_again (Unknown bytes) fits = rw (unknown_kind bytes fits) refl

-- one spelled action before other bytes
first_again : (place : ℕ) (action : Action) (rest : List ℕ) → FitsAction action
    → actions_from place 0 (spelled_action action ++ rest) ≡ before action (actions_from (place + length (spelled_action action)) 0 rest)
first_again place action rest fits =
    let bytes = spelled_action action in
    let p = spelled_whole action fits in
    let len : len_of (bytes ++ rest) ≡ length bytes = number_at-front 2 2 bytes rest (omega (arith, p.header)) ∙ p.exact in
    first_read place (bytes ++ rest) (whole_not_faulty bytes rest p)
    ∙ ap (λ (n : ℕ). before (action_of (take n (bytes ++ rest))) (actions_from (place + n) 0 (drop n (bytes ++ rest)))) len
    ∙ ap (λ (bs : List ℕ). before (action_of bs) (actions_from (place + length bytes) 0 (drop (length bytes) (bytes ++ rest)))) (take_at bytes rest (length bytes) refl)
    ∙ ap (λ (bs : List ℕ). before (action_of bytes) (actions_from (place + length bytes) 0 bs)) (drop_at bytes rest (length bytes) refl)
    ∙ ap (λ (a : Action). before a (actions_from (place + length bytes) 0 rest)) (action_again action fits)

again_from : (place : ℕ) (actions : List Action) → AllFit actions → actions_from place 0 (spelled actions) ≡ Ok actions
again_from place [] fit = refl
again_from place (action ∷ actions) fit =
    ap (actions_from place 0) (flat_map-cons spelled_action action actions)
    ∙ first_again place action (spelled actions) fit.0
    ∙ ap (before action) (again_from (place + length (spelled_action action)) actions fit.1)

pub again : (actions : List Action) → AllFit actions → actions_of (spelled actions) ≡ Ok actions
again actions fit = again_from 0 actions fit
