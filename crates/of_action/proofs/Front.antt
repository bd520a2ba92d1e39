-- What a front that is not faulty says of the action there.
use Rattle.std.proofs.Common.{◌≡◌, ◌≢◌, ℕ, ◌-◌, ◌%◌, ◌≤◌, Bool, true, false, not, ◌||◌, List, length, take, refl, sym, ◌∙◌, arith}
use Rattle.std.specs.Prelude.{nat_lt, ◌==◌}
use Rattle.std.proofs.lemmas.Bool.{ltb-false, eqb-false, eqb-true, not-false}
use Rattle.std.proofs.lemmas.List.{length-take}
use Rattle.of_action.specs.Reading.{kind_of, len_of, has_its_length, is_faulty, IsAction}
use Rattle.mon_fields.proofs.Within.{number_at-take}

both_false : (a b : Bool) → (a || b) ≡ false → (a ≡ false) × (b ≡ false)
both_false false false e = (refl, refl)
both_false false true e = absurd cc
both_false true b e = absurd cc

-- the whole action at the front
pub record Front (bytes : List ℕ) : Type 0 where
  pub least : 8 ≤ len_of bytes
  pub within : len_of bytes ≤ length bytes
  pub action : IsAction (take (len_of bytes) bytes)

pub front : (bytes : List ℕ) → is_faulty bytes ≡ false → Front bytes
unfolding is_faulty
front bytes e =
    let len = len_of bytes in
    let right = has_its_length (kind_of bytes) len in
    let a = both_false (nat_lt (length bytes) 4) ((len == 0) || (not (len % 8 == 0) || (nat_lt (length bytes) len || not right))) e in
    let b = both_false (len == 0) (not (len % 8 == 0) || (nat_lt (length bytes) len || not right)) a.1 in
    let c = both_false (not (len % 8 == 0)) (nat_lt (length bytes) len || not right) b.1 in
    let d = both_false (nat_lt (length bytes) len) (not right) c.1 in
    let some : len ≢ 0 = eqb-false len 0 b.0 in
    let whole : len % 8 ≡ 0 = eqb-true (len % 8) 0 (not-false (len % 8 == 0) c.0) in
    let within : len ≤ length bytes = ltb-false (length bytes) len d.0 in
    let least : 8 ≤ len = omega arith in
    let cut : length (take len bytes) ≡ len = omega (arith, length-take len bytes) in
    record {
      least = least;
      within = within;
      action = record {
        header = omega arith;
        exact = number_at-take 2 2 len bytes (omega arith) ∙ sym cut;
        whole = rw cut whole;
        right = rw (cut, number_at-take 2 0 len bytes (omega arith)) (not-false right d.1);
      };
    }
