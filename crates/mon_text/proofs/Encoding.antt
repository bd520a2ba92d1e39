-- The digits of `hex` are those that are defined here.
use Rattle.std.proofs.Common.{◌≡◌, ℕ, zero, suc, ◌/◌, ◌%◌, ◌<◌, refl, ap, ◌∙◌, List, [], ◌∷◌, ◌++◌, Result, Ok, Err, OnOk, arith}
use Rattle.std.specs.Prelude.{slice_index, is_ok, if◌then◌else◌}
use Rattle.hex.specs.Hex.{lower_digits, encode_lower, encode_with}
use Rattle.mon_text.specs.Hex.{hex, hex_digit, AllBytes}

same_digit : (d : ℕ) → d < 16 → slice_index lower_digits d ≡ hex_digit d
same_digit zero h = refl
same_digit (suc zero) h = refl
same_digit (suc (suc zero)) h = refl
same_digit (suc (suc (suc zero))) h = refl
same_digit (suc (suc (suc (suc zero)))) h = refl
same_digit (suc (suc (suc (suc (suc zero))))) h = refl
same_digit (suc (suc (suc (suc (suc (suc zero)))))) h = refl
same_digit (suc (suc (suc (suc (suc (suc (suc zero))))))) h = refl
same_digit (suc (suc (suc (suc (suc (suc (suc (suc zero)))))))) h = refl
same_digit (suc (suc (suc (suc (suc (suc (suc (suc (suc zero))))))))) h = refl
same_digit (suc (suc (suc (suc (suc (suc (suc (suc (suc (suc zero)))))))))) h = refl
same_digit (suc (suc (suc (suc (suc (suc (suc (suc (suc (suc (suc zero))))))))))) h = refl
same_digit (suc (suc (suc (suc (suc (suc (suc (suc (suc (suc (suc (suc zero)))))))))))) h = refl
same_digit (suc (suc (suc (suc (suc (suc (suc (suc (suc (suc (suc (suc (suc zero))))))))))))) h = refl
same_digit (suc (suc (suc (suc (suc (suc (suc (suc (suc (suc (suc (suc (suc (suc zero)))))))))))))) h = refl
same_digit (suc (suc (suc (suc (suc (suc (suc (suc (suc (suc (suc (suc (suc (suc (suc zero))))))))))))))) h = refl
same_digit (suc (suc (suc (suc (suc (suc (suc (suc (suc (suc (suc (suc (suc (suc (suc (suc d)))))))))))))))) h = absurd (omega (arith, h))

two_digits : (a b c d : ℕ) (xs ys : List ℕ) → a ≡ b → c ≡ d → xs ≡ ys → a ∷ c ∷ xs ≡ b ∷ d ∷ ys
two_digits a b c d xs ys e f g = cc

pub encoded : (bytes : List ℕ) → AllBytes bytes → encode_lower bytes ≡ hex bytes
unfolding encode_with
encoded [] all = refl
encoded (byte ∷ bytes) all = two_digits _ _ _ _ _ _ (same_digit (byte / 16) (omega (arith, all.0))) (same_digit (byte % 16) (omega arith)) (encoded bytes all.1)

-- digits that were appended, if memory sufficed
pub appended : {A E : Type 0} (r : Result A E) (old new more digits : List ℕ) → new ≡ (if is_ok r then old ++ more else old) → more ≡ digits → OnOk r (new ≡ old ++ digits)
appended (Ok done) old new more digits e same = e ∙ ap (λ xs. old ++ xs) same
appended (Err fault) old new more digits e same = tt
