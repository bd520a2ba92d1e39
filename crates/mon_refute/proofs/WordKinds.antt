-- Literals and hints as words.
use Rattle.std.proofs.Common.{◌≡◌, ℕ, ◌+◌, ◌<◌, refl, ap, Option, Some, None, arith}
use Rattle.mon_cnf.specs.declared.clause.Lit.{Lit}
use Rattle.mon_refute.specs.declared.number.Word.{Word}
use Rattle.mon_refute.specs.Text.{FitsLiteral, FitsHint}
use Rattle.mon_refute.specs.Reading.{literal_word, hint_word, FitsSome, FitsWord}
use Rattle.mon_refute.proofs.Readings.{lit_is}

number_of : (v w : Word) → v ≡ w → v.number ≡ w.number
number_of v w e = ap (λ (x : Word). x.number) e

sign_of : (v w : Word) → v ≡ w → v.positive ≡ w.positive
sign_of v w e = ap (λ (x : Word). x.positive) e

pub literal_fits : (x : Option Lit) → FitsSome FitsLiteral x → FitsWord (literal_word x)
literal_fits None f = omega arith
literal_fits (Some l) f = omega arith

pub literal_same : (x y : Option Lit) → FitsSome FitsLiteral x → FitsSome FitsLiteral y → literal_word x ≡ literal_word y → x ≡ y
literal_same None None f g e = refl
literal_same None (Some k) f g e = let n : 0 ≡ k.var + 1 = number_of _ _ e in absurd (omega arith)
literal_same (Some l) None f g e = let n : l.var + 1 ≡ 0 = number_of _ _ e in absurd (omega arith)
literal_same (Some l) (Some k) f g e = let n : l.var + 1 ≡ k.var + 1 = number_of _ _ e in ap Some (lit_is l k (omega arith) (sign_of _ _ e))

pub hint_fits : (x : Option ℕ) → FitsSome FitsHint x → FitsWord (hint_word x)
hint_fits None f = omega arith
hint_fits (Some h) f = f.1

pub hint_same : (x y : Option ℕ) → FitsSome FitsHint x → FitsSome FitsHint y → hint_word x ≡ hint_word y → x ≡ y
hint_same None None f g e = refl
hint_same None (Some k) f g e = let n : 0 ≡ k = number_of _ _ e in let p : 0 < k = g.0 in absurd (omega arith)
hint_same (Some h) None f g e = let n : h ≡ 0 = number_of _ _ e in let p : 0 < h = f.0 in absurd (omega arith)
hint_same (Some h) (Some k) f g e = ap Some (number_of _ _ e)
