-- Steps that gave something, and what they gave.
use Rattle.std.proofs.Common.{◌≡◌, ℕ, refl, ap, ◌∙◌, List}
use Rattle.std.specs.Prelude.{Option, Some, None, option_and_then, Result, Ok, Err}
use Rattle.mon_settings.specs.Members.{or_bad, and_then}

-- the first step's value, of which the second gave the answer
pub record Stepped {A B : Type 0} (r : Result A (List ℕ)) (next : A → Result B (List ℕ)) (b : B) : Type 0 where
  pub value : A
  pub first : r ≡ Ok value
  pub second : next value ≡ Ok b

pub stepped : {A B : Type 0} (r : Result A (List ℕ)) (next : A → Result B (List ℕ)) (b : B) → and_then r next ≡ Ok b → Stepped r next b
stepped (Err path) next b is = cc
stepped (Ok x) next b is = record { value = x; first = refl; second = is }

pub step : {A B : Type 0} (r : Result A (List ℕ)) (next : A → Result B (List ℕ)) (a : A) (b : B) → r ≡ Ok a → next a ≡ Ok b → and_then r next ≡ Ok b
step r next a b first second = ap (λ s. and_then s next) first ∙ second

pub and_then-same : {A B : Type 0} (r : Result A (List ℕ)) (f g : A → Result B (List ℕ)) → ((a : A) → f a ≡ g a) → and_then r f ≡ and_then r g
and_then-same (Err path) f g same = refl
and_then-same (Ok x) f g same = same x

-- the value that made an answer
pub record Chosen {A B : Type 0} (o : Option A) (next : A → Option B) (b : B) : Type 0 where
  pub value : A
  pub first : o ≡ Some value
  pub second : next value ≡ Some b

pub chosen : {A B : Type 0} (o : Option A) (next : A → Option B) (b : B) → option_and_then next o ≡ Some b → Chosen o next b
chosen None next b is = cc
chosen (Some x) next b is = record { value = x; first = refl; second = is }

pub choose : {A B : Type 0} (o : Option A) (next : A → Option B) (a : A) (b : B) → o ≡ Some a → next a ≡ Some b → option_and_then next o ≡ Some b
choose o next a b first second = ap (option_and_then next) first ∙ second

pub given : {A : Type 0} (path : List ℕ) (o : Option A) (x : A) → or_bad path o ≡ Ok x → o ≡ Some x
given path None x is = cc
given path (Some y) x is = let same : y ≡ x = cc in ap (λ z. Some z) same
