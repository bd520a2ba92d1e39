-- Which variables are seen.
use Rattle.std.specs.Prelude.{◌≡◌, ◌≢◌, ℕ, Bool, true, false, ◌⊎◌, List, length, slice_index_or}
use Rattle.mon_list.specs.Has.{Has}
use Rattle.mon_cnf.specs.declared.clause.Lit.{Lit}

abbrev pub is_seen : List Bool → ℕ → Bool
is_seen flags x = slice_index_or flags x false

-- each variable that is seen is among these
pub record AreListed (flags : List Bool) (vars : List ℕ) : Type 0 where
  pub each : (x : ℕ) → is_seen flags x ≡ true → Has vars x

-- the variables of the clause came to what is seen, and to the list, but for one
pub record Noted (old : List Bool) (had : List ℕ) (c : List Lit) (x : ℕ) (new : List Bool) (has : List ℕ) : Type 0 where
  pub kept : (y : ℕ) → is_seen old y ≡ true → is_seen new y ≡ true
  pub added : (k : Lit) → Has c k → k.var ≢ x → is_seen new k.var ≡ true
  pub only : (y : ℕ) → is_seen new y ≡ true → (is_seen old y ≡ true) ⊎ ((k : Lit) × Has c k × (k.var ≢ x) × (y ≡ k.var))
  pub listed : AreListed old had → AreListed new has
  pub sized : length new ≡ length old
