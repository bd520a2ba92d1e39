-- Calls behind others.
use Rattle.std.proofs.Common.{◌≡◌, ℕ, Bool, false, Result, Err, is_ok, List, [], ◌∷◌, ◌++◌, Option, Some, None, inl, inr, refl, sym, ap, subst, ◌∙◌, append_assoc}
use Rattle.mon_world.specs.declared.calls.Call.{Call}
use Rattle.mon_world.specs.Files.{with_more, Adds, SaidOrLost}
use Rattle.monocle.specs.Calls.{said_by, Quiet, Called}

with-none : (a : List Call) (x : Option (List Call)) → x ≡ None → with_more a x ≡ None
with-none a x e = ap (with_more a) e

with-both : (a b : List Call) (x : Option (List Call)) → with_more b (with_more a x) ≡ with_more (a ++ b) x
with-both a b None = refl
with-both a b (Some told) = ap (λ (calls : List Call). Some calls) (append_assoc told a b)

pub adds-behind : (a b : List Call) (x y z : Option (List Call)) → Adds a x y → Adds b y z → Adds (a ++ b) x z
adds-behind a b x y z first (inr none) = inr none
adds-behind a b x y z (inr none) (inl next) = inr (next ∙ with-none b y none)
adds-behind a b x y z (inl first) (inl next) = inl (next ∙ ap (with_more b) first ∙ with-both a b x)

pub quiet-behind : (a b : List Call) (s t u : Option (List ℕ)) (x y z : Option (List Call)) → Quiet a s t x y → Quiet b t u y z → Quiet (a ++ b) s u x z
quiet-behind a b s t u x y z first next = record {
  silent = next.silent ∙ first.silent;
  told = adds-behind a b x y z first.told next.told;
}

-- what is called behind quiet calls
pub called-behind : {a : List Call} {P Q : List Call → Type 0} {s t u : Option (List ℕ)} {x y z : Option (List Call)}
    → Quiet a s t x y → Called P t u y z → ((calls : List Call) → said_by (a ++ calls) ≡ said_by calls) → ((calls : List Call) → P calls → Q (a ++ calls))
    → Called Q s u x z
called-behind {a = a} {s = s} {u = u} {x = x} {y = y} {z = z} first next silent step = record {
  calls = a ++ next.calls;
  such = step next.calls next.such;
  said = subst (λ text. SaidOrLost text s u z) (sym (silent next.calls)) (subst (λ before. SaidOrLost (said_by next.calls) before u z) first.silent next.said);
  told = adds-behind a next.calls x y z first.told next.told;
}

-- the same calls, said to be of another kind
pub called-as : {P Q : List Call → Type 0} {s t : Option (List ℕ)} {x y : Option (List Call)}
    → Called P s t x y → ((calls : List Call) → P calls → Q calls) → Called Q s t x y
called-as called step = record {
  calls = called.calls;
  such = step called.calls called.such;
  said = called.said;
  told = called.told;
}

-- a call that was not done
pub undone : {T E : Type 0} (call : Bool → Call) (r : Result T E) (e : E) (x y : Option (List Call)) → r ≡ Err e → Adds (call (is_ok r) ∷ []) x y → Adds (call false ∷ []) x y
undone call r e x y is added = subst (λ result. Adds (call (is_ok result) ∷ []) x y) is added
