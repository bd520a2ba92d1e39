-- What is cut doesn't depend on the pieces.
use Rattle.std.proofs.Common.{◌≡◌, ℕ, List, [], ◌∷◌, ◌++◌, refl, sym, ap, ◌∙◌, append_assoc}
use Rattle.std.specs.Option.{option_to_list}
use Rattle.of_frame.specs.Cut.{Pending, after_byte, cut}

-- what was cut before, and what is still cut
abbrev pub with_front : List (List ℕ) → Pending × List (List ℕ) → Pending × List (List ℕ)
with_front front found = (found.0, front ++ found.1)

pub regroup : (a b : List (List ℕ)) (x : Pending × List (List ℕ)) → with_front a (with_front b x) ≡ with_front (a ++ b) x
regroup a b x = ap (λ (fs : List (List ℕ)). (x.0, fs)) (sym (append_assoc a b x.1))

pub cut-append : (p : Pending) (a b : List ℕ) → cut p (a ++ b) ≡ with_front (cut p a).1 (cut (cut p a).0 b)
cut-append p [] b = refl
cut-append p (x ∷ xs) b =
    let one = after_byte p.rest x p.fault in
    ap (with_front (option_to_list one.1)) (cut-append one.0 xs b)
    ∙ regroup (option_to_list one.1) (cut one.0 xs).1 (cut (cut one.0 xs).0 b)
