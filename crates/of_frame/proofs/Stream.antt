-- What is cut of a stream is the stream.
use Rattle.std.proofs.Common.{◌≡◌, ℕ, ◌≤◌, List, [], ◌∷◌, ◌++◌, Option, Some, None, length, refl, sym, ap, subst, ◌∙◌, append_assoc, arith, inl, inr}
use Rattle.std.specs.List.{concat, AllByRecursion}
use Rattle.std.specs.Option.{option_to_list}
use Rattle.std.proofs.lemmas.List.{append-nil}
use Rattle.std.proofs.lemmas.Bool.{cases_lt}
use Rattle.std.proofs.lemmas.Bool.Decides.{eqb_tells}
use Rattle.of_frame.specs.declared.fault.FrameFault.{FrameFault}
use Rattle.of_frame.specs.Header.{length_field, IsFrame}
use Rattle.of_frame.specs.Cut.{Pending, IsPending, IsCutInto, nothing_yet, header_fault, completed, grown, cut}
use Rattle.of_frame.proofs.Slices.{begun, some≢none, grown-short, grown-long, grown-is-pending, within, fault-stays}

-- what was pending, then the bytes, and what they are cut into
abbrev Cuts : List ℕ → Pending × List (List ℕ) → Type 0
Cuts bytes found = (uncut : List ℕ) × IsCutInto bytes found uncut

-- one byte leads to a state and perhaps a frame, and the rest is cut from there
after-one : (bytes bs : List ℕ) (one : Pending × Option (List ℕ)) → bytes ≡ concat (option_to_list one.1) ++ one.0.rest
    → AllByRecursion IsFrame (option_to_list one.1) → Cuts (one.0.rest ++ bs) (cut one.0 bs)
    → Cuts (bytes ++ bs) ((cut one.0 bs).0, option_to_list one.1 ++ (cut one.0 bs).1)
after-one bytes bs (q, None) e frames more =
    (more.0, record { whole = ap (λ (x : List ℕ). x ++ bs) e ∙ more.1.whole; frames = more.1.frames; pending = more.1.pending; all_cut = more.1.all_cut })
after-one bytes bs (q, Some f) e frames more =
    let front : bytes ≡ f ++ q.rest = e ∙ ap (λ (x : List ℕ). x ++ q.rest) (append-nil f) in
    let all : bytes ++ bs ≡ (f ++ concat (cut q bs).1) ++ ((cut q bs).0.rest ++ more.0) =
    ap (λ (x : List ℕ). x ++ bs) front ∙ append_assoc f q.rest bs ∙ ap (λ (x : List ℕ). f ++ x) more.1.whole ∙ sym (append_assoc f (concat (cut q bs).1) ((cut q bs).0.rest ++ more.0)) in
    (more.0, record { whole = all; frames = (frames.0, more.1.frames); pending = more.1.pending; all_cut = more.1.all_cut })

-- what one byte leads to holds the bytes so far
completed-holds : (bytes : List ℕ) (found : Option FrameFault) → bytes ≡ concat (option_to_list (completed bytes found).1) ++ (completed bytes found).0.rest
completed-holds bytes (Some fault) = refl
completed-holds bytes None =
    elim (eqb_tells (length bytes) (length_field bytes)) as (λ _. bytes ≡ concat (option_to_list (completed bytes None).1) ++ (completed bytes None).0.rest) [
      | inl same ↦ rw (same.0) (sym (append-nil (bytes ++ []) ∙ append-nil bytes))
      | inr off ↦ rw (off.0) refl
    ]

completed-frames : (bytes : List ℕ) (found : Option FrameFault) → 8 ≤ length bytes → AllByRecursion IsFrame (option_to_list (completed bytes found).1)
completed-frames bytes (Some fault) long = tt
completed-frames bytes None long =
    elim (eqb_tells (length bytes) (length_field bytes)) as (λ _. AllByRecursion IsFrame (option_to_list (completed bytes None).1)) [
      | inl same ↦ rw (same.0) (record { header = long; exact = same.1 }, tt)
      | inr off ↦ rw (off.0) tt
    ]

grown-holds : (bytes : List ℕ) → (bytes ≡ concat (option_to_list (grown bytes).1) ++ (grown bytes).0.rest) × AllByRecursion IsFrame (option_to_list (grown bytes).1)
grown-holds bytes =
    elim (cases_lt (length bytes) 8) as (λ _. (bytes ≡ concat (option_to_list (grown bytes).1) ++ (grown bytes).0.rest) × AllByRecursion IsFrame (option_to_list (grown bytes).1)) [
      | inl short ↦ rw (grown-short bytes short) (refl, tt)
      | inr long ↦ rw (grown-long bytes long) (completed-holds bytes (header_fault bytes), completed-frames bytes (header_fault bytes) long)
    ]

-- one byte more is never more than the frame
one-within : (rest : List ℕ) (b : ℕ) → IsPending (begun rest) → 8 ≤ length (rest ++ b ∷ []) → header_fault (rest ++ b ∷ []) ≡ None
    → length (rest ++ b ∷ []) ≤ length_field (rest ++ b ∷ [])
one-within rest b is long sound =
    within (begun rest) (b ∷ []) is refl (λ lt. omega (arith, lt)) (λ le. omega (arith, is.short refl le)) long sound

-- from what is pending on
into : (rest : List ℕ) (fault : Option FrameFault) (bs : List ℕ) → let p : Pending = record { rest = rest; fault = fault } in IsPending p → Cuts (rest ++ bs) (cut p bs)
into rest (Some fault) bs is =
    rw (fault-stays rest bs fault) (bs, record { whole = refl; frames = tt; pending = is; all_cut = λ e. absurd (some≢none fault e) })
into rest None [] is = ([], record { whole = refl; frames = tt; pending = is; all_cut = λ _. refl })
into rest None (b ∷ bs) is =
    let bytes : List ℕ = rest ++ b ∷ [] in
    let holds : (bytes ≡ concat (option_to_list (grown bytes).1) ++ (grown bytes).0.rest) × AllByRecursion IsFrame (option_to_list (grown bytes).1) = grown-holds bytes in
    let next : IsPending (grown bytes).0 = grown-is-pending bytes (one-within rest b is) in
    subst (λ (x : List ℕ). Cuts x (cut (begun rest) (b ∷ bs))) (append_assoc rest (b ∷ []) bs)
    (after-one bytes bs (grown bytes) holds.0 holds.1 (into (grown bytes).0.rest (grown bytes).0.fault bs next))

pub stream-into : (bytes : List ℕ) → (uncut : List ℕ) × IsCutInto bytes (cut nothing_yet bytes) uncut
stream-into bytes = into [] None bytes (record { judged = λ _ long. absurd (omega (arith, long)); short = λ _ long. absurd (omega (arith, long)) })
