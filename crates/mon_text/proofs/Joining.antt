-- Readers that read just what is spelled: alone, one behind the other, and in a row.
use Rattle.std.proofs.Common.{◌≡◌, ◌≢◌, ℕ, ◌-◌, ◌^◌, ◌<◌, ◌≤◌, Bool, true, false, cond, refl, sym, ap, subst, ◌∙◌, List, [], ◌∷◌, ◌++◌, length, take, drop, Option, Some, None, option_map, arith, decimal, append_assoc}
use Rattle.std.specs.Prelude.{nat_eq, nat_le, ◌&&◌, option_and_then}
use Rattle.std.specs.List.{starts_with, flat_map, AllByRecursion}
use Rattle.std.specs.Int.{IsInRange}
use Rattle.std.proofs.Math.Seq.{drop-append_seam}
use Rattle.std.proofs.lemmas.List.{take_all, length-drop}
use Rattle.std.proofs.lemmas.Bool.{false≢true, and_parts, and_from, leb-true, le-leb, cond-true}
use Rattle.std.proofs.lemmas.Bool.Decides.{Decides-eqb}
use Rattle.std.proofs.lemmas.Option.{cond_some, none-some, some_pair_parts}
use Rattle.std.proofs.lemmas.Slice.Eq.{starts_is}
use Rattle.mon_text.specs.Numbers.{FitsNumber, FoundAt, number_in}
use Rattle.mon_text.specs.Parts.{Part, behind, led, ended, both, seen, passing, number_within}
use Rattle.mon_text.proofs.Fronts.{number_in-found, number_in-again}

-- what is read is spelled so, and what is spelled is read, whatever stands behind it
pub record IsReader {X : Type 0} (text : X → List ℕ) (Fits : X → Type 0) (part : List ℕ → Part X) : Type 0 where
  pub found : (bytes : List ℕ) (x : X) (rest : List ℕ) → part bytes ≡ Some (x, rest) → Fits x × (bytes ≡ text x ++ rest)
  pub again : (x : X) (rest : List ℕ) → Fits x → part (text x ++ rest) ≡ Some (x, rest)

-- where the two steps of a reading came from
pub bound : {A B : Type 0} (f : A → Option B) (o : Option A) (y : B) → option_and_then f o ≡ Some y → (x : A) × (o ≡ Some x) × (f x ≡ Some y)
bound f None y e = absurd (none-some y e)
bound f (Some x) y e = (x, refl, e)

pub mapped : {A B : Type 0} (f : A → B) (o : Option A) (y : B) → option_map f o ≡ Some y → (x : A) × (o ≡ Some x) × (f x ≡ y)
mapped f None y e = absurd (none-some y e)
mapped f (Some x) y e = (x, refl, cc)

pub pair_is : {X : Type 0} (x y : X) (r s : List ℕ) → x ≡ y → r ≡ s → ◌≡◌ {A = Part X} (Some (x, r)) (Some (y, s))
pair_is x y r s e f = cc

-- the text behind some bytes
pub behind-found : (front text rest : List ℕ) → behind front text ≡ Some rest → text ≡ front ++ rest
behind-found front text rest e =
    let p = cond_some (starts_with nat_eq text front) (drop (length front) text) rest e in
    let d = starts_is Decides-eqb text front (starts_with nat_eq text front) refl in
    d.0 p.0 ∙ ap (λ r. front ++ r) p.1

pub behind-again : (front rest : List ℕ) → behind front (front ++ rest) ≡ Some rest
behind-again front rest =
    let d = starts_is Decides-eqb (front ++ rest) front (starts_with nat_eq (front ++ rest) front) refl in
    cond-true (starts_with nat_eq (front ++ rest) front) (Some (drop (length front) (front ++ rest))) None (d.1 rest refl)
    ∙ ap Some (drop-append_seam front rest)

-- the same of a slice that begins with them, and of one that doesn't
pub front-is : (front text : List ℕ) → true ≡ starts_with nat_eq text front → text ≡ front ++ take (length text - length front) (drop (length front) text)
front-is front text e =
    let d = starts_is Decides-eqb text front true e in
    let few : length (drop (length front) text) ≤ length text - length front = let k : length (drop (length front) text) ≡ length text - length front = length-drop (length front) text in omega arith in
    d.0 refl ∙ ap (λ r. front ++ r) (sym (take_all (length text - length front) (drop (length front) text) few))

pub front-other : (front text : List ℕ) → false ≡ starts_with nat_eq text front → (rest : List ℕ) → text ≢ front ++ rest
front-other front text e rest is =
    let d = starts_is Decides-eqb text front false e in
    false≢true (d.1 rest is)

module _ {X : Type 0} (text : X → List ℕ) (Fits : X → Type 0) (part : List ℕ → Part X) (reads : IsReader text Fits part) where
  pub reader_led : (front : List ℕ) → IsReader (λ x. front ++ text x) Fits (led front part)
  reader_led front = record {
    found = λ bytes x rest e.
        let p = bound part (behind front bytes) (x, rest) e in
        let f = reads.found p.0 x rest p.2 in
        (f.0, behind-found front bytes p.0 p.1 ∙ ap (λ r. front ++ r) f.1 ∙ sym (append_assoc front (text x) rest));
    again = λ x rest fits.
        ap (led front part) (append_assoc front (text x) rest)
        ∙ ap (option_and_then part) (behind-again front (text x ++ rest))
        ∙ reads.again x rest fits;
  }

  pub reader_ended : (back : List ℕ) → IsReader (λ x. text x ++ back) Fits (ended back part)
  reader_ended back = record {
    found = λ bytes x rest e.
        let p = bound (λ (q : X × List ℕ). option_map {U = X × List ℕ} (λ r. (q.0, r)) (behind back q.1)) (part bytes) (x, rest) e in
        let q = mapped {B = X × List ℕ} (λ r. (p.0.0, r)) (behind back p.0.1) (x, rest) p.2 in
        let f = reads.found bytes p.0.0 p.0.1 p.1 in
        let same : p.0.0 ≡ x = ap (λ (z : X × List ℕ). z.0) q.2 in
        let after : q.0 ≡ rest = ap (λ (z : X × List ℕ). z.1) q.2 in (
          subst Fits same f.0,
          f.1 ∙ ap (λ r. text p.0.0 ++ r) (behind-found back p.0.1 q.0 q.1) ∙ sym (append_assoc (text p.0.0) back q.0) ∙ ap (λ z. (text z ++ back) ++ q.0) same ∙ ap (λ r. (text x ++ back) ++ r) after,
        );
    again = λ x rest fits.
        ap (ended back part) (append_assoc (text x) back rest)
        ∙ ap (option_and_then (λ (q : X × List ℕ). option_map {U = X × List ℕ} (λ r. (q.0, r)) (behind back q.1))) (reads.again x (back ++ rest) fits)
        ∙ ap (option_map {U = X × List ℕ} (λ r. (x, r))) (behind-again back rest);
  }

  pub reader_passing : (test : X → Bool) → IsReader text (λ x. Fits x × (test x ≡ true)) (passing test part)
  reader_passing test = record {
    found = λ bytes x rest e.
        let p = bound (λ (q : X × List ℕ). cond (test q.0) (Some q) None) (part bytes) (x, rest) e in
        let c = cond_some (test p.0.0) p.0 (x, rest) p.2 in
        let f = reads.found bytes p.0.0 p.0.1 p.1 in
        let same : p.0.0 ≡ x = ap (λ (z : X × List ℕ). z.0) c.1 in
        let after : p.0.1 ≡ rest = ap (λ (z : X × List ℕ). z.1) c.1 in
        ((subst Fits same f.0, subst (λ z. test z ≡ true) same c.0), f.1 ∙ ap (λ z. text z ++ p.0.1) same ∙ ap (λ r. text x ++ r) after);
    again = λ x rest fits.
        ap (option_and_then (λ (q : X × List ℕ). cond (test q.0) (Some q) None)) (reads.again x rest fits.0)
        ∙ cond-true (test x) (Some (x, rest)) None fits.1;
  }

  pub reader_seen : {Y : Type 0} (view : X → Y) (back : Y → X) (Other : Y → Type 0) → ((y : Y) → Other y → Fits (back y) × (view (back y) ≡ y)) → ((x : X) → Fits x → Other (view x) × (back (view x) ≡ x))
      → IsReader (λ y. text (back y)) Other (seen view part)
  reader_seen {Y} view back Other there here = record {
    found = λ bytes y rest e.
        let p = mapped {B = Y × List ℕ} (λ (q : X × List ℕ). (view q.0, q.1)) (part bytes) (y, rest) e in
        let f = reads.found bytes p.0.0 p.0.1 p.1 in
        let same : view p.0.0 ≡ y = ap (λ (z : Y × List ℕ). z.0) p.2 in
        let after : p.0.1 ≡ rest = ap (λ (z : Y × List ℕ). z.1) p.2 in
        let home : p.0.0 ≡ back y = sym (here p.0.0 f.0).1 ∙ ap back same in
        (subst Other same (here p.0.0 f.0).0, f.1 ∙ ap (λ z. text z ++ p.0.1) home ∙ ap (λ r. text (back y) ++ r) after);
    again = λ y rest fits.
        ap (option_map {U = Y × List ℕ} (λ (q : X × List ℕ). (view q.0, q.1))) (reads.again (back y) rest (there y fits).0)
        ∙ pair_is (view (back y)) y rest rest (there y fits).1 refl;
  }

  -- the same with the text and the condition said otherwise
  pub reader_as : (other : X → List ℕ) (Other : X → Type 0) → ((x : X) → text x ≡ other x) → ((x : X) → Fits x → Other x) → ((x : X) → Other x → Fits x) → IsReader other Other part
  reader_as other Other same there here = record {
    found = λ bytes x rest e. let f = reads.found bytes x rest e in (there x f.0, f.1 ∙ ap (λ t. t ++ rest) (same x));
    again = λ x rest fits. ap (λ t. part (t ++ rest)) (sym (same x)) ∙ reads.again x rest (here x fits);
  }

  -- each text is read in one way only
  pub reader_once : (x y : X) (r s : List ℕ) → Fits x → Fits y → text x ++ r ≡ text y ++ s → (x ≡ y) × (r ≡ s)
  reader_once x y r s f g e = some_pair_parts x y r s (sym (reads.again x r f) ∙ ap part e ∙ reads.again y s g)

  -- so are several in a row, up to where none stands
  pub reader_many : (xs ys : List X) (r s : List ℕ) → AllByRecursion Fits xs → AllByRecursion Fits ys → part r ≡ None → part s ≡ None
      → flat_map text xs ++ r ≡ flat_map text ys ++ s → (xs ≡ ys) × (r ≡ s)
  reader_many [] [] r s f g n m e = (refl, e)
  reader_many [] (y ∷ ys) r s f g n m e =
      absurd (none-some (y, flat_map text ys ++ s) (sym n ∙ ap part (e ∙ append_assoc (text y) (flat_map text ys) s) ∙ reads.again y (flat_map text ys ++ s) g.0))
  reader_many (x ∷ xs) [] r s f g n m e =
      absurd (none-some (x, flat_map text xs ++ r) (sym m ∙ ap part (sym e ∙ append_assoc (text x) (flat_map text xs) r) ∙ reads.again x (flat_map text xs ++ r) f.0))
  reader_many (x ∷ xs) (y ∷ ys) r s f g n m e =
      let one = reader_once x y (flat_map text xs ++ r) (flat_map text ys ++ s) f.0 g.0 (sym (append_assoc (text x) (flat_map text xs) r) ∙ e ∙ append_assoc (text y) (flat_map text ys) s) in
      let more = reader_many xs ys r s f.1 g.1 n m one.1 in
      (let p = one.0 in let q = more.0 in cc, more.1)

-- one part behind another
pub reader_both : {X Y : Type 0} (first : X → List ℕ) (second : Y → List ℕ) (P : X → Type 0) (Q : Y → Type 0) (p : List ℕ → Part X) (q : List ℕ → Part Y)
    → IsReader first P p → IsReader second Q q → IsReader {X = X × Y} (λ z. first z.0 ++ second z.1) (λ z. P z.0 × Q z.1) (both p q)
reader_both {X} {Y} first second P Q p q reads then = record {
  found = λ bytes z rest e.
      let a = bound (λ (x : X × List ℕ). option_map {U = (X × Y) × List ℕ} (λ (y : Y × List ℕ). ((x.0, y.0), y.1)) (q x.1)) (p bytes) (z, rest) e in
      let b = mapped {B = (X × Y) × List ℕ} (λ (y : Y × List ℕ). ((a.0.0, y.0), y.1)) (q a.0.1) (z, rest) a.2 in
      let f = reads.found bytes a.0.0 a.0.1 a.1 in
      let g = then.found a.0.1 b.0.0 b.0.1 b.1 in
      let left : a.0.0 ≡ z.0 = ap (λ (w : (X × Y) × List ℕ). w.0.0) b.2 in
      let right : b.0.0 ≡ z.1 = ap (λ (w : (X × Y) × List ℕ). w.0.1) b.2 in
      let after : b.0.1 ≡ rest = ap (λ (w : (X × Y) × List ℕ). w.1) b.2 in (
        (subst P left f.0, subst Q right g.0),
        f.1 ∙ ap (λ r. first a.0.0 ++ r) g.1 ∙ sym (append_assoc (first a.0.0) (second b.0.0) b.0.1)
            ∙ ap (λ x. (first x ++ second b.0.0) ++ b.0.1) left ∙ ap (λ y. (first z.0 ++ second y) ++ b.0.1) right ∙ ap (λ r. (first z.0 ++ second z.1) ++ r) after,
      );
  again = λ z rest fits.
      ap (both p q) (append_assoc (first z.0) (second z.1) rest)
      ∙ ap (option_and_then (λ (x : X × List ℕ). option_map {U = (X × Y) × List ℕ} (λ (y : Y × List ℕ). ((x.0, y.0), y.1)) (q x.1))) (reads.again z.0 (second z.1 ++ rest) fits.0)
      ∙ ap (option_map {U = (X × Y) × List ℕ} (λ (y : Y × List ℕ). ((z.0, y.0), y.1))) (then.again z.1 rest fits.1);
}

-- a number up to a byte that is no digit
pub reader_number : (byte : ℕ) (bytes : List ℕ) → (IsInRange 48 57 byte → ⊥) → IsReader (λ n. decimal n ++ (byte ∷ bytes)) FitsNumber (ended (byte ∷ bytes) number_in)
reader_number byte bytes none = record {
  found = λ text n rest e.
      let p = bound (λ (q : ℕ × List ℕ). option_map {U = ℕ × List ℕ} (λ r. (q.0, r)) (behind (byte ∷ bytes) q.1)) (number_in text) (n, rest) e in
      let q = mapped {B = ℕ × List ℕ} (λ r. (p.0.0, r)) (behind (byte ∷ bytes) p.0.1) (n, rest) p.2 in
      let f = number_in-found text p.0.0 p.0.1 p.1 in
      let same : p.0.0 ≡ n = ap (λ (z : ℕ × List ℕ). z.0) q.2 in
      let after : q.0 ≡ rest = ap (λ (z : ℕ × List ℕ). z.1) q.2 in (
        subst FitsNumber same f.0,
        f.1.is ∙ ap (λ r. decimal p.0.0 ++ r) (behind-found (byte ∷ bytes) p.0.1 q.0 q.1) ∙ sym (append_assoc (decimal p.0.0) (byte ∷ bytes) q.0)
            ∙ ap (λ z. (decimal z ++ (byte ∷ bytes)) ++ q.0) same ∙ ap (λ r. (decimal n ++ (byte ∷ bytes)) ++ r) after,
      );
  again = λ n rest fits.
      ap (ended (byte ∷ bytes) number_in) (append_assoc (decimal n) (byte ∷ bytes) rest)
      ∙ ap (option_and_then (λ (q : ℕ × List ℕ). option_map {U = ℕ × List ℕ} (λ r. (q.0, r)) (behind (byte ∷ bytes) q.1)))
      (number_in-again (decimal n ++ (byte ∷ (bytes ++ rest))) n (byte ∷ (bytes ++ rest)) (fits, record { is = refl; ends = none }))
      ∙ ap (option_map {U = ℕ × List ℕ} (λ r. (n, r))) (behind-again (byte ∷ bytes) rest);
}

-- a number from low to high, where more digits might follow
pub number_within-found : (low high : ℕ) (text : List ℕ) (n : ℕ) (rest : List ℕ) → number_within low high text ≡ Some (n, rest) → (low ≤ n) × (n ≤ high) × FoundAt decimal FitsNumber text n rest
unfolding number_within
number_within-found low high text n rest e =
    let p = bound (λ (q : ℕ × List ℕ). cond (nat_le low q.0 && nat_le q.0 high) (Some q) None) (number_in text) (n, rest) e in
    let c = cond_some (nat_le low p.0.0 && nat_le p.0.0 high) p.0 (n, rest) p.2 in
    let same : p.0.0 ≡ n = ap (λ (z : ℕ × List ℕ). z.0) c.1 in
    let after : p.0.1 ≡ rest = ap (λ (z : ℕ × List ℕ). z.1) c.1 in
    let t = and_parts (nat_le low p.0.0) (nat_le p.0.0 high) c.0 in
    let least : low ≤ p.0.0 = leb-true low p.0.0 t.0 in
    let most : p.0.0 ≤ high = leb-true p.0.0 high t.1 in
    (omega arith, omega arith, subst (λ r. FoundAt decimal FitsNumber text n r) after (subst (λ m. FoundAt decimal FitsNumber text m p.0.1) same (number_in-found text p.0.0 p.0.1 p.1)))

pub number_within-again : (low high : ℕ) (text : List ℕ) (n : ℕ) (rest : List ℕ) → low ≤ n → n ≤ high → FoundAt decimal FitsNumber text n rest → number_within low high text ≡ Some (n, rest)
unfolding number_within
number_within-again low high text n rest least most f =
    ap (option_and_then (λ (q : ℕ × List ℕ). cond (nat_le low q.0 && nat_le q.0 high) (Some q) None)) (number_in-again text n rest f)
    ∙ cond-true (nat_le low n && nat_le n high) (Some (n, rest)) None (and_from _ _ (le-leb low n least) (le-leb n high most))

-- a test may come before what stands behind
test_behind : {X : Type 0} (test : X → Bool) (x : X) (b : Bool) (after : Option (List ℕ)) (text : List ℕ) (back : List ℕ) → test x ≡ b → behind back text ≡ after
    → option_and_then (λ (q : X × List ℕ). option_map {U = X × List ℕ} (λ r. (q.0, r)) (behind back q.1)) (cond b (Some (x, text)) None)
    ≡ option_and_then (λ (q : X × List ℕ). cond (test q.0) (Some q) None) (option_map {U = X × List ℕ} (λ r. (x, r)) after)
test_behind test x true None text back e f = ap (option_map (λ r. (x, r))) f
test_behind test x true (Some r) text back e f = ap (option_map (λ r. (x, r))) f ∙ sym (cond-true (test x) (Some (x, r)) None e)
test_behind test x false None text back e f = refl
test_behind test x false (Some r) text back e f = sym (ap (λ b. cond b (Some (x, r)) None) e)

ended_passing : {X : Type 0} (test : X → Bool) (back : List ℕ) (p : Part X) → option_and_then (λ (q : X × List ℕ). option_map {U = X × List ℕ} (λ r. (q.0, r)) (behind back q.1)) (option_and_then (λ (q : X × List ℕ). cond (test q.0) (Some q) None) p)
    ≡ option_and_then (λ (q : X × List ℕ). cond (test q.0) (Some q) None) (option_and_then (λ (q : X × List ℕ). option_map {U = X × List ℕ} (λ r. (q.0, r)) (behind back q.1)) p)
ended_passing test back None = refl
ended_passing test back (Some q) = test_behind test q.0 (test q.0) (behind back q.1) q.1 back refl refl

reader_same : {X : Type 0} (text : X → List ℕ) (Fits : X → Type 0) (p q : List ℕ → Part X) → ((t : List ℕ) → p t ≡ q t) → IsReader text Fits q → IsReader text Fits p
reader_same text Fits p q same reads = record {
  found = λ bytes x rest e. reads.found bytes x rest (sym (same bytes) ∙ e);
  again = λ x rest fits. same (text x ++ rest) ∙ reads.again x rest fits;
}

-- a number from low to high, up to a byte that is no digit
pub reader_within : (low high byte : ℕ) (bytes : List ℕ) → high < 2 ^ 64 → (IsInRange 48 57 byte → ⊥) → IsReader (λ n. decimal n ++ (byte ∷ bytes)) (λ n. (low ≤ n) × (n ≤ high)) (ended (byte ∷ bytes) (number_within low high))
unfolding number_within
reader_within low high byte bytes small none =
    let text : ℕ → List ℕ = λ n. decimal n ++ (byte ∷ bytes) in
    let number = ended (byte ∷ bytes) number_in in
    let test : ℕ → Bool = λ n. nat_le low n && nat_le n high in
    let Passed : ℕ → Type 0 = λ n. FitsNumber n × (test n ≡ true) in
    reader_same text (λ n. (low ≤ n) × (n ≤ high)) (ended (byte ∷ bytes) (passing test number_in)) (passing test number) (λ t. ended_passing test (byte ∷ bytes) (number_in t))
    (reader_as text Passed (passing test number) (reader_passing text FitsNumber number (reader_number byte bytes none) test) text (λ n. (low ≤ n) × (n ≤ high)) (λ n. refl)
    (λ n f. let t = and_parts (nat_le low n) (nat_le n high) f.1 in (leb-true low n t.0, leb-true n high t.1))
    (λ n f. (let le : n ≤ high = f.1 in omega arith, and_from _ _ (le-leb low n f.0) (le-leb n high f.1))))
