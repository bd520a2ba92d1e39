-- Items that are read one behind the other, each from its place on.
use Rattle.std.proofs.Common.{◌≡◌, ℕ, suc, ◌+◌, ◌-◌, ◌<◌, ◌≤◌, refl, sym, ap, subst, ◌∙◌, List, [], ◌∷◌, ◌++◌, length, Result, Ok, Err, IfOk, arith, append_assoc, length-append}
use Rattle.std.specs.List.{flat_map}
use Rattle.std.proofs.lemmas.List.{append-nil}
use Rattle.mon_text.specs.declared.fault.LineFault.{LineFault}
use Rattle.mon_text.specs.Faults.{LinesReadPart}
use Rattle.mon_certificate_file.specs.CertificateFile.{row}
use Rattle.mon_certificate_file.specs.Reading.{PartAt, RowAt}
use Rattle.mon_text.proofs.Growing.{all_push}

-- a row of texts that don't depend on the place
pub flat_is_row : {X : Type 0} (text : X → List ℕ) (place : ℕ) (xs : List X) → flat_map text xs ≡ row (λ _. text) place xs
flat_is_row text place [] = refl
flat_is_row text place (x ∷ xs) = ap (λ t. text x ++ t) (flat_is_row text (suc place) xs)

module _ {X : Type 0} (text : ℕ → X → List ℕ) (Fits : X → Type 0) where
  -- one item more
  pub row_push : (place : ℕ) (xs : List X) (x : X) → row text place (xs ++ x ∷ []) ≡ row text place xs ++ text (place + length xs) x
  row_push place [] x = let e : place ≡ place + 0 = omega arith in append-nil (text place x) ∙ ap (λ n. text n x) e
  row_push place (y ∷ ys) x =
      let e : suc place + length ys ≡ place + suc (length ys) = omega arith in
      ap (λ t. text place y ++ t) (row_push (suc place) ys x)
      ∙ sym (append_assoc (text place y) (row text (suc place) ys) (text (suc place + length ys) x))
      ∙ ap (λ n. (text place y ++ row text (suc place) ys) ++ text n x) e

  -- the items so far, and what a whole row would go on with
  pub record SoFar (count i : ℕ) (bytes : List ℕ) (front : List X) (rest : List ℕ) : Type 0 where
    pub found : RowAt text Fits 0 i bytes front rest
    pub only : (xs : List X) (r : List ℕ) → RowAt text Fits 0 count bytes xs r → (more : List X) × (xs ≡ front ++ more) × RowAt text Fits i (count - i) rest more r

  pub so_far_start : (count : ℕ) (bytes : List ℕ) → SoFar count 0 bytes [] bytes
  so_far_start count bytes = record {
    found = record { is = refl; count_is = refl; fit = tt };
    only = λ xs r a. (xs, refl, record { is = a.is; count_is = (let k : length xs ≡ count = a.count_is in omega arith); fit = a.fit });
  }

  more_found : (i : ℕ) (bytes rest after : List ℕ) (front : List X) (x : X) → RowAt text Fits 0 i bytes front rest → PartAt (text i) Fits rest x after → RowAt text Fits 0 (i + 1) bytes (front ++ x ∷ []) after
  more_found i bytes rest after front x f p =
      let n : length front ≡ i = f.count_is in
      let place : i ≡ 0 + length front = omega arith in
      record {
        is = f.is ∙ ap (λ t. row text 0 front ++ t) p.is
            ∙ sym (append_assoc (row text 0 front) (text i x) after)
            ∙ ap (λ k. (row text 0 front ++ text k x) ++ after) place
            ∙ ap (λ t. t ++ after) (sym (row_push 0 front x));
        count_is = omega (arith, n, length-append front (x ∷ []));
        fit = all_push Fits front x f.fit p.fits;
      }

  -- the first item of what a row goes on with
  next_item : (i left : ℕ) (rest : List ℕ) (y : X) (ys : List X) (r : List ℕ) → RowAt text Fits i left rest (y ∷ ys) r → PartAt (text i) Fits rest y (row text (suc i) ys ++ r)
  next_item i left rest y ys r a = record { is = a.is ∙ append_assoc (text i y) (row text (suc i) ys) r; fits = a.fit.0 }

  push_cons : (front : List X) (x y : X) (ys : List X) → x ≡ y → front ++ (y ∷ ys) ≡ (front ++ x ∷ []) ++ ys
  push_cons front x y ys e = sym (append_assoc front (x ∷ []) ys ∙ ap (λ z. front ++ (z ∷ ys)) e)

  more_only : (count i : ℕ) (rest after : List ℕ) (front : List X) (x : X) → i < count → ((y : X) (r : List ℕ) → PartAt (text i) Fits rest y r → (x ≡ y) × (after ≡ r))
      → (xs : List X) (r : List ℕ) (more : List X) → xs ≡ front ++ more → RowAt text Fits i (count - i) rest more r
      → (others : List X) × (xs ≡ (front ++ x ∷ []) ++ others) × RowAt text Fits (i + 1) (count - (i + 1)) after others r
  more_only count i rest after front x lt once xs r [] e a = absurd (let k : 0 ≡ count - i = a.count_is in omega arith)
  more_only count i rest after front x lt once xs r (y ∷ ys) e a =
      let p = once y (row text (suc i) ys ++ r) (next_item i (count - i) rest y ys r a) in
      let next : suc i ≡ i + 1 = omega arith in (
        ys,
        e ∙ push_cons front x y ys p.0,
        record {
          is = p.1 ∙ ap (λ n. row text n ys ++ r) next;
          count_is = (let k : suc (length ys) ≡ count - i = a.count_is in omega arith);
          fit = a.fit.1;
        },
      )

  pub one_more : (count i : ℕ) (bytes rest after : List ℕ) (front new : List X) (x : X) → i < count → SoFar count i bytes front rest → PartAt (text i) Fits rest x after
      → ((y : X) (r : List ℕ) → PartAt (text i) Fits rest y r → (x ≡ y) × (after ≡ r)) → new ≡ front ++ x ∷ [] → SoFar count (i + 1) bytes new after
  one_more count i bytes rest after front new x lt s p once e = subst (λ xs. SoFar count (i + 1) bytes xs after) (sym e) (record {
    found = more_found i bytes rest after front x s.found p;
    only = λ xs r a. let m = s.only xs r a in more_only count i rest after front x lt once xs r m.0 m.1 m.2;
  })

  none_more : (count i : ℕ) (f : LineFault) (rest : List ℕ) → i < count → ((y : X) (r : List ℕ) → PartAt (text i) Fits rest y r → LinesReadPart {X = X} (Err f) y r)
      → (xs : List X) (r : List ℕ) (more : List X) → RowAt text Fits i (count - i) rest more r → LinesReadPart {X = List X} (Err f) xs r
  none_more count i f rest lt none xs r [] a = absurd (let k : 0 ≡ count - i = a.count_is in omega arith)
  none_more count i f rest lt none xs r (y ∷ ys) a = none y (row text (suc i) ys ++ r) (next_item i (count - i) rest y ys r a)

  pub no_more : (count i : ℕ) (f : LineFault) (bytes rest : List ℕ) (front : List X) → i < count → SoFar count i bytes front rest
      → ((y : X) (r : List ℕ) → PartAt (text i) Fits rest y r → LinesReadPart {X = X} (Err f) y r) → (xs : List X) (r : List ℕ) → RowAt text Fits 0 count bytes xs r → LinesReadPart {X = List X} (Err f) xs r
  no_more count i f bytes rest front lt s none xs r a = let m = s.only xs r a in none_more count i f rest lt none xs r m.0 m.2

  ended_only : (count i : ℕ) (front : List X) (rest : List ℕ) (xs : List X) (r : List ℕ) (more : List X) → count ≤ i → xs ≡ front ++ more → RowAt text Fits i (count - i) rest more r → (front ≡ xs) × (rest ≡ r)
  ended_only count i front rest xs r [] le e a = (sym (e ∙ append-nil front), a.is)
  ended_only count i front rest xs r (y ∷ ys) le e a = absurd (let k : suc (length ys) ≡ count - i = a.count_is in omega arith)

  -- the whole row
  pub all_read : (count i : ℕ) (bytes rest : List ℕ) (front : List X) → count ≤ i → SoFar count i bytes front rest → (xs : List X) (r : List ℕ) → RowAt text Fits 0 count bytes xs r → (front ≡ xs) × (rest ≡ r)
  all_read count i bytes rest front le s xs r a = let m = s.only xs r a in ended_only count i front rest xs r m.0 le m.1 m.2

-- the same of a result, said otherwise
pub ok_more : {A E : Type 0} (P Q : A → Type 0) → ((a : A) → P a → Q a) → (r : Result A E) → IfOk r P → IfOk r Q
ok_more P Q f (Ok a) p = f a p
ok_more P Q f (Err e) p = tt
