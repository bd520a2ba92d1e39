-- Where lines leave a form that is made of parts.
use Rattle.std.proofs.Common.{◌≡◌, ◌≢◌, ℕ, ◌+◌, ◌<◌, zero, suc, refl, sym, ap, subst, ◌∙◌, List, [], ◌∷◌, ◌++◌, length, arith, append_assoc, length-append}
use Rattle.std.specs.List.{AllByRecursion}
use Rattle.std.proofs.lemmas.List.{append-nil}
use Rattle.mon_text.specs.Parts.{feed}
use Rattle.mon_text.specs.BadLines.{NoFeed, AreLines, IsFirstBadLine, IsBadFrom}

pub heads : (a b : ℕ) (xs ys : List ℕ) → a ∷ xs ≡ b ∷ ys → a ≡ b
heads a b xs ys e = cc

pub tails : (a b : ℕ) (xs ys : List ℕ) → a ∷ xs ≡ b ∷ ys → xs ≡ ys
tails a b xs ys e = cc

cons_same : (a b : ℕ) (xs ys : List ℕ) → a ≡ b → xs ≡ ys → a ∷ xs ≡ b ∷ ys
cons_same a b xs ys e f = cc

-- a line ends at its first line feed
pub feed_once : (a b r s : List ℕ) → NoFeed a → NoFeed b → a ++ (10 ∷ r) ≡ b ++ (10 ∷ s) → (a ≡ b) × (r ≡ s)
feed_once [] [] r s n m e = (refl, tails 10 10 r s e)
feed_once [] (y ∷ ys) r s n m e = absurd (m.0 (sym (heads 10 y r (ys ++ (10 ∷ s)) e)))
feed_once (x ∷ xs) [] r s n m e = absurd (n.0 (heads x 10 (xs ++ (10 ∷ r)) s e))
feed_once (x ∷ xs) (y ∷ ys) r s n m e =
    let k = feed_once xs ys r s n.1 m.1 (tails x y _ _ e) in
    (cons_same x y xs ys (heads x y _ _ e) k.0, k.1)

-- lines behind lines
pub lines_join : (a b : List ℕ) → AreLines a → AreLines b → AreLines (a ++ b)
lines_join [] b l m = m
lines_join (x ∷ []) [] l m = l
lines_join (x ∷ []) (y ∷ ys) l m = m
lines_join (x ∷ y ∷ a) b l m = lines_join (y ∷ a) b l m

-- anything and a line feed
pub lines_feed : (a : List ℕ) → AreLines (a ++ feed)
lines_feed [] = refl
lines_feed (x ∷ []) = refl
lines_feed (x ∷ y ∷ a) = lines_feed (y ∷ a)

-- what ends in a line feed, whatever stands before it
abbrev pub Ends : List ℕ → Type 0
Ends b = AreLines b × (b ≢ [])

cons_ends : (x : ℕ) (s : List ℕ) → Ends s → Ends (x ∷ s)
cons_ends x [] e = absurd (e.1 refl)
cons_ends x (y ∷ ys) e = (e.0, λ f. cc)

pub ends_behind : (a b : List ℕ) → Ends b → Ends (a ++ b)
ends_behind [] b e = e
ends_behind (x ∷ a) b e = cons_ends x (a ++ b) (ends_behind a b e)

pub ends_feed : Ends feed
ends_feed = (refl, λ e. cc)

pub cancel : (a r s : List ℕ) → a ++ r ≡ a ++ s → r ≡ s
cancel [] r s e = e
cancel (x ∷ a) r s e = cancel a r s (tails x x _ _ e)

-- a form that is said otherwise
pub bad_as : (F G : List ℕ → Type 0) (text back : List ℕ) → ((s : List ℕ) → F s → G s) → ((s : List ℕ) → G s → F s) → IsBadFrom F text back → IsBadFrom G text back
bad_as F G text back there here bad = record {
  front = bad.front;
  is = bad.is;
  whole = bad.whole;
  begins = (bad.begins.0, there (bad.front ++ bad.begins.0) bad.begins.1);
  ends = λ line rest n e m. bad.ends line rest n e (record { text = m.text; behind = m.behind; more = m.more; form = here m.text m.form; is = m.is });
}

pub feed_behind : (line u : List ℕ) → (line ++ feed) ++ u ≡ line ++ (10 ∷ u)
feed_behind line u = append_assoc line feed u

-- each text in the form has a first line, and that line does not stand at the front
pub bad_here : (Form : List ℕ → Type 0) (text other : List ℕ) → Form other
    → ((s : List ℕ) → Form s → (line : List ℕ) × (more : List ℕ) × NoFeed line × (s ≡ line ++ (10 ∷ more)) × ((rest : List ℕ) → text ≢ line ++ (10 ∷ rest)))
    → IsBadFrom Form text text
bad_here Form text other form none = record {
  front = [];
  is = refl;
  whole = tt;
  begins = (other, form);
  ends = λ line rest n e m.
      let f = none m.text m.form in
      let joined : f.0 ++ (10 ∷ (f.1 ++ m.behind)) ≡ line ++ (10 ∷ m.more) =
      sym (append_assoc f.0 (10 ∷ f.1) m.behind) ∙ ap (λ s. s ++ m.behind) (sym f.3) ∙ m.is ∙ feed_behind line m.more in
      let same = feed_once f.0 line _ _ f.2 n joined in
      f.4 rest (e ∙ ap (λ l. l ++ (10 ∷ rest)) (sym same.0));
}

-- what is bad in the first part
pub bad_first : (F G : List ℕ → Type 0) (text back : List ℕ) → IsBadFrom F text back
    → ((s : List ℕ) → F s → (t : List ℕ) × G (s ++ t)) → ((s : List ℕ) → G s → (a : List ℕ) × (b : List ℕ) × F a × (s ≡ a ++ b))
    → IsBadFrom G text back
bad_first F G text back bad longer led = record {
  front = bad.front;
  is = bad.is;
  whole = bad.whole;
  begins =
      let g = longer (bad.front ++ bad.begins.0) bad.begins.1 in
      (bad.begins.0 ++ g.0, subst G (append_assoc bad.front bad.begins.0 g.0) g.1);
  ends = λ line rest n e m.
      let l = led m.text m.form in
      bad.ends line rest n e (record {
        text = l.0;
        behind = l.1 ++ m.behind;
        more = m.more;
        form = l.2;
        is = sym (append_assoc l.0 l.1 m.behind) ∙ ap (λ s. s ++ m.behind) (sym l.3) ∙ m.is;
      });
}

-- what is bad behind a first part that was read
pub bad_behind : (F G : List ℕ → Type 0) (text first rest back : List ℕ) → text ≡ first ++ rest → AreLines first → IsBadFrom F rest back
    → ((s : List ℕ) → F s → G (first ++ s))
    → ((s t more : List ℕ) → G s → s ++ t ≡ first ++ more → (u : List ℕ) × F u × (u ++ t ≡ more))
    → IsBadFrom G text back
bad_behind F G text first rest back e whole bad joined only = record {
  front = first ++ bad.front;
  is = e ∙ ap (λ s. first ++ s) bad.is ∙ sym (append_assoc first bad.front back);
  whole = lines_join first bad.front whole bad.whole;
  begins = (bad.begins.0, subst G (sym (append_assoc first bad.front bad.begins.0)) (joined (bad.front ++ bad.begins.0) bad.begins.1));
  ends = λ line rest n e m.
      let same : (first ++ bad.front) ++ (line ++ feed) ≡ first ++ (bad.front ++ (line ++ feed)) = append_assoc first bad.front (line ++ feed) in
      let o = only m.text m.behind ((bad.front ++ (line ++ feed)) ++ m.more) m.form (m.is ∙ ap (λ s. s ++ m.more) same ∙ append_assoc first (bad.front ++ (line ++ feed)) m.more) in
      bad.ends line rest n e (record { text = o.0; behind = m.behind; more = m.more; form = o.1; is = o.2 });
}

length_front : (text front back : List ℕ) (n : ℕ) → text ≡ front ++ back → n + length back ≡ length text → length front ≡ n
length_front text front back n e f = let k : length text ≡ length front + length back = ap length e ∙ length-append front back in omega arith

-- so of a whole text
pub bad_at : (Form : List ℕ → Type 0) (text back : List ℕ) (n : ℕ) → n + length back ≡ length text → IsBadFrom Form text back → IsFirstBadLine Form text n
bad_at Form text back n e bad = record {
  front = bad.front;
  back = back;
  is = bad.is;
  at = length_front text bad.front back n bad.is e;
  whole = bad.whole;
  begins = bad.begins;
  ends = λ line rest n e b. bad.ends line rest n e (record { text = (bad.front ++ (line ++ feed)) ++ b.0; behind = []; more = b.0; form = b.1; is = append-nil ((bad.front ++ (line ++ feed)) ++ b.0) });
}

-- the same, told of the lines that a text in the form may go on with
pub bad_next : (Form : List ℕ → Type 0) (text front back other : List ℕ) (n : ℕ) → text ≡ front ++ back → n + length back ≡ length text → AreLines front → Form (front ++ other)
    → ((line rest more : List ℕ) → NoFeed line → back ≡ line ++ (10 ∷ rest) → Form (front ++ (line ++ (10 ∷ more))) → ⊥) → IsFirstBadLine Form text n
bad_next Form text front back other n e f whole form none = record {
  front = front;
  back = back;
  is = e;
  at = length_front text front back n e f;
  whole = whole;
  begins = (other, form);
  ends = λ line rest one here b. none line rest b.0 one here (subst Form (append_assoc front (line ++ feed) b.0 ∙ ap (λ t. front ++ t) (append_assoc line feed b.0)) b.1);
}

none_behind : (line more : List ℕ) → (line ++ feed) ++ more ≡ [] → ⊥
none_behind [] more e = cc
none_behind (x ∷ xs) more e = cc

-- what stands behind a text in the form
pub bad_after : (Form : List ℕ → Type 0) (text front back : List ℕ) (n : ℕ) → text ≡ front ++ back → n + length back ≡ length text → AreLines front → Form front
    → ((more : List ℕ) → Form (front ++ more) → more ≡ []) → IsFirstBadLine Form text n
bad_after Form text front back n e f whole form only = record {
  front = front;
  back = back;
  is = e;
  at = length_front text front back n e f;
  whole = whole;
  begins = ([], subst Form (sym (append-nil front)) form);
  ends = λ line rest n e b. none_behind line b.0 (only ((line ++ feed) ++ b.0) (subst Form (append_assoc front (line ++ feed) b.0) b.1));
}

-- so many in a row, the text of each of which depends on its place
module _ (X : Type 0) (text : ℕ → X → List ℕ) (Fits : X → Type 0) (all : ℕ → List X → List ℕ)
    (all_none : (n : ℕ) → all n [] ≡ []) (all_more : (n : ℕ) (x : X) (xs : List X) → all n (x ∷ xs) ≡ text n x ++ all (suc n) xs) where
  abbrev pub One : ℕ → List ℕ → Type 0
  One n s = (x : X) × Fits x × (s ≡ text n x)

  pub record Row (n count : ℕ) (s : List ℕ) : Type 0 where
    pub items : List X
    pub many : length items ≡ count
    pub fit : AllByRecursion Fits items
    pub is : s ≡ all n items

  module _ (once : (n : ℕ) (x y : X) (r s : List ℕ) → Fits x → Fits y → text n x ++ r ≡ text n y ++ s → (x ≡ y) × (r ≡ s))
      (whole : (n : ℕ) (x : X) → Fits x → AreLines (text n x)) (some : X) (fits : Fits some) where
    -- one, so many times
    pub row_of : (n count : ℕ) → (s : List ℕ) × Row n count s
    row_of n zero = ([], record { items = []; many = refl; fit = tt; is = sym (all_none n) })
    row_of n (suc count) =
        let r = row_of (suc n) count in
        (text n some ++ r.0, record { items = some ∷ r.1.items; many = ap suc r.1.many; fit = (fits, r.1.fit); is = ap (λ s. text n some ++ s) r.1.is ∙ sym (all_more n some r.1.items) })

    pub row_longer : (n count : ℕ) (x : X) (s : List ℕ) → Fits x → Row (suc n) count s → Row n (suc count) (text n x ++ s)
    row_longer n count x s f r = record { items = x ∷ r.items; many = ap suc r.many; fit = (f, r.fit); is = ap (λ s. text n x ++ s) r.is ∙ sym (all_more n x r.items) }

    row_first : (n count : ℕ) (s : List ℕ) (items : List X) → length items ≡ suc count → AllByRecursion Fits items → s ≡ all n items
        → (x : X) × Fits x × (more : List ℕ) × Row (suc n) count more × (s ≡ text n x ++ more)
    row_first n count s [] m f e = absurd (omega arith)
    row_first n count s (x ∷ xs) m f e = (x, f.0, all (suc n) xs, record { items = xs; many = omega arith; fit = f.1; is = refl }, e ∙ all_more n x xs)

    -- bad in the one that comes next
    pub row_bad : (n count : ℕ) (bytes rest back : List ℕ) (front : List X) → length front < count → AllByRecursion Fits front → bytes ≡ all n front ++ rest
        → IsBadFrom (One (n + length front)) rest back → IsBadFrom (Row n count) bytes back
    row_bad n zero bytes rest back front w f e bad = absurd (omega arith)
    row_bad n (suc count) bytes rest back [] w f e bad =
        subst (λ t. IsBadFrom (Row n (suc count)) t back) (ap (λ s. s ++ rest) (sym (all_none n)) ∙ sym e)
        (bad_first (One n) (Row n (suc count)) rest back (subst (λ k. IsBadFrom (One k) rest back) (omega arith) bad)
        (λ s o. let r = row_of (suc n) count in (r.0, subst (λ t. Row n (suc count) (t ++ r.0)) (sym o.2) (row_longer n count o.0 r.0 o.1 r.1)))
        (λ s r. let p = row_first n count s r.items r.many r.fit r.is in (text n p.0, p.2, (p.0, p.1, refl), p.4)))
    row_bad n (suc count) bytes rest back (x ∷ xs) w f e bad =
        bad_behind (Row (suc n) count) (Row n (suc count)) bytes (text n x) (all (suc n) xs ++ rest) back
        (e ∙ ap (λ s. s ++ rest) (all_more n x xs) ∙ append_assoc (text n x) (all (suc n) xs) rest)
        (whole n x f.0)
        (row_bad (suc n) count (all (suc n) xs ++ rest) rest back xs (omega arith) f.1 refl (subst (λ k. IsBadFrom (One k) rest back) (omega arith) bad))
        (λ s r. row_longer n count x s f.0 r)
        (λ s t more r g.
        let p = row_first n count s r.items r.many r.fit r.is in
        let o = once n p.0 x (p.2 ++ t) more p.1 f.0 (sym (append_assoc (text n p.0) p.2 t) ∙ ap (λ s. s ++ t) (sym p.4) ∙ g) in
        (p.2, p.3, o.1))
