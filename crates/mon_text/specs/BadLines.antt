-- Where a text leaves a form: at the first line for which no text in the form has the same lines up to and with it.
use Rattle.std.specs.Prelude.{◌≡◌, ◌≢◌, ℕ, List, [], ◌∷◌, ◌++◌, length}
use Rattle.mon_text.specs.Parts.{feed}

-- no line feed stands there
abbrev pub NoFeed : List ℕ → Type 0
NoFeed [] = Unit {0}
NoFeed (b ∷ bs) = (b ≢ 10) × NoFeed bs

-- no line, or lines of which the last one is ended by its line feed too
abbrev pub AreLines : List ℕ → Type 0
AreLines [] = Unit {0}
AreLines (b ∷ []) = b ≡ 10
AreLines (b ∷ c ∷ bs) = AreLines (c ∷ bs)

-- some text in the form begins so
abbrev pub Begins : (List ℕ → Type 0) → List ℕ → Type 0
Begins Form front = (rest : List ℕ) × Form (front ++ rest)

-- the first bad line begins at the offset: some text in the form begins with the lines before it, and none does with these and
-- the line. Where no line feed ends what stands there, that is the bad line; where nothing stands there, lines are missing
pub record IsFirstBadLine (Form : List ℕ → Type 0) (text : List ℕ) (offset : ℕ) : Type 0 where
  pub front : List ℕ
  pub back : List ℕ
  pub is : text ≡ front ++ back
  pub at : length front ≡ offset
  pub whole : AreLines front
  pub begins : Begins Form front
  pub ends : (line rest : List ℕ) → NoFeed line → back ≡ line ++ (10 ∷ rest) → Begins Form (front ++ (line ++ feed)) → ⊥

-- a text in the form, and anything behind it, begins so
pub record Meets (Form : List ℕ → Type 0) (front : List ℕ) : Type 0 where
  pub text : List ℕ
  pub behind : List ℕ
  pub more : List ℕ
  pub form : Form text
  pub is : text ++ behind ≡ front ++ more

-- the same for a form that other text may stand behind: this text stands there from the first bad line on
pub record IsBadFrom (Form : List ℕ → Type 0) (text back : List ℕ) : Type 0 where
  pub front : List ℕ
  pub is : text ≡ front ++ back
  pub whole : AreLines front
  pub begins : Begins Form front
  pub ends : (line rest : List ℕ) → NoFeed line → back ≡ line ++ (10 ∷ rest) → Meets Form (front ++ (line ++ feed)) → ⊥
