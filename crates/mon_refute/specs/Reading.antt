-- What a reader finds at the front of a text.
use Rattle.std.specs.Prelude.{◌≡◌, ℕ, ◌+◌, ◌<◌, ◌^◌, true, cond, List, ◌∷◌, ◌++◌, length, Option, Some, None, codes, decimal}
use Rattle.std.specs.List.{flat_map, AllByRecursion}
use Rattle.mon_text.specs.Numbers.{FitsNumber}
use Rattle.mon_cnf.specs.declared.clause.Lit.{Lit}
use Rattle.mon_refute.specs.declared.lines.LogLine.{LogLine}
use Rattle.mon_refute.specs.declared.number.Word.{Word}
use Rattle.mon_refute.specs.Text.{FitsLine, FitsLog, line_text, log_text}

abbrev pub word_text : Word → List ℕ
word_text w = 32 ∷ cond w.positive (decimal w.number) (45 ∷ decimal w.number)

abbrev pub FitsWord : Word → Type 0
FitsWord w = w.number < 2 ^ 64

-- the word of a literal, and of the end of the literals
abbrev pub literal_word : Option Lit → Word
literal_word None = record { positive = true; number = 0 }
literal_word (Some l) = record { positive = l.positive; number = l.var + 1 }

abbrev pub hint_word : Option ℕ → Word
hint_word None = record { positive = true; number = 0 }
hint_word (Some h) = record { positive = true; number = h }

abbrev pub FitsSome : {Y : Type 0} → (Y → Type 0) → Option Y → Type 0
FitsSome Fits None = Unit {0}
FitsSome Fits (Some y) = Fits y

abbrev pub word_item : {Y : Type 0} → (Option Y → Word) → Option Y → List ℕ
word_item word y = word_text (word y)

-- the line stands at the front
pub record LineAt (bytes : List ℕ) (l : LogLine) (rest : List ℕ) : Type 0 where
  pub is : bytes ≡ line_text l ++ rest
  pub fits : FitsLine l

abbrev pub NoLineAt : List ℕ → Type 0
NoLineAt bytes = (l : LogLine) (rest : List ℕ) → LineAt bytes l rest → ⊥

-- so many lines stand at the front
pub record LinesAt (bytes : List ℕ) (count : ℕ) (log : List LogLine) (rest : List ℕ) : Type 0 where
  pub is : bytes ≡ flat_map line_text log ++ rest
  pub count_is : length log ≡ count
  pub fit : AllByRecursion FitsLine log

abbrev pub NoLinesAt : List ℕ → ℕ → Type 0
NoLinesAt bytes count = (log : List LogLine) (rest : List ℕ) → LinesAt bytes count log rest → ⊥

-- fewer lines stand at the front, and none behind them
pub record StopsBehind (bytes : List ℕ) (count : ℕ) (back : List ℕ) : Type 0 where
  pub front : List LogLine
  pub read : LinesAt bytes (length front) front back
  pub few : length front < count
  pub none : NoLineAt back

-- the first line of a log says this count
pub record CountAt (bytes : List ℕ) (count : ℕ) (rest : List ℕ) : Type 0 where
  pub is : bytes ≡ codes "log " ++ (decimal count ++ (10 ∷ rest))
  pub fits : FitsNumber count

abbrev pub NoCountAt : List ℕ → Type 0
NoCountAt bytes = (count : ℕ) (rest : List ℕ) → CountAt bytes count rest → ⊥

-- the text of this log stands at the front
pub record LogAt (bytes : List ℕ) (log : List LogLine) (rest : List ℕ) : Type 0 where
  pub is : bytes ≡ log_text log ++ rest
  pub fits : FitsLog log
