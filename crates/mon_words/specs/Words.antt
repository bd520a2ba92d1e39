-- The commands, and the words that spell them.
use Rattle.std.specs.Prelude.{◌≡◌, ℕ, Bool, true, false, not, ◌||◌, if◌then◌else◌, List, [], ◌∷◌, ◌++◌, map, Option, Some, None, codes, decimal, nat_eq, ◌⊎◌, zero, suc}
use Rattle.std.specs.Str.{bytes_eq}
use Rattle.std.specs.List.{starts_with}
use Rattle.mon_words.specs.declared.argument.Kind.{Kind}
use Rattle.mon_words.specs.declared.argument.Kind.TheVariants.{Workers, Generate, Seed}
use Rattle.mon_words.specs.declared.argument.Argument.{Argument}
use Rattle.mon_words.specs.declared.argument.Argument.TheVariants.{Name, Number, Certificates}
use Rattle.mon_words.specs.declared.command.Source.{Source}
use Rattle.mon_words.specs.declared.command.Source.TheVariants as source
use Rattle.mon_words.specs.declared.command.Command.{Command}
use Rattle.mon_words.specs.declared.command.Command.TheVariants as command
use Rattle.mon_words.specs.declared.given.Given.{Given}
use Rattle.mon_words.specs.declared.given.Given.TheVariants.{Never, Once, Often}
use Rattle.mon_words.specs.Options.{option_word, Takes}

-- a name of a file that stands before `--`: it may not begin with `-` unless it is `-`
abbrev pub is_name : List ℕ → Bool
is_name word = bytes_eq word (codes "-") || not (starts_with nat_eq word (codes "-"))

-- these words spell one name or option: a number is the next word, or stands after `=` (61) in the same word
abbrev pub SpellsOne : Argument → List (List ℕ) → Type 0
SpellsOne (Name word) words = (words ≡ word ∷ []) × (is_name word ≡ true)
SpellsOne (Number kind n) words =
    Takes kind n × ((words ≡ option_word kind ∷ decimal n ∷ []) ⊎ (words ≡ (option_word kind ++ 61 ∷ decimal n) ∷ []))
SpellsOne Certificates words = words ≡ codes "--certificates" ∷ []

-- these words spell names and options, one after the other
abbrev pub SpellsEach : List Argument → List (List ℕ) → Type 0
SpellsEach [] words = words ≡ []
SpellsEach (argument ∷ arguments) words =
    (front : List (List ℕ)) × (rest : List (List ℕ)) × (words ≡ front ++ rest) × SpellsOne argument front × SpellsEach arguments rest

-- these words do so up to `--`, after which each word is a name
abbrev pub SpellsEnded : List Argument → List (List ℕ) → Type 0
SpellsEnded arguments words =
    (before : List Argument) × (front : List (List ℕ)) × (names : List (List ℕ))
    × (arguments ≡ before ++ map (λ word. Name word) names) × (words ≡ front ++ codes "--" ∷ names) × SpellsEach before front

-- the words after a command spell names and options
abbrev pub SpellsAll : List Argument → List (List ℕ) → Type 0
SpellsAll arguments words = SpellsEach arguments words ⊎ SpellsEnded arguments words

-- the names, in order
abbrev pub names_in : List Argument → List (List ℕ)
names_in [] = []
names_in (Name word ∷ arguments) = word ∷ names_in arguments
names_in (Number kind n ∷ arguments) = names_in arguments
names_in (Certificates ∷ arguments) = names_in arguments

-- the same option
abbrev pub same_kind : Kind → Kind → Bool
same_kind Workers Workers = true
same_kind Generate Generate = true
same_kind Seed Seed = true
same_kind _ _ = false

-- the numbers that are given with an option
abbrev pub numbers_in : Kind → List Argument → List ℕ
numbers_in kind [] = []
numbers_in kind (Name word ∷ arguments) = numbers_in kind arguments
numbers_in kind (Number other n ∷ arguments) = if same_kind kind other then n ∷ numbers_in kind arguments else numbers_in kind arguments
numbers_in kind (Certificates ∷ arguments) = numbers_in kind arguments

-- how often `--certificates` is given
abbrev pub certificates_in : List Argument → ℕ
certificates_in [] = 0
certificates_in (Name word ∷ arguments) = certificates_in arguments
certificates_in (Number kind n ∷ arguments) = certificates_in arguments
certificates_in (Certificates ∷ arguments) = suc (certificates_in arguments)

-- whether an option is given, and with which number
abbrev pub given_of : List ℕ → Given
given_of [] = Never
given_of (n ∷ []) = Once n
given_of (n ∷ m ∷ ns) = Often

abbrev pub given_in : Kind → List Argument → Given
given_in kind arguments = given_of (numbers_in kind arguments)

-- where a table comes from: the one name that is given, or the two numbers of the generator
abbrev pub source_of : List (List ℕ) → Given → Given → Option Source
source_of (table ∷ []) Never Never = Some (source.File table)
source_of [] (Once n) (Once seed) = Some (source.Generate n seed)
source_of _ _ _ = None

-- the threads that plan: the number that is given, or one
abbrev pub workers_of : Given → Option ℕ
workers_of Never = Some 1
workers_of (Once workers) = Some workers
workers_of Often = None

-- whether certificates are asked for, where that is said at most once
abbrev pub asked_of : ℕ → Option Bool
asked_of zero = Some false
asked_of (suc zero) = Some true
asked_of _ = None

-- names and options ask for a plan
abbrev pub AsksPlan : Source → ℕ → Bool → List Argument → Type 0
AsksPlan source workers certificates arguments =
    (source_of (names_in arguments) (given_in Generate arguments) (given_in Seed arguments) ≡ Some source)
    × (workers_of (given_in Workers arguments) ≡ Some workers)
    × (asked_of (certificates_in arguments) ≡ Some certificates)

-- names and options ask for a check: the last name is that of the certificates
abbrev pub AsksCheck : Source → List ℕ → List Argument → Type 0
AsksCheck source certificates arguments =
    (names : List (List ℕ)) × (names_in arguments ≡ names ++ certificates ∷ [])
    × (source_of names (given_in Generate arguments) (given_in Seed arguments) ≡ Some source)
    × (given_in Workers arguments ≡ Never) × (certificates_in arguments ≡ 0)

-- the words spell the command
abbrev pub Spells : Command → List (List ℕ) → Type 0
Spells (command.Replay settings trace) words =
    (rest : List (List ℕ)) × (words ≡ codes "replay" ∷ rest) × SpellsAll (Name settings ∷ Name trace ∷ []) rest
Spells (command.Plan source workers certificates) words =
    (rest : List (List ℕ)) × (arguments : List Argument)
    × (words ≡ codes "plan" ∷ rest) × SpellsAll arguments rest × AsksPlan source workers certificates arguments
Spells (command.Check source certificates) words =
    (rest : List (List ℕ)) × (arguments : List Argument)
    × (words ≡ codes "check" ∷ rest) × SpellsAll arguments rest × AsksCheck source certificates arguments
