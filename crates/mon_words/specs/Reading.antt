-- How words are read, one after the other.
use Rattle.std.specs.Prelude.{ℕ, Bool, true, false, ◌&&◌, if◌then◌else◌, List, [], ◌∷◌, ◌++◌, Option, Some, None, option_map, option_and_then, codes, decimal, nat_le, ◌==◌}
use Rattle.std.specs.Str.{bytes_eq}
use Rattle.std.specs.Str.Parse.{digits_value}
use Rattle.mon_words.specs.declared.argument.Kind.{Kind}
use Rattle.mon_words.specs.declared.argument.Kind.TheVariants.{Workers, Generate, Seed}
use Rattle.mon_words.specs.declared.argument.Argument.{Argument}
use Rattle.mon_words.specs.declared.argument.Argument.TheVariants.{Name, Number, Certificates}
use Rattle.mon_words.specs.declared.reading.State.{State}
use Rattle.mon_words.specs.declared.reading.State.TheVariants as state
use Rattle.mon_words.specs.declared.reading.Step.{Step}
use Rattle.mon_words.specs.Options.{least, most}
use Rattle.mon_words.specs.declared.command.Command.{Command}
use Rattle.mon_words.specs.declared.command.Command.TheVariants as command
use Rattle.mon_words.specs.declared.command.Source.{Source}
use Rattle.mon_words.specs.declared.given.Given.{Given}
use Rattle.mon_words.specs.declared.given.Given.TheVariants.{Never, Once, Often}
use Rattle.mon_words.specs.Words.{is_name, names_in, certificates_in, given_of, given_in, source_of, workers_of, asked_of}

-- the option of a word
abbrev pub kind_of : List ℕ → Option Kind
kind_of word =
    if bytes_eq word (codes "--workers") then Some Workers else
    (if bytes_eq word (codes "--generate") then Some Generate else
    (if bytes_eq word (codes "--seed") then Some Seed else None))

-- whether the option takes the number
abbrev pub takes : Kind → ℕ → Bool
takes kind n = nat_le (least kind) n && nat_le n (most kind)

-- the number where the option takes it and the text spells it
abbrev pub number_where : Kind → List ℕ → ℕ → Option ℕ
number_where kind text n = if takes kind n && bytes_eq (decimal n) text then Some n else None

abbrev pub number_of : Kind → List ℕ → Option ℕ
number_of kind text = number_where kind text (digits_value 10 text)

abbrev pub after_byte : ℕ → Option (List ℕ × List ℕ) → Option (List ℕ × List ℕ)
after_byte b None = None
after_byte b (Some p) = Some (b ∷ p.0, p.1)

-- what stands before the first `=` (61), and what stands after it
abbrev pub parts_of : List ℕ → Option (List ℕ × List ℕ)
parts_of [] = None
parts_of (b ∷ bs) = if b == 61 then Some ([], bs) else after_byte b (parts_of bs)

-- the option and the number of one word
abbrev pub joined_of : List ℕ → Option Argument
joined_of word =
    option_and_then (λ p. option_and_then (λ kind. option_map (λ n. Number kind n) (number_of kind p.1)) (kind_of p.0)) (parts_of word)

abbrev pub only : Argument → Step
only argument = record { says = Some argument; state = state.Arguments }

-- the word of an option, or an option and its number
abbrev pub kind_step : Option Kind → List ℕ → Option Step
kind_step (Some kind) word = Some (record { says = None; state = state.NumberOf kind })
kind_step None word = option_map only (joined_of word)

-- a word that is no name and stands before `--`
abbrev pub option_step : List ℕ → Option Step
option_step word =
    if bytes_eq word (codes "--") then Some (record { says = None; state = state.Names }) else
    (if bytes_eq word (codes "--certificates") then Some (only Certificates) else
    (kind_step (kind_of word) word))

-- the next word
abbrev pub step_of : State → List ℕ → Option Step
step_of state.Arguments word = if is_name word then Some (only (Name word)) else option_step word
step_of (state.NumberOf kind) word = option_map (λ n. only (Number kind n)) (number_of kind word)
step_of state.Names word = Some (record { says = Some (Name word); state = state.Names })

-- whether words may end here
abbrev pub may_end : State → Bool
may_end state.Arguments = true
may_end (state.NumberOf kind) = false
may_end state.Names = true

-- what was said before, and what is said after it
abbrev pub onto : List Argument → Option (List Argument) → Option (List Argument)
onto front None = None
onto front (Some more) = Some (front ++ more)

abbrev pub said_of : Option Argument → List Argument
said_of None = []
said_of (Some argument) = argument ∷ []

-- what a step says, and what the words after it say
abbrev pub after_step : (State → Option (List Argument)) → Option Step → Option (List Argument)
after_step rest None = None
after_step rest (Some step) = onto (said_of step.says) (rest step.state)

-- the names and options of words
abbrev pub arguments_of : State → List (List ℕ) → Option (List Argument)
arguments_of from [] = if may_end from then Some [] else None
arguments_of from (word ∷ words) = after_step (λ next. arguments_of next words) (step_of from word)

-- how often an option is given after this
abbrev pub given_after : Given → List ℕ → Given
given_after Never ns = given_of ns
given_after (Once n) [] = Once n
given_after (Once n) (m ∷ ms) = Often
given_after Often ns = Often

abbrev pub count_of : Bool → ℕ
count_of false = 0
count_of true = 1

-- the names but the last, and the last
abbrev pub last_of : List (List ℕ) → Option (List (List ℕ) × List ℕ)
last_of [] = None
last_of (name ∷ []) = Some ([], name)
last_of (name ∷ next ∷ names) = option_map (λ p. (name ∷ p.0, p.1)) (last_of (next ∷ names))

abbrev pub plan_from : Option Source → Option ℕ → Option Bool → Option Command
plan_from (Some source) (Some workers) (Some certificates) = Some (command.Plan source workers certificates)
plan_from _ _ _ = None

abbrev pub plan_of : List Argument → Option Command
plan_of arguments =
    plan_from (source_of (names_in arguments) (given_in Generate arguments) (given_in Seed arguments))
    (workers_of (given_in Workers arguments)) (asked_of (certificates_in arguments))

abbrev pub check_from : Given → Option Bool → Option Source → List ℕ → Option Command
check_from Never (Some false) (Some source) certificates = Some (command.Check source certificates)
check_from _ _ _ _ = None

abbrev pub check_of : List Argument → Option Command
check_of arguments =
    option_and_then (λ p. check_from (given_in Workers arguments) (asked_of (certificates_in arguments))
    (source_of p.0 (given_in Generate arguments) (given_in Seed arguments)) p.1)
    (last_of (names_in arguments))

abbrev pub replay_of : List Argument → Option Command
replay_of (Name settings ∷ Name trace ∷ []) = Some (command.Replay settings trace)
replay_of _ = None

-- the command of words
abbrev pub command_of : List (List ℕ) → Option Command
command_of [] = None
command_of (word ∷ words) =
    if bytes_eq word (codes "replay") then option_and_then replay_of (arguments_of state.Arguments words) else
    (if bytes_eq word (codes "plan") then option_and_then plan_of (arguments_of state.Arguments words) else
    (if bytes_eq word (codes "check") then option_and_then check_of (arguments_of state.Arguments words) else None))
