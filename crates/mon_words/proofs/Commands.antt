-- The words that spell a command are those that are read as it.
use Rattle.std.proofs.Common.{◌≡◌, ℕ, Bool, true, false, refl, sym, ap, ◌∙◌, subst, List, [], ◌∷◌, ◌++◌, Option, Some, None, Result, Ok, Err, IfOk, option_map, option_and_then, codes, zero, suc}
use Rattle.std.specs.Str.{bytes_eq}
use Rattle.std.proofs.lemmas.Slice.Eq.{bytes_eq-Decides}
use Rattle.mon_words.specs.declared.argument.Kind.TheVariants.{Workers, Generate, Seed}
use Rattle.mon_words.specs.declared.argument.Argument.{Argument}
use Rattle.mon_words.specs.declared.argument.Argument.TheVariants.{Name, Number, Certificates}
use Rattle.mon_words.specs.declared.command.Source.{Source}
use Rattle.mon_words.specs.declared.command.Command.{Command}
use Rattle.mon_words.specs.declared.command.Command.TheVariants as command
use Rattle.mon_words.specs.declared.given.Given.{Given}
use Rattle.mon_words.specs.declared.given.Given.TheVariants.{Never, Once, Often}
use Rattle.mon_text.specs.declared.fault.TextFault.{TextFault}
use Rattle.mon_text.specs.declared.fault.TextFault.TheVariants.{Bad, OutOfMemory}
use Rattle.mon_text.specs.Reads.{Reads}
use Rattle.mon_words.specs.declared.reading.State.TheVariants as state
use Rattle.mon_words.specs.Words.{names_in, certificates_in, given_in, source_of, workers_of, asked_of, AsksPlan, AsksCheck, SpellsAll, Spells}
use Rattle.mon_words.specs.Reading.{arguments_of, last_of, plan_from, plan_of, check_from, check_of, replay_of, command_of}
use Rattle.mon_words.proofs.Numbers.{by_cases}
use Rattle.mon_words.proofs.Arguments.{all_read, all_spelled, chosen, kept}

-- the command that words spell is read

last_is : (names : List (List ℕ)) (last : List ℕ) → last_of (names ++ last ∷ []) ≡ Some (names, last)
last_is [] last = refl
last_is (a ∷ []) last = refl
last_is (a ∷ b ∷ names) last = ap (λ o. option_map (λ p. (a ∷ p.0, p.1)) o) (last_is (b ∷ names) last)

plan_read : (source : Source) (workers : ℕ) (certificates : Bool) (arguments : List Argument) → AsksPlan source workers certificates arguments
    → plan_of arguments ≡ Some (command.Plan source workers certificates)
plan_read source workers certificates arguments (s, w, c) =
    ap (λ o. plan_from o (workers_of (given_in Workers arguments)) (asked_of (certificates_in arguments))) s
    ∙ ap (λ o. plan_from (Some source) o (asked_of (certificates_in arguments))) w
    ∙ ap (λ o. plan_from (Some source) (Some workers) o) c

check_read : (source : Source) (certificates : List ℕ) (arguments : List Argument) → AsksCheck source certificates arguments
    → check_of arguments ≡ Some (command.Check source certificates)
check_read source certificates arguments (names, n, s, w, c) =
    ap (λ o. option_and_then (λ p. check_from (given_in Workers arguments) (asked_of (certificates_in arguments))
    (source_of p.0 (given_in Generate arguments) (given_in Seed arguments)) p.1) o)
    (ap last_of n ∙ last_is names certificates)
    ∙ ap (λ g. check_from g (asked_of (certificates_in arguments)) (source_of names (given_in Generate arguments) (given_in Seed arguments)) certificates) w
    ∙ ap (λ k. check_from Never (asked_of k) (source_of names (given_in Generate arguments) (given_in Seed arguments)) certificates) c
    ∙ ap (λ o. check_from Never (Some false) o certificates) s

pub command_read : (command : Command) (words : List (List ℕ)) → Spells command words → command_of words ≡ Some command
command_read (command.Replay settings trace) words (rest, e, all) =
    ap command_of e ∙ ap (λ o. option_and_then replay_of o) (all_read (Name settings ∷ Name trace ∷ []) rest all)
command_read (command.Plan source workers certificates) words (rest, arguments, e, all, asks) =
    ap command_of e ∙ ap (λ o. option_and_then plan_of o) (all_read arguments rest all) ∙ plan_read source workers certificates arguments asks
command_read (command.Check source certificates) words (rest, arguments, e, all, asks) =
    ap command_of e ∙ ap (λ o. option_and_then check_of o) (all_read arguments rest all) ∙ check_read source certificates arguments asks

-- the words of a command that is read spell it

last_joins : (names : List (List ℕ)) (p : List (List ℕ) × List ℕ) → last_of names ≡ Some p → names ≡ p.0 ++ p.1 ∷ []
last_joins [] p e = cc
last_joins (a ∷ []) p e = ap (λ r. r.0 ++ r.1 ∷ []) (some_is _ _ e)
  where
    some_is : (x y : List (List ℕ) × List ℕ) → Some x ≡ Some y → x ≡ y
    some_is x y e = cc
last_joins (a ∷ b ∷ names) p e = further (last_of (b ∷ names)) (λ r f. last_joins (b ∷ names) r f) e
  where
    some_is : (x y : List (List ℕ) × List ℕ) → Some x ≡ Some y → x ≡ y
    some_is x y e = cc

    further : (o : Option (List (List ℕ) × List ℕ)) → ((r : List (List ℕ) × List ℕ) → o ≡ Some r → b ∷ names ≡ r.0 ++ r.1 ∷ [])
        → option_map (λ r. (a ∷ r.0, r.1)) o ≡ Some p → a ∷ b ∷ names ≡ p.0 ++ p.1 ∷ []
    further None h e = cc
    further (Some r) h e = ap (λ xs. a ∷ xs) (h r refl) ∙ ap (λ r. r.0 ++ r.1 ∷ []) (some_is _ _ e)

same_command : (a b : Command) → Some a ≡ Some b → a ≡ b
same_command a b e = cc

plan_spelled : (words rest : List (List ℕ)) (arguments : List Argument) (c : Command) → words ≡ codes "plan" ∷ rest → SpellsAll arguments rest
    → plan_of arguments ≡ Some c → Spells c words
plan_spelled words rest arguments c is all e = from _ _ _ refl refl refl e
  where
    from : (s : Option Source) (w : Option ℕ) (x : Option Bool) → source_of (names_in arguments) (given_in Generate arguments) (given_in Seed arguments) ≡ s
        → workers_of (given_in Workers arguments) ≡ w → asked_of (certificates_in arguments) ≡ x → plan_from s w x ≡ Some c → Spells c words
    from None w x a b d e = cc
    from (Some s) None x a b d e = cc
    from (Some s) (Some w) None a b d e = cc
    from (Some s) (Some w) (Some x) a b d e = subst (λ c. Spells c words) (same_command _ _ e) (rest, arguments, is, all, (a, b, d))

none_asked : (n : ℕ) → asked_of n ≡ Some false → n ≡ 0
none_asked zero e = refl
none_asked (suc zero) e = cc
none_asked (suc (suc n)) e = cc

check_spelled : (words rest : List (List ℕ)) (arguments : List Argument) (c : Command) → words ≡ codes "check" ∷ rest → SpellsAll arguments rest
    → check_of arguments ≡ Some c → Spells c words
check_spelled words rest arguments c is all e = from_names (last_of (names_in arguments)) refl e
  where
    from : (p : List (List ℕ) × List ℕ) (g : Given) (x : Option Bool) (s : Option Source) → names_in arguments ≡ p.0 ++ p.1 ∷ [] → given_in Workers arguments ≡ g
        → asked_of (certificates_in arguments) ≡ x → source_of p.0 (given_in Generate arguments) (given_in Seed arguments) ≡ s
        → check_from g x s p.1 ≡ Some c → Spells c words
    from p (Once n) x s l g a b e = cc
    from p Often x s l g a b e = cc
    from p Never None s l g a b e = cc
    from p Never (Some true) s l g a b e = cc
    from p Never (Some false) None l g a b e = cc
    from p Never (Some false) (Some s) l g a b e =
        subst (λ c. Spells c words) (same_command _ _ e) (rest, arguments, is, all, (p.0, l, b, g, none_asked _ a))

    from_names : (o : Option (List (List ℕ) × List ℕ)) → last_of (names_in arguments) ≡ o
        → option_and_then (λ p. check_from (given_in Workers arguments) (asked_of (certificates_in arguments))
        (source_of p.0 (given_in Generate arguments) (given_in Seed arguments)) p.1) o ≡ Some c → Spells c words
    from_names None q e = cc
    from_names (Some p) q e = from p _ _ _ (last_joins (names_in arguments) p q) refl refl refl e

replay_spelled : (words rest : List (List ℕ)) (arguments : List Argument) (c : Command) → words ≡ codes "replay" ∷ rest → SpellsAll arguments rest
    → replay_of arguments ≡ Some c → Spells c words
replay_spelled words rest [] c is all e = cc
replay_spelled words rest (Number kind n ∷ more) c is all e = cc
replay_spelled words rest (Certificates ∷ more) c is all e = cc
replay_spelled words rest (Name settings ∷ []) c is all e = cc
replay_spelled words rest (Name settings ∷ Number kind n ∷ more) c is all e = cc
replay_spelled words rest (Name settings ∷ Certificates ∷ more) c is all e = cc
replay_spelled words rest (Name settings ∷ Name trace ∷ []) c is all e = subst (λ c. Spells c words) (same_command _ _ e) (rest, is, all)
replay_spelled words rest (Name settings ∷ Name trace ∷ third ∷ more) c is all e = cc

-- a command that is read from names and options
read_from : (rest : List (List ℕ)) (c : Command) (of : List Argument → Option Command)
    → option_and_then of (arguments_of state.Arguments rest) ≡ Some c → (arguments : List Argument) × SpellsAll arguments rest × (of arguments ≡ Some c)
read_from rest c of e = from (arguments_of state.Arguments rest) refl e
  where
    from : (o : Option (List Argument)) → arguments_of state.Arguments rest ≡ o → option_and_then of o ≡ Some c
        → (arguments : List Argument) × SpellsAll arguments rest × (of arguments ≡ Some c)
    from None q e = cc
    from (Some arguments) q e = (arguments, all_spelled arguments rest q, e)

first_word : (word : List ℕ) (rest : List (List ℕ)) (text : List ℕ) → bytes_eq word text ≡ true → word ∷ rest ≡ text ∷ rest
first_word word rest text t = ap (λ w. w ∷ rest) ((bytes_eq-Decides word text).0 t)

pub command_spelled : (words : List (List ℕ)) (c : Command) → command_of words ≡ Some c → Spells c words
command_spelled [] c e = cc
command_spelled (word ∷ rest) c e = by_cases (bytes_eq word (codes "replay"))
    (λ t. let r = read_from rest c replay_of (sym (chosen _ _ _ t) ∙ e) in
    replay_spelled (word ∷ rest) rest r.0 c (first_word word rest _ t) r.1 r.2)
    (λ f. by_cases (bytes_eq word (codes "plan"))
    (λ t. let r = read_from rest c plan_of (sym (kept _ _ _ f ∙ chosen _ _ _ t) ∙ e) in
    plan_spelled (word ∷ rest) rest r.0 c (first_word word rest _ t) r.1 r.2)
    (λ g. by_cases (bytes_eq word (codes "check"))
    (λ t. let r = read_from rest c check_of (sym (kept _ _ _ f ∙ (kept _ _ _ g ∙ chosen _ _ _ t)) ∙ e) in
    check_spelled (word ∷ rest) rest r.0 c (first_word word rest _ t) r.1 r.2)
    (λ h. let q : None ≡ Some c = sym (kept _ _ _ f ∙ (kept _ _ _ g ∙ kept _ _ _ h)) ∙ e in cc)))

-- what the answer of a reader says

pub spelled : (words : List (List ℕ)) (r : Result Command TextFault) → Reads (λ c. c) r (command_of words) → IfOk r (λ c. Spells c words)
spelled words (Ok c) e = command_spelled words c e
spelled words (Err f) e = tt

pub alone : (words : List (List ℕ)) (r : Result Command TextFault) → Reads (λ c. c) r (command_of words)
    → IfOk r (λ c. (other : Command) → Spells other words → other ≡ c)
alone words (Ok c) e = λ other s. same_command other c (sym (command_read other words s) ∙ e)
alone words (Err f) e = tt

pub bad : (words : List (List ℕ)) (r : Result Command TextFault) → Reads (λ c. c) r (command_of words)
    → r ≡ Err Bad → (c : Command) → Spells c words → ⊥
bad words (Ok c) e q other s = cc
bad words (Err Bad) e q other s = let p = command_read other words s in cc
bad words (Err OutOfMemory) e q other s = cc
