-- The words that spell names and options are those that are read as them.
use Rattle.std.proofs.Common.{◌≡◌, ℕ, Bool, true, false, if◌then◌else◌, refl, sym, ap, ◌∙◌, subst, inl, inr, List, [], ◌∷◌, ◌++◌, map, Option, Some, None, option_map, option_and_then, decimal, codes, append_assoc, append-nil}
use Rattle.std.specs.Str.{bytes_eq}
use Rattle.std.proofs.lemmas.Slice.Eq.{bytes_eq-Decides}
use Rattle.mon_words.specs.declared.argument.Kind.{Kind}
use Rattle.mon_words.specs.declared.argument.Kind.TheVariants.{Workers, Generate, Seed}
use Rattle.mon_words.specs.declared.argument.Argument.{Argument}
use Rattle.mon_words.specs.declared.argument.Argument.TheVariants.{Name, Number, Certificates}
use Rattle.mon_words.specs.declared.reading.State.{State}
use Rattle.mon_words.specs.declared.reading.State.TheVariants as state
use Rattle.mon_words.specs.declared.reading.Step.{Step}
use Rattle.mon_words.specs.Options.{option_word, Takes}
use Rattle.mon_words.specs.Words.{is_name, SpellsOne, SpellsEach, SpellsAll}
use Rattle.mon_words.specs.Reading.{takes, kind_of, number_of, parts_of, joined_of, only, kind_step, option_step, onto, after_step, arguments_of}
use Rattle.mon_words.proofs.Numbers.{by_cases, is_at_most, takes_is, number_found, number_is}
use Rattle.mon_words.proofs.Parts.{parts_join}
use Rattle.std.proofs.lemmas.Bool.{and_from}

-- what follows, read from the words that are left
abbrev rest_of : List (List ℕ) → State → Option (List Argument)
rest_of words = λ next. arguments_of next words

onto_nothing : (o : Option (List Argument)) → onto [] o ≡ o
onto_nothing None = refl
onto_nothing (Some more) = refl

onto_onto : (front next : List Argument) (o : Option (List Argument)) → onto front (onto next o) ≡ onto (front ++ next) o
onto_onto front next None = refl
onto_onto front next (Some more) = ap (λ xs. Some xs) (sym (append_assoc front next more))

-- what is left of what is said
onto_is : (front : List Argument) (o : Option (List Argument)) (all : List Argument) → onto front o ≡ Some all
    → (more : List Argument) × (o ≡ Some more) × (front ++ more ≡ all)
onto_is front None all e = cc
onto_is front (Some more) all e = (more, refl, some_is _ _ e)
  where
    some_is : (x y : List Argument) → Some x ≡ Some y → x ≡ y
    some_is x y e = cc

-- words that spell are read

number_taken : (kind : Kind) (n : ℕ) → Takes kind n → number_of kind (decimal n) ≡ Some n
number_taken kind n t = number_found kind n (decimal n) (and_from _ _ (is_at_most _ _ t.0) (is_at_most _ _ t.1)) refl

apart_read : (kind : Kind) (n : ℕ) (words : List (List ℕ)) → number_of kind (decimal n) ≡ Some n
    → arguments_of state.Arguments (option_word kind ∷ decimal n ∷ words) ≡ onto (Number kind n ∷ []) (arguments_of state.Arguments words)
apart_read Workers n words e = onto_nothing _ ∙ ap (λ o. after_step (rest_of words) (option_map (λ m. only (Number Workers m)) o)) e
apart_read Generate n words e = onto_nothing _ ∙ ap (λ o. after_step (rest_of words) (option_map (λ m. only (Number Generate m)) o)) e
apart_read Seed n words e = onto_nothing _ ∙ ap (λ o. after_step (rest_of words) (option_map (λ m. only (Number Seed m)) o)) e

joined_read : (kind : Kind) (n : ℕ) (words : List (List ℕ)) → number_of kind (decimal n) ≡ Some n
    → arguments_of state.Arguments ((option_word kind ++ 61 ∷ decimal n) ∷ words) ≡ onto (Number kind n ∷ []) (arguments_of state.Arguments words)
joined_read Workers n words e = ap (λ o. after_step (rest_of words) (option_map only (option_map (λ m. Number Workers m) o))) e
joined_read Generate n words e = ap (λ o. after_step (rest_of words) (option_map only (option_map (λ m. Number Generate m) o))) e
joined_read Seed n words e = ap (λ o. after_step (rest_of words) (option_map only (option_map (λ m. Number Seed m) o))) e

one_read : (argument : Argument) (front words : List (List ℕ)) → SpellsOne argument front
    → arguments_of state.Arguments (front ++ words) ≡ onto (argument ∷ []) (arguments_of state.Arguments words)
one_read (Name word) front words h =
    ap (λ f. arguments_of state.Arguments (f ++ words)) h.0
    ∙ ap (λ b. after_step (rest_of words) (if b then Some (only (Name word)) else option_step word)) h.1
one_read (Number kind n) front words (takes, inl e) =
    ap (λ f. arguments_of state.Arguments (f ++ words)) e ∙ apart_read kind n words (number_taken kind n takes)
one_read (Number kind n) front words (takes, inr e) =
    ap (λ f. arguments_of state.Arguments (f ++ words)) e ∙ joined_read kind n words (number_taken kind n takes)
one_read Certificates front words h = ap (λ f. arguments_of state.Arguments (f ++ words)) h

each_read : (arguments : List Argument) (front words : List (List ℕ)) → SpellsEach arguments front
    → arguments_of state.Arguments (front ++ words) ≡ onto arguments (arguments_of state.Arguments words)
each_read [] front words h = ap (λ f. arguments_of state.Arguments (f ++ words)) h ∙ sym (onto_nothing _)
each_read (argument ∷ arguments) front words (first, rest, e, one, each) =
    ap (λ f. arguments_of state.Arguments f) (ap (λ f. f ++ words) e ∙ append_assoc first rest words)
    ∙ one_read argument first (rest ++ words) one
    ∙ ap (λ o. onto (argument ∷ []) o) (each_read arguments rest words each)
    ∙ onto_onto (argument ∷ []) arguments _

names_read : (names : List (List ℕ)) → arguments_of state.Names names ≡ Some (map (λ word. Name word) names)
names_read [] = refl
names_read (name ∷ names) = ap (λ o. onto (Name name ∷ []) o) (names_read names)

pub all_read : (arguments : List Argument) (words : List (List ℕ)) → SpellsAll arguments words → arguments_of state.Arguments words ≡ Some arguments
all_read arguments words (inl each) =
    ap (λ ws. arguments_of state.Arguments ws) (sym (append-nil words)) ∙ each_read arguments words [] each ∙ ap (λ xs. Some xs) (append-nil arguments)
all_read arguments words (inr (before, front, names, e, f, each)) =
    ap (λ ws. arguments_of state.Arguments ws) f
    ∙ each_read before front (codes "--" ∷ names) each
    ∙ ap (λ o. onto before o) (onto_nothing _ ∙ names_read names)
    ∙ ap (λ xs. Some xs) (sym e)

-- words that are read spell

one_more : (argument : Argument) (front : List (List ℕ)) (arguments : List Argument) (words : List (List ℕ))
    → SpellsOne argument front → SpellsAll arguments words → SpellsAll (argument ∷ arguments) (front ++ words)
one_more argument front arguments words one (inl each) = inl (front, words, refl, one, each)
one_more argument front arguments words one (inr (before, ahead, names, e, f, each)) =
    inr (argument ∷ before, front ++ ahead, names, ap (λ xs. argument ∷ xs) e, ap (λ ws. front ++ ws) f ∙ sym (append_assoc front ahead _), (front, ahead, refl, one, each))

-- what words say that are read from a state
abbrev Says : State → List Argument → List (List ℕ) → Type 0
Says state.Arguments arguments words = SpellsAll arguments words
Says (state.NumberOf kind) arguments words =
    (n : ℕ) × (more : List Argument) × (rest : List (List ℕ))
    × (arguments ≡ Number kind n ∷ more) × (words ≡ decimal n ∷ rest) × Takes kind n × SpellsAll more rest
Says state.Names arguments words = arguments ≡ map (λ word. Name word) words

-- all of what is said, where the words left say the rest
abbrev SaysAfter : List (List ℕ) → Type 0
SaysAfter words = (from : State) (arguments : List Argument) → arguments_of from words ≡ Some arguments → Says from arguments words

is_text : (xs ys : List ℕ) → bytes_eq xs ys ≡ true → xs ≡ ys
is_text xs ys e = (bytes_eq-Decides xs ys).0 e

-- the value of a choice
pub kept : {A : Type 0} (b : Bool) (x y : A) → b ≡ false → (if b then x else y) ≡ y
kept b x y e = ap (λ c. if c then x else y) e

pub chosen : {A : Type 0} (b : Bool) (x y : A) → b ≡ true → (if b then x else y) ≡ x
chosen b x y e = ap (λ c. if c then x else y) e

one_of : (a b : Kind) → Some a ≡ Some b → a ≡ b
one_of a b e = cc

kind_is : (word : List ℕ) (kind : Kind) → kind_of word ≡ Some kind → word ≡ option_word kind
kind_is word kind e = by_cases (bytes_eq word (codes "--workers"))
    (λ t. is_text _ _ t ∙ ap option_word (one_of Workers kind (sym (chosen _ _ _ t) ∙ e)))
    (λ f. by_cases (bytes_eq word (codes "--generate"))
    (λ t. is_text _ _ t ∙ ap option_word (one_of Generate kind (sym (kept _ _ _ f ∙ chosen _ _ _ t) ∙ e)))
    (λ g. by_cases (bytes_eq word (codes "--seed"))
    (λ t. is_text _ _ t ∙ ap option_word (one_of Seed kind (sym (kept _ _ _ f ∙ (kept _ _ _ g ∙ chosen _ _ _ t)) ∙ e)))
    (λ h. let q : None ≡ Some kind = sym (kept _ _ _ f ∙ (kept _ _ _ g ∙ kept _ _ _ h)) ∙ e in cc)))

number_takes : (kind : Kind) (text : List ℕ) (n : ℕ) → number_of kind text ≡ Some n → Takes kind n × (text ≡ decimal n)
number_takes kind text n e = let p = number_is kind text n e in (takes_is kind n p.0, p.1)

-- the words of a step that says an argument
spelled_only : (argument : Argument) (front words : List (List ℕ)) (arguments : List Argument) → SpellsOne argument front → SaysAfter words
    → after_step (rest_of words) (Some (only argument)) ≡ Some arguments → SpellsAll arguments (front ++ words)
spelled_only argument front words arguments one h e =
    let o = onto_is (argument ∷ []) (arguments_of state.Arguments words) arguments e in
    subst (λ xs. SpellsAll xs (front ++ words)) o.2 (one_more argument front o.0 words one (h state.Arguments o.0 o.1))

spelled_names : (word : List ℕ) (words : List (List ℕ)) (arguments : List Argument) → word ≡ codes "--" → SaysAfter words
    → after_step (rest_of words) (Some (record { says = None; state = state.Names })) ≡ Some arguments → SpellsAll arguments (word ∷ words)
spelled_names word words arguments is h e =
    inr ([], [], words, h state.Names arguments (sym (onto_nothing _) ∙ e), ap (λ w. w ∷ words) is, refl)

spelled_apart : (word : List ℕ) (kind : Kind) (words : List (List ℕ)) (arguments : List Argument) → word ≡ option_word kind → SaysAfter words
    → after_step (rest_of words) (Some (record { says = None; state = state.NumberOf kind })) ≡ Some arguments → SpellsAll arguments (word ∷ words)
spelled_apart word kind words arguments is h e = apart (h (state.NumberOf kind) arguments (sym (onto_nothing _) ∙ e))
  where
    apart : Says (state.NumberOf kind) arguments words → SpellsAll arguments (word ∷ words)
    apart (n, more, rest, said, left, takes, all) =
        subst (λ xs. SpellsAll xs (word ∷ words)) (sym said)
        (subst (λ ws. SpellsAll (Number kind n ∷ more) ws) (sym (ap (λ w. w ∷ words) is ∙ ap (λ ws. option_word kind ∷ ws) left))
        (one_more (Number kind n) (option_word kind ∷ decimal n ∷ []) more rest (takes, inl refl) all))

joined_is : (word : List ℕ) (argument : Argument) → joined_of word ≡ Some argument → SpellsOne argument (word ∷ [])
joined_is word argument e = from_parts (parts_of word) refl e
  where
    from_number : (p : List ℕ × List ℕ) (kind : Kind) → word ≡ p.0 ++ 61 ∷ p.1 → kind_of p.0 ≡ Some kind → (o : Option ℕ) → number_of kind p.1 ≡ o
        → option_map (λ n. Number kind n) o ≡ Some argument → SpellsOne argument (word ∷ [])
    from_number p kind is k None q e = cc
    from_number p kind is k (Some n) q e =
        let t = number_takes kind p.1 n q in
        let same : Number kind n ≡ argument = some_is _ _ e in
        subst (λ a. SpellsOne a (word ∷ [])) same
        (t.0, inr (ap (λ w. w ∷ []) (is ∙ ap (λ o. o ++ 61 ∷ p.1) (kind_is p.0 kind k) ∙ ap (λ v. option_word kind ++ 61 ∷ v) t.1)))
      where
        some_is : (x y : Argument) → Some x ≡ Some y → x ≡ y
        some_is x y e = cc

    from_kind : (p : List ℕ × List ℕ) → word ≡ p.0 ++ 61 ∷ p.1 → (o : Option Kind) → kind_of p.0 ≡ o
        → option_and_then (λ kind. option_map (λ n. Number kind n) (number_of kind p.1)) o ≡ Some argument → SpellsOne argument (word ∷ [])
    from_kind p is None q e = cc
    from_kind p is (Some kind) q e = from_number p kind is q (number_of kind p.1) refl e

    from_parts : (o : Option (List ℕ × List ℕ)) → parts_of word ≡ o
        → option_and_then (λ p. option_and_then (λ kind. option_map (λ n. Number kind n) (number_of kind p.1)) (kind_of p.0)) o ≡ Some argument
        → SpellsOne argument (word ∷ [])
    from_parts None q e = cc
    from_parts (Some p) q e = from_kind p (parts_join word p q) (kind_of p.0) refl e

spelled_joined : (word : List ℕ) (words : List (List ℕ)) (arguments : List Argument) → SaysAfter words → (o : Option Argument) → joined_of word ≡ o
    → after_step (rest_of words) (option_map only o) ≡ Some arguments → SpellsAll arguments (word ∷ words)
spelled_joined word words arguments h None q e = cc
spelled_joined word words arguments h (Some argument) q e = spelled_only argument (word ∷ []) words arguments (joined_is word argument q) h e

spelled_kind : (word : List ℕ) (words : List (List ℕ)) (arguments : List Argument) → SaysAfter words → (o : Option Kind) → kind_of word ≡ o
    → after_step (rest_of words) (kind_step o word) ≡ Some arguments → SpellsAll arguments (word ∷ words)
spelled_kind word words arguments h None q e = spelled_joined word words arguments h (joined_of word) refl e
spelled_kind word words arguments h (Some kind) q e = spelled_apart word kind words arguments (kind_is word kind q) h e

-- a step after which all is said
abbrev Steps : List (List ℕ) → List Argument → Option Step → Type 0
Steps words arguments step = after_step (rest_of words) step ≡ Some arguments

spelled_option : (word : List ℕ) (words : List (List ℕ)) (arguments : List Argument) → SaysAfter words
    → Steps words arguments (option_step word) → SpellsAll arguments (word ∷ words)
spelled_option word words arguments h e = by_cases (bytes_eq word (codes "--"))
    (λ t. spelled_names word words arguments (is_text _ _ t) h (subst (Steps words arguments) (chosen _ _ _ t) e))
    (λ f. by_cases (bytes_eq word (codes "--certificates"))
    (λ t. spelled_only Certificates (word ∷ []) words arguments (ap (λ w. w ∷ []) (is_text _ _ t)) h
    (subst (Steps words arguments) (kept _ _ _ f ∙ chosen _ _ _ t) e))
    (λ g. spelled_kind word words arguments h (kind_of word) refl (subst (Steps words arguments) (kept _ _ _ f ∙ kept _ _ _ g) e)))

says_number : (kind : Kind) (word : List ℕ) (words : List (List ℕ)) (arguments : List Argument) → SaysAfter words → (o : Option ℕ) → number_of kind word ≡ o
    → Steps words arguments (option_map (λ n. only (Number kind n)) o) → Says (state.NumberOf kind) arguments (word ∷ words)
says_number kind word words arguments h None q e = cc
says_number kind word words arguments h (Some n) q e =
    let o = onto_is (Number kind n ∷ []) (arguments_of state.Arguments words) arguments e in
    let t = number_takes kind word n q in
    (n, o.0, words, sym o.2, ap (λ w. w ∷ words) t.1, t.0, h state.Arguments o.0 o.1)

said : (words : List (List ℕ)) → SaysAfter words
said [] state.Arguments arguments e = inl_nothing arguments e
  where
    inl_nothing : (xs : List Argument) → Some [] ≡ Some xs → SpellsAll xs []
    inl_nothing [] e = inl refl
    inl_nothing (x ∷ xs) e = cc
said [] (state.NumberOf kind) arguments e = cc
said [] state.Names arguments e = nothing arguments e
  where
    nothing : (xs : List Argument) → Some [] ≡ Some xs → xs ≡ []
    nothing xs e = cc
said (word ∷ words) state.Arguments arguments e = by_cases (is_name word)
    (λ t. spelled_only (Name word) (word ∷ []) words arguments (refl, t) (said words) (subst (Steps words arguments) (chosen _ _ _ t) e))
    (λ f. spelled_option word words arguments (said words) (subst (Steps words arguments) (kept _ _ _ f) e))
said (word ∷ words) (state.NumberOf kind) arguments e = says_number kind word words arguments (said words) (number_of kind word) refl e
said (word ∷ words) state.Names arguments e =
    let o = onto_is (Name word ∷ []) (arguments_of state.Names words) arguments e in
    sym o.2 ∙ ap (λ xs. Name word ∷ xs) (said words state.Names o.0 o.1)

pub all_spelled : (arguments : List Argument) (words : List (List ℕ)) → arguments_of state.Arguments words ≡ Some arguments → SpellsAll arguments words
all_spelled arguments words e = said words state.Arguments arguments e
