-- How a run ends: at which status, behind which calls and with which text.
use Rattle.std.specs.Prelude.{◌≡◌, ◌<◌, ℕ, true, false, List, [], ◌∷◌, ◌++◌, Option, IfSome, ◌⊎◌, codes, decimal}
use Rattle.mon_words.specs.declared.command.Command.{Command}
use Rattle.mon_words.specs.declared.command.Command.TheVariants as command
use Rattle.mon_words.specs.declared.command.Source.{Source}
use Rattle.mon_words.specs.declared.command.Source.TheVariants.{File, Generate}
use Rattle.mon_words.specs.Words.{Spells}
use Rattle.mon_world.specs.declared.calls.Call.{Call}
use Rattle.mon_world.specs.declared.calls.Call.TheVariants.{Read, Write, Say}
use Rattle.monocle.specs.Calls.{said_by}
use Rattle.monocle.specs.Replay.{CantRun}
use Rattle.monocle.specs.Planning.{Contents, GivesNone, GivesSome, HasNoSpelling}

-- a file of this name can't be read
abbrev pub unread : List ℕ → List ℕ
unread name = codes "monocle: cannot read " ++ (name ++ codes "\n")

-- a file is bad from this byte on
abbrev pub bad_at : List ℕ → ℕ → List ℕ
bad_at what offset = what ++ (codes ": offset " ++ (decimal offset ++ codes "\n"))

-- one text is said
abbrev pub IsSay : List ℕ → List Call → Type 0
IsSay text calls = calls ≡ Say text ∷ []

-- behind the calls so far a file could not be read
abbrev pub IsUnread : List Call → List ℕ → ℕ → List Call → Type 0
IsUnread so_far name status calls = (status ≡ 3) × (calls ≡ so_far ++ Read name false ∷ Say (unread name) ∷ [])

-- the calls so far have read files of which this holds, and this line is said of it
abbrev pub IsBad : List Call → List ℕ → Option Contents → (Contents → Type 0) → ℕ → List Call → Type 0
IsBad so_far line told cause status calls = (status ≡ 5) × (calls ≡ so_far ++ Say line ∷ []) × IfSome told cause

-- behind the calls so far there was one write, and nothing is said where all is well
abbrev pub IsWritten : List Call → ℕ → ℕ → List Call → Type 0
IsWritten so_far good status calls = (status ≡ good) × (calls ≡ so_far ++ Write true ∷ [])

-- behind the calls so far there was one write, which failed
abbrev pub IsUnwritten : List Call → ℕ → List Call → Type 0
IsUnwritten so_far status calls = (status ≡ 6) × (calls ≡ so_far ++ Write false ∷ Say (codes "monocle: cannot write\n") ∷ [])

-- somewhere there was no memory
abbrev pub IsWant : ℕ → List Call → Type 0
IsWant status calls = (status ≡ 7) × (said_by calls ≡ codes "monocle: out of memory\n")

-- where a file can't be read
abbrev pub IsReadEnd : List Call → List ℕ → ℕ → List Call → Type 0
IsReadEnd so_far name status calls = IsUnread so_far name status calls ⊎ IsWant status calls

-- where bytes were to be written, which is done at a status
abbrev pub IsWriteEnd : List Call → ℕ → ℕ → List Call → Type 0
IsWriteEnd so_far good status calls = IsWritten so_far good status calls ⊎ (IsUnwritten so_far status calls ⊎ IsWant status calls)

-- what is read of a source
abbrev pub reads_of : Source → List Call
reads_of (File name) = Read name true ∷ []
reads_of (Generate n seed) = []

-- where a source gives no table
abbrev pub IsSourceEnd : Option Contents → Source → ℕ → List Call → Type 0
IsSourceEnd told (File name) status calls =
    IsUnread [] name status calls
    ⊎ (((offset : ℕ) × IsBad (Read name true ∷ []) (bad_at (codes "monocle: table") offset) told (λ files. GivesNone files (File name) offset) status calls)
    ⊎ IsWant status calls)
IsSourceEnd told (Generate n seed) status calls = IsWant status calls

-- it is said that a file is bad from this byte on
abbrev pub IsBadSay : List ℕ → ℕ → ℕ → List Call → Type 0
IsBadSay what offset status calls = ((status ≡ 5) × IsSay (bad_at what offset) calls) ⊎ IsWant status calls

-- where there is no trace that can be run: settings are read before the trace
abbrev pub IsTraceEnd : Option Contents → List ℕ → List ℕ → ℕ → List Call → Type 0
IsTraceEnd told settings trace status calls =
    IsUnread [] settings status calls
    ⊎ (IsUnread (Read settings true ∷ []) trace status calls
    ⊎ (((offset : ℕ) × IsBad (Read settings true ∷ Read trace true ∷ []) (bad_at (codes "monocle: trace") offset) told (λ files. CantRun files settings trace offset) status calls)
    ⊎ IsWant status calls))

-- where the file of this name gives no certificates
abbrev pub IsFileEnd : Option Contents → List ℕ → ℕ → List Call → Type 0
IsFileEnd told name status calls =
    IsUnread [] name status calls
    ⊎ (((offset : ℕ) × IsBad (Read name true ∷ []) (bad_at (codes "monocle: certificates") offset) told (λ files. HasNoSpelling files name offset) status calls)
    ⊎ IsWant status calls)

-- where a source gives a table and a file no certificates: the table is judged before the certificates are read
abbrev pub IsCertificatesEnd : Option Contents → Source → List ℕ → ℕ → List Call → Type 0
IsCertificatesEnd told source name status calls =
    IsUnread (reads_of source) name status calls
    ⊎ (((offset : ℕ) × IsBad (reads_of source ++ Read name true ∷ []) (bad_at (codes "monocle: certificates") offset) told (λ files. GivesSome files source × HasNoSpelling files name offset) status calls)
    ⊎ IsWant status calls)

-- of a command, by what the desk tells of its files
abbrev pub IsEndOf : Option Contents → Command → ℕ → List Call → Type 0
IsEndOf told (command.Replay settings trace) status calls =
    IsTraceEnd told settings trace status calls ⊎ IsWriteEnd (Read settings true ∷ Read trace true ∷ []) 0 status calls
IsEndOf told (command.Plan source workers certificates) status calls =
    IsSourceEnd told source status calls ⊎ IsWriteEnd (reads_of source) 0 status calls
IsEndOf told (command.Check source certificates) status calls =
    IsSourceEnd told source status calls
    ⊎ (IsCertificatesEnd told source certificates status calls
    ⊎ ((good : ℕ) × (good < 2) × IsWriteEnd (reads_of source ++ Read certificates true ∷ []) good status calls))

-- of words
abbrev pub IsEndFor : Option Contents → List (List ℕ) → ℕ → List Call → Type 0
IsEndFor told words status calls =
    ((status ≡ 2) × IsSay (codes "monocle: bad words\n") calls)
    ⊎ (IsWant status calls ⊎ ((c : Command) × Spells c words × IsEndOf told c status calls))
