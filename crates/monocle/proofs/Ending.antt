-- How the parts of a run end it.
use Rattle.std.proofs.Common.{◌≡◌, ◌<◌, ℕ, Bool, true, false, List, [], ◌∷◌, ◌++◌, Option, Some, None, Ok, Err, IfSome, inl, inr, refl, sym, ap, subst, ◌∙◌, codes}
use Rattle.mon_trace.specs.Grammar.{Traced, trace_of}
use Rattle.mon_trace.proofs.FirstBad.{first_bad}
use Rattle.mon_words.specs.declared.command.Command.{Command}
use Rattle.mon_words.specs.declared.command.Command.TheVariants as command
use Rattle.mon_words.specs.declared.command.Source.{Source}
use Rattle.mon_words.specs.declared.command.Source.TheVariants.{File, Generate}
use Rattle.mon_words.specs.Words.{Spells}
use Rattle.mon_world.specs.declared.calls.Call.{Call}
use Rattle.mon_world.specs.declared.calls.Call.TheVariants.{Read, Write, Say}
use Rattle.monocle.specs.Calls.{said_by}
use Rattle.monocle.specs.Ending.{unread, bad_at, IsSay, IsBadSay, IsWant, IsReadEnd, IsWriteEnd, reads_of, IsSourceEnd, IsTraceEnd, IsFileEnd, IsEndOf, IsEndFor}
use Rattle.monocle.specs.Planning.{Contents, GivesNone, GivesSome, HasNoSpelling}
use Rattle.monocle.specs.Replay.{IsTraceFile, IsUnfollowed, CantRun}

-- calls that say nothing
abbrev pub AreSilent : List Call → Type 0
AreSilent a = (calls : List Call) → said_by (a ++ calls) ≡ said_by calls

pub reads-silent : (source : Source) → AreSilent (reads_of source)
reads-silent (File name) calls = refl
reads-silent (Generate n seed) calls = refl

pub want-behind : (a : List Call) (status : ℕ) → AreSilent a → status ≡ 7 → (calls : List Call) → IsWant 7 calls → IsWant status (a ++ calls)
want-behind a status silent seven calls want = (seven, silent calls ∙ want.1)

pub write-behind : (a : List Call) (good status : ℕ) → AreSilent a → (calls : List Call) → IsWriteEnd [] good status calls → IsWriteEnd a good status (a ++ calls)
write-behind a good status silent calls (inl done) = inl (done.0, ap (λ (cs : List Call). a ++ cs) done.1)
write-behind a good status silent calls (inr (inl failed)) = inr (inl (failed.0, ap (λ (cs : List Call). a ++ cs) failed.1))
write-behind a good status silent calls (inr (inr want)) = inr (inr (want.0, silent calls ∙ want.1))

pub read-failed : (name text : List ℕ) (status : ℕ) → status ≡ 3 → text ≡ unread name → (calls : List Call) → IsSay text calls → IsReadEnd [] name status (Read name false ∷ calls)
read-failed name text status three same calls e =
    inl (three, ap (λ (cs : List Call). Read name false ∷ cs) e ∙ ap (λ (said : List ℕ). Read name false ∷ Say said ∷ []) same)

pub read-want : (name : List ℕ) (status : ℕ) → status ≡ 7 → (calls : List Call) → IsWant 7 calls → IsReadEnd [] name status (Read name false ∷ calls)
read-want name status seven calls want = inr (seven, want.1)

pub write-failed : (good status : ℕ) → status ≡ 6 → (calls : List Call) → IsSay (codes "monocle: cannot write\n") calls → IsWriteEnd [] good status (Write false ∷ calls)
write-failed good status six calls e = inr (inl (six, ap (λ (cs : List Call). Write false ∷ cs) e))

pub write-want : (good status : ℕ) → status ≡ 7 → (calls : List Call) → IsWant 7 calls → IsWriteEnd [] good status (Write false ∷ calls)
write-want good status seven calls want = inr (inr (seven, want.1))

-- the settings can't be read
pub settings-end : (told : Option Contents) (settings trace : List ℕ) (status : ℕ) (calls : List Call) → IsReadEnd [] settings status calls → IsTraceEnd told settings trace status calls
settings-end told settings trace status calls (inl gone) = inl gone
settings-end told settings trace status calls (inr want) = inr (inr (inr want))

-- the trace can't be read
pub trace-end : (told : Option Contents) (settings trace : List ℕ) (status : ℕ) (calls : List Call) → IsReadEnd [] trace status calls → IsTraceEnd told settings trace status (Read settings true ∷ calls)
trace-end told settings trace status calls (inl gone) = inr (inl (gone.0, ap (λ (cs : List Call). Read settings true ∷ cs) gone.1))
trace-end told settings trace status calls (inr want) = inr (inr (inr want))

pub no-trace : (told : Option Contents) (settings trace before content read : List ℕ) → IfSome told (λ files. files settings ≡ Some before) → IfSome told (λ files. files trace ≡ Some content)
    → (offset : ℕ) → read ≡ content → trace_of read ≡ Err offset → IfSome told (λ files. CantRun files settings trace offset)
no-trace None settings trace before content read first next offset same none = first
no-trace (Some files) settings trace before content read first next offset same none = inl ((before, first), (content, next, first_bad content offset (ap trace_of (sym same) ∙ none)))

-- a trace that can't be run
pub cant-run : (told : Option Contents) (settings trace : List ℕ) (x : Traced) (offset : ℕ) → IfSome told (λ files. IsTraceFile files settings trace x) → IsUnfollowed x offset → IfSome told (λ files. CantRun files settings trace offset)
cant-run None settings trace x offset found bad = found
cant-run (Some files) settings trace x offset found bad = inr (x, found, bad)

pub trace-found : (told : Option Contents) (settings trace before content read : List ℕ) (x : Traced) → IfSome told (λ files. files settings ≡ Some before) → IfSome told (λ files. files trace ≡ Some content)
    → read ≡ content → trace_of read ≡ Ok x → IfSome told (λ files. IsTraceFile files settings trace x)
trace-found None settings trace before content read x first next same found = first
trace-found (Some files) settings trace before content read x first next same found = ((before, first), (content, next, ap trace_of (sym same) ∙ found))

pub trace-bad : (told : Option Contents) (settings trace : List ℕ) (status offset : ℕ) → IfSome told (λ files. CantRun files settings trace offset)
    → (calls : List Call) → IsBadSay (codes "monocle: trace") offset status calls → IsTraceEnd told settings trace status (Read settings true ∷ Read trace true ∷ calls)
trace-bad told settings trace status offset cause calls (inl said) = inr (inr (inl (offset, (said.0, ap (λ (cs : List Call). Read settings true ∷ Read trace true ∷ cs) said.1, cause))))
trace-bad told settings trace status offset cause calls (inr want) = inr (inr (inr (want.0, want.1)))

pub bad-said : (what text : List ℕ) (offset status : ℕ) → status ≡ 5 → text ≡ bad_at what offset → (calls : List Call) → IsSay text calls → IsBadSay what offset status calls
bad-said what text offset status five is calls e = inl (five, e ∙ ap (λ (t : List ℕ). Say t ∷ []) is)

pub bad-want : (what : List ℕ) (offset status : ℕ) → status ≡ 7 → (calls : List Call) → IsWant 7 calls → IsBadSay what offset status calls
bad-want what offset status seven calls want = inr (seven, want.1)

pub replay-bad : (told : Option Contents) (settings trace : List ℕ) (x : Traced) (status offset : ℕ) → IfSome told (λ files. IsTraceFile files settings trace x) → IsUnfollowed x offset
    → (calls : List Call) → IsBadSay (codes "monocle: trace") offset status calls → IsEndOf told (command.Replay settings trace) status (Read settings true ∷ Read trace true ∷ calls)
replay-bad told settings trace x status offset found bad calls said = inl (trace-bad told settings trace status offset (cant-run told settings trace x offset found bad) calls said)

-- a table's file
pub table-unread : (told : Option Contents) (name : List ℕ) (status : ℕ) (calls : List Call) → IsReadEnd [] name status calls → IsSourceEnd told (File name) status calls
table-unread told name status calls (inl gone) = inl gone
table-unread told name status calls (inr want) = inr (inr want)

pub table-bad : (told : Option Contents) (name : List ℕ) (offset : ℕ) (text : List ℕ) (status : ℕ) → status ≡ 5 → IfSome told (λ files. GivesNone files (File name) offset) → text ≡ bad_at (codes "monocle: table") offset
    → (calls : List Call) → IsSay text calls → IsSourceEnd told (File name) status (Read name true ∷ calls)
table-bad told name offset text status five cause is calls e = inr (inl (offset, (five, ap (λ (cs : List Call). Read name true ∷ cs) (e ∙ ap (λ (t : List ℕ). Say t ∷ []) is), cause)))

-- a certificate file
pub file-unread : (told : Option Contents) (name : List ℕ) (status : ℕ) (calls : List Call) → IsReadEnd [] name status calls → IsFileEnd told name status calls
file-unread told name status calls (inl gone) = inl gone
file-unread told name status calls (inr want) = inr (inr want)

pub file-bad : (told : Option Contents) (name : List ℕ) (offset : ℕ) (text : List ℕ) (status : ℕ) → status ≡ 5 → IfSome told (λ files. HasNoSpelling files name offset) → text ≡ bad_at (codes "monocle: certificates") offset
    → (calls : List Call) → IsSay text calls → IsFileEnd told name status (Read name true ∷ calls)
file-bad told name offset text status five cause is calls e = inr (inl (offset, (five, ap (λ (cs : List Call). Read name true ∷ cs) (e ∙ ap (λ (t : List ℕ). Say t ∷ []) is), cause)))

both : (told : Option Contents) (P Q : Contents → Type 0) → IfSome told P → IfSome told Q → IfSome told (λ files. P files × Q files)
both None P Q p q = p
both (Some files) P Q p q = (p, q)

-- certificates behind a table
pub certificates-end : (told : Option Contents) (source : Source) (name : List ℕ) (status : ℕ) → IfSome told (λ files. GivesSome files source)
    → (calls : List Call) → IsFileEnd told name status calls → IsEndOf told (command.Check source name) status (reads_of source ++ calls)
certificates-end told (File table) name status gives calls (inl gone) = inr (inl (inl (gone.0, ap (λ (cs : List Call). Read table true ∷ cs) gone.1)))
certificates-end told (File table) name status gives calls (inr (inl bad)) = inr (inl (inr (inl (
  bad.0,
  (
    bad.1.0,
    ap (λ (cs : List Call). Read table true ∷ cs) bad.1.1,
    both told (λ files. GivesSome files (File table)) (λ files. HasNoSpelling files name bad.0) gives bad.1.2,
  ),
))))
certificates-end told (File table) name status gives calls (inr (inr want)) = inr (inl (inr (inr want)))
certificates-end told (Generate n seed) name status gives calls (inl gone) = inr (inl (inl gone))
certificates-end told (Generate n seed) name status gives calls (inr (inl bad)) = inr (inl (inr (inl (
  bad.0,
  (
    bad.1.0,
    bad.1.1,
    both told (λ files. GivesSome files (Generate n seed)) (λ files. HasNoSpelling files name bad.0) gives bad.1.2,
  ),
))))
certificates-end told (Generate n seed) name status gives calls (inr (inr want)) = inr (inl (inr (inr want)))

pub checks-silent : (source : Source) (name : List ℕ) → AreSilent (reads_of source ++ Read name true ∷ [])
checks-silent (File table) name calls = refl
checks-silent (Generate n seed) name calls = refl

pub file-want : (told : Option Contents) (name : List ℕ) (status : ℕ) → status ≡ 7 → (calls : List Call) → IsWant 7 calls → IsFileEnd told name status (Read name true ∷ calls)
file-want told name status seven calls want = inr (inr (seven, want.1))

pub table-want : (told : Option Contents) (name : List ℕ) (status : ℕ) → status ≡ 7 → (calls : List Call) → IsWant 7 calls → IsSourceEnd told (File name) status (Read name true ∷ calls)
table-want told name status seven calls want = inr (inr (seven, want.1))

pub trace-want : (told : Option Contents) (settings trace : List ℕ) (status : ℕ) → status ≡ 7 → (calls : List Call) → IsWant 7 calls
    → IsTraceEnd told settings trace status (Read settings true ∷ Read trace true ∷ calls)
trace-want told settings trace status seven calls want = inr (inr (inr (seven, want.1)))

pub replay-written : (told : Option Contents) (settings trace : List ℕ) (status : ℕ) (calls : List Call) → IsWriteEnd [] 0 status calls
    → IsEndOf told (command.Replay settings trace) status (Read settings true ∷ Read trace true ∷ calls)
replay-written told settings trace status calls end = inr (write-behind (Read settings true ∷ Read trace true ∷ []) 0 status (λ calls. refl) calls end)

pub replay-want : (told : Option Contents) (settings trace : List ℕ) (status : ℕ) → status ≡ 7 → (calls : List Call) → IsWant 7 calls
    → IsEndOf told (command.Replay settings trace) status (Read settings true ∷ Read trace true ∷ calls)
replay-want told settings trace status seven calls want = inl (trace-want told settings trace status seven calls want)

pub plan-written : (told : Option Contents) (source : Source) (workers : ℕ) (certificates : Bool) (status : ℕ) (calls : List Call) → IsWriteEnd [] 0 status calls
    → IsEndOf told (command.Plan source workers certificates) status (reads_of source ++ calls)
plan-written told source workers certificates status calls end = inr (write-behind (reads_of source) 0 status (reads-silent source) calls end)

pub plan-want : (told : Option Contents) (source : Source) (workers : ℕ) (certificates : Bool) (status : ℕ) → status ≡ 7 → (calls : List Call) → IsWant 7 calls
    → IsEndOf told (command.Plan source workers certificates) status (reads_of source ++ calls)
plan-want told source workers certificates status seven calls want = inr (inr (inr (want-behind (reads_of source) status (reads-silent source) seven calls want)))

pub check-written : (told : Option Contents) (source : Source) (name : List ℕ) (good status : ℕ) → good < 2 → (calls : List Call) → IsWriteEnd [] good status calls
    → IsEndOf told (command.Check source name) status ((reads_of source ++ Read name true ∷ []) ++ calls)
check-written told source name good status low calls end =
    inr (inr (good, low, write-behind (reads_of source ++ Read name true ∷ []) good status (checks-silent source name) calls end))

pub check-want : (told : Option Contents) (source : Source) (name : List ℕ) (status : ℕ) → status ≡ 7 → (calls : List Call) → IsWant 7 calls
    → IsEndOf told (command.Check source name) status ((reads_of source ++ Read name true ∷ []) ++ calls)
check-want told source name status seven calls want =
    inr (inl (inr (inr (want-behind (reads_of source ++ Read name true ∷ []) status (checks-silent source name) seven calls want))))

pub certificates-end-at : (told now : Option Contents) (source : Source) (name : List ℕ) (status : ℕ) → now ≡ told → IfSome told (λ files. GivesSome files source)
    → (calls : List Call) → IsFileEnd now name status calls → IsEndOf told (command.Check source name) status (reads_of source ++ calls)
certificates-end-at told now source name status same gives calls end =
    certificates-end told source name status gives calls (subst (λ files. IsFileEnd files name status calls) same end)

pub no-trace-at : (told now : Option Contents) (settings trace before content read : List ℕ) → now ≡ told → IfSome told (λ files. files settings ≡ Some before)
    → IfSome now (λ files. files trace ≡ Some content) → (offset : ℕ) → read ≡ content → trace_of read ≡ Err offset → IfSome told (λ files. CantRun files settings trace offset)
no-trace-at told now settings trace before content read same first next offset is none =
    no-trace told settings trace before content read first (subst (λ files. IfSome files (λ f. f trace ≡ Some content)) same next) offset is none

-- the words that spell a check
pub check-end : (told : Option Contents) (words : List (List ℕ)) (spelled : Command) (source : Source) (name given : List ℕ) (status : ℕ) → Spells spelled words
    → spelled ≡ command.Check source name → given ≡ name → (calls : List Call) → IsEndOf told (command.Check source given) status calls → IsEndFor told words status calls
check-end told words spelled source name given status spells is same calls end =
    inr (inr (
      command.Check source given,
      subst (λ c. Spells c words) (is ∙ ap (λ (n : List ℕ). command.Check source n) (sym same)) spells,
      end,
    ))

-- the words that spell a plan
pub plan-end : (told : Option Contents) (words : List (List ℕ)) (spelled : Command) (source : Source) (workers : ℕ) (certificates : Bool) (status : ℕ) → Spells spelled words
    → spelled ≡ command.Plan source workers certificates → (calls : List Call) → IsEndOf told (command.Plan source workers certificates) status calls → IsEndFor told words status calls
plan-end told words spelled source workers certificates status spells is calls end =
    inr (inr (command.Plan source workers certificates, subst (λ c. Spells c words) is spells, end))

-- the words that spell a replay
pub replay-end : (told : Option Contents) (words : List (List ℕ)) (spelled : Command) (settings trace first second : List ℕ) (status : ℕ) → Spells spelled words
    → spelled ≡ command.Replay settings trace → first ≡ settings → second ≡ trace → (calls : List Call) → IsEndOf told (command.Replay first second) status calls → IsEndFor told words status calls
replay-end told words spelled settings trace first second status spells is one two calls end =
    inr (inr (
      command.Replay first second,
      subst (λ c. Spells c words) (is ∙ (ap (λ (n : List ℕ). command.Replay n trace) (sym one) ∙ ap (λ (n : List ℕ). command.Replay first n) (sym two))) spells,
      end,
    ))
