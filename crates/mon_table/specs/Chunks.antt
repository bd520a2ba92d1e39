-- Chunks: the parts in which a table is kept, each behind an `Arc`.
use Rattle.std.specs.Prelude.{◌≡◌, ℕ, zero, suc, ◌+◌, ◌<◌, ◌≤◌, ◌^◌, Bool, true, if◌then◌else◌, IsTrue, List, [], ◌∷◌, ◌++◌, length, take, drop, Option, Some, None}
use Rattle.std.specs.List.{AllByRecursion, list_all}
use Rattle.mon_header.specs.declared.header.Header.{Header}
use Rattle.mon_header.specs.Matching.{Matching, overlaps}
use Rattle.std.specs.Option.{is_none}
use Rattle.std.specs.Arc.{arc_value}
use Rattle.std.specs.Global.{Global}
use Rattle.std.specs.declared.sync.Arc.{Arc}
use Rattle.mon_table.specs.declared.rule.Rule.{Rule}
use Rattle.mon_table.specs.Rules.{Identity, identity_of, rank, comes_before}
use Rattle.mon_table.specs.Tables.{IsTable, AllActionsFit, rule_of, without, with_rule}
use Rattle.mon_table.specs.Places.{place_of, stands_at, hides}

-- a chunk, which owners may share: its rules
abbrev pub Shared : Type 0
Shared = Arc (List Rule) Global

-- the rules of chunks, one chunk after the other
abbrev pub rules_of : List Shared → List Rule
rules_of [] = []
rules_of (c ∷ cs) = arc_value c ++ rules_of cs

-- no chunk is empty
abbrev pub NoneEmpty : List Shared → Type 0
NoneEmpty cs = AllByRecursion (λ c. 0 < length (arc_value c)) cs

-- the rules of the chunk at a place, and none past the last
abbrev pub chunk_at : List Shared → ℕ → List Rule
chunk_at [] n = []
chunk_at (c ∷ cs) zero = arc_value c
chunk_at (c ∷ cs) (suc n) = chunk_at cs n

-- each rule overlaps the match
abbrev pub all_overlap : Matching → List Rule → Bool
all_overlap m t = list_all (λ r. overlaps m r.matching) t

-- the rules of a chunk, where there is one
abbrev pub rules_in : Option (List Rule) → List Rule
rules_in None = []
rules_in (Some t) = t

-- the same of a chunk behind an `Arc`
abbrev pub part_rules : Option Shared → List Rule
part_rules None = []
part_rules (Some c) = arc_value c

-- the place among all rules of one that stands at a place of a chunk
abbrev pub place_in : List Shared → ℕ → ℕ → ℕ
place_in cs at place = length (rules_of (take at cs)) + place

-- the last rule stands before the identity
abbrev pub ends_before : Identity → List Rule → Bool
ends_before i [] = true
ends_before i (r ∷ []) = comes_before (identity_of r) i
ends_before i (r ∷ s ∷ t) = ends_before i (s ∷ t)

-- each rule stands before the identity
abbrev pub AllBefore : Identity → List Rule → Type 0
AllBefore i t = AllByRecursion (λ r. comes_before (identity_of r) i ≡ true) t

-- the identity stands before each rule
abbrev pub AllBehind : Identity → List Rule → Type 0
AllBehind i t = AllByRecursion (λ r. comes_before i (identity_of r) ≡ true) t

-- a chunk in which the identity stands or would stand: all before it stand before the identity, all behind it behind
pub record IsAround (i : Identity) (cs : List Shared) (at : ℕ) : Type 0 where
  pub within : at < length cs
  pub before : AllBefore i (rules_of (take at cs))
  pub behind : AllBehind i (rules_of (drop (suc at) cs))

-- a chunk and a place in it are those at which the identity stands or would stand
pub record IsSpot (i : Identity) (cs : List Shared) (at n : ℕ) (found : Bool) : Type 0 where
  pub chunk : at < length cs
  pub within : n ≤ length (chunk_at cs at)
  pub place : place_in cs at n ≡ place_of i (rules_of cs)
  pub stands : found ≡ stands_at i (place_of i (rules_of cs)) (rules_of cs)
  pub there : IsTrue found → n < length (chunk_at cs at)

-- what a table keeps: its chunks, and the number of their rules
pub record IsKept (cs : List Shared) (count : ℕ) : Type 0 where
  pub table : IsTable (rules_of cs)
  pub fit : AllActionsFit (rules_of cs)
  pub counted : count ≡ length (rules_of cs)
  pub few : length (rules_of cs) < 2 ^ 32
  pub none_empty : NoneEmpty cs

-- chunks before and after a rule was put, and the rule that it replaced
pub record AfterPut (r : Rule) (old : Option Rule) (cs ds : List Shared) : Type 0 where
  pub rules : rules_of ds ≡ with_rule r (rules_of cs)
  pub replaced : old ≡ rule_of (identity_of r) (rules_of cs)
  pub counted : length (rules_of ds) ≡ (if is_none old then suc (length (rules_of cs)) else length (rules_of cs))

-- chunks before and after the rule of an identity was cut, and that rule
pub record AfterCut (i : Identity) (old : Option Rule) (cs ds : List Shared) : Type 0 where
  pub rules : rules_of ds ≡ without i (rules_of cs)
  pub taken : old ≡ rule_of i (rules_of cs)
  pub counted : (if is_none old then length (rules_of ds) else suc (length (rules_of ds))) ≡ length (rules_of cs)

-- the effective priority of the first sure rule that matches the header, where there is one
abbrev pub hiding_rank : Header → List Rule → Option ℕ
hiding_rank h [] = None
hiding_rank h (r ∷ t) = if hides h r then Some (rank r) else hiding_rank h t
