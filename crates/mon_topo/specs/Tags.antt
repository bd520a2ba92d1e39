-- Which tag a switch has, and which one it is given.
use Rattle.std.specs.Prelude.{◌≢◌, ℕ, not, ◌==◌, if◌then◌else◌, List, [], ◌∷◌, ◌++◌, map, find, Contains, Option, Some, None, option_and_then}
use Rattle.std.specs.List.{list_any, cons_option}
use Rattle.std.specs.List.Sorted.{IsStrictlyIncreasing}
use Rattle.mon_topo.specs.declared.topology.Link.{Link}
use Rattle.mon_topo.specs.declared.tagged.Tagged.{Tagged}

-- the tag of a switch
abbrev pub tag_of : ℕ → List Tagged → Option ℕ
tag_of switch [] = None
tag_of switch (t ∷ ts) = if t.switch == switch then Some t.tag else tag_of switch ts

-- the switch at the other end of a link
unfoldable pub far_end : ℕ → Link → Option ℕ
far_end switch l = if switch == l.a then Some l.b else (if switch == l.b then Some l.a else None)

-- the tag of the switch at the other end, if it has one yet
abbrev pub far_tag : ℕ → List Tagged → Link → Option ℕ
far_tag switch given l = option_and_then (λ far. tag_of far given) (far_end switch l)

-- the tags of the switches that are linked to this one
abbrev pub taken : ℕ → List Tagged → List Link → List ℕ
taken switch given [] = []
taken switch given (l ∷ ls) = cons_option (far_tag switch given l) (taken switch given ls)

-- the first tag of the list that isn't taken
abbrev pub first_free : List ℕ → List ℕ → Option ℕ
first_free taken tags = find (λ tag. not (list_any (λ other. other == tag) taken)) tags

-- one switch after the other takes the first tag that no linked switch has; none is left where this is None
abbrev pub greedy : List Link → List ℕ → List Tagged → List ℕ → Option (List Tagged)
greedy links tags given [] = Some given
greedy links tags given (s ∷ ss) =
    option_and_then
    (λ tag. greedy links tags (given ++ record { switch = s; tag = tag } ∷ []) ss)
    (first_free (taken s given links) tags)

-- the tag of each switch, in the order of the switches
abbrev pub tags_of : List Tagged → List ℕ
tags_of given = map (λ t. t.tag) given

-- the switches that have tags
abbrev pub switches_of : List Tagged → List ℕ
switches_of given = map (λ t. t.switch) given

-- exactly the tags that a switch has, each once, ascending
pub record IsInUse (given : List Tagged) (tags : List ℕ) : Type 0 where
  pub ascending : IsStrictlyIncreasing tags
  pub given_each : (tag : ℕ) → Contains tags tag → Contains (tags_of given) tag
  pub all_given : (tag : ℕ) → Contains (tags_of given) tag → Contains tags tag

-- the ends of each link have different tags
abbrev pub LinkedDiffer : List Tagged → List Link → Type 0
LinkedDiffer given [] = Unit {0}
LinkedDiffer given (l ∷ ls) = (tag_of l.a given ≢ tag_of l.b given) × LinkedDiffer given ls

-- what the tags show: the tag of each switch, and the tags in use
pub record Tagging : Type 0 where
  pub given : List Tagged
  pub in_use : List ℕ
