-- What a probe that came back shows, as long as its edit is unsettled.
use Rattle.std.specs.Prelude.{◌≡◌, ℕ, ◌≤◌, Bool, true, false, not, ◌&&◌, ◌⊎◌, List, [], ◌∷◌, ◌++◌, filter, map}
use Rattle.std.specs.List.{AllByRecursion}
use Rattle.mon_header.specs.declared.header.Header.{Header}
use Rattle.mon_header.specs.Matching.{matches}
use Rattle.mon_table.specs.declared.rule.Rule.{Rule}
use Rattle.mon_table.specs.declared.edit.Edit.{Edit}
use Rattle.mon_table.specs.declared.edit.Edit.TheVariants as edit
use Rattle.mon_table.specs.Tables.{IsTable}
use Rattle.mon_table.specs.Edits.{edited}
use Rattle.mon_outcome.specs.declared.emission.Emission.{Emission}
use Rattle.mon_shows.specs.declared.target.Target.{Target}
use Rattle.mon_shows.specs.declared.target.Target.TheVariants as target
use Rattle.mon_shows.specs.Views.{Viewing}
use Rattle.mon_shows.specs.Under.{Under}
use Rattle.mon_shows.specs.Separation.{separates, may_show}
use Rattle.mon_legal.specs.Owns.{Own}
use Rattle.mon_legal.specs.Barriers.{count}
use Rattle.mon_legal.specs.Edits.{Passed, table_of, passed, is_number}
use Rattle.mon_legal.specs.Possible.{KeepsSettled, possible}
use Rattle.mon_session.specs.Standing.{AllPassedWell}

-- edit k is one of these, and unsettled
abbrev pub IsOpen : ℕ → Edit → List Passed → Type 0
IsOpen k x [] = ⊥
IsOpen k x (p ∷ ps) = ((p.number ≡ k) × (p.settled ≡ false) × (p.edit ≡ x)) ⊎ IsOpen k x ps

-- the other edits
abbrev pub others : ℕ → List Passed → List Passed
others k ps = filter (λ q. not (is_number k q)) ps

-- the edit's match takes the header
abbrev pub takes_header : Header → Passed → Bool
takes_header h p = matches (edited p.edit).matching h

-- the other edits whose matches take the header
abbrev pub around_header : Header → ℕ → List Passed → List Edit
around_header h k ps = map (λ p. p.edit) (filter (λ p. takes_header h p && not (is_number k p)) ps)

-- what a probe of the edit is to show
abbrev pub shown_by : Edit → Target
shown_by (edit.Put r old) = target.Put r old
shown_by (edit.Cut r) = target.Cut r

-- the edits stood well all the time since, and none has a number above the count
abbrev pub IsWell : List Rule → List Own → Type 0
IsWell start own = AllPassedWell start (passed own) × AllByRecursion (λ p. p.number ≤ count own) (passed own)

abbrev pub WellSince : List Rule → List Own → List Own → Type 0
WellSince start [] earlier = IsWell start earlier
WellSince start (o ∷ later) earlier = IsWell start (o ∷ (later ++ earlier)) × WellSince start later earlier

-- all that passes or vanishes while edit k is unsettled takes only unsure rules from the others at a header that the edit takes
abbrev pub OthersStay : Type 0
OthersStay = (start : List Rule) (earlier later : List Own) (h : Header) (k : ℕ) (x : Edit) → IsTable start → WellSince start later earlier
    → IsOpen k x (passed earlier) → IsOpen k x (passed (later ++ earlier)) → matches (edited x).matching h ≡ true
    → Under h (table_of start (others k (passed (later ++ earlier)))) (table_of start (others k (passed earlier)))

-- a header and an emission that separated the expected table from the one without edit k, as its probe was sent, tell that the edit
-- is in force as long as it is unsettled: no table that is possible then and lacks it may show that emission, whichever unsure
-- rules are gone
abbrev pub ConfirmationIsSound : Type 0
ConfirmationIsSound = (start : List Rule) (earlier later : List Own) (v : Viewing) (h : Header) (e : Emission) (k : ℕ) (x : Edit)
    → IsTable start → WellSince start later earlier → IsOpen k x (passed earlier) → IsOpen k x (passed (later ++ earlier))
    → separates v (table_of start (passed earlier)) (shown_by x) h e ≡ true
    → (keep : ℕ → Bool) (goes : Rule → Bool) → KeepsSettled keep (passed (later ++ earlier)) → keep k ≡ false
    → may_show (possible start keep goes (later ++ earlier)) h e ≡ false
