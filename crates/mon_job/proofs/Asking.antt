-- Of which tables an update can be asked.
use Rattle.std.proofs.Common.{◌≡◌, ℕ, Bool, true, false, not, cond, List, [], ◌∷◌, Option, Some, None, refl, sym, ap, ◌∙◌, inl}
use Rattle.std.specs.List.{filter, find}
use Rattle.std.proofs.lemmas.Bool.{and_from, or_right, eq-eqb}
use Rattle.mon_list.specs.Has.{Has}
use Rattle.mon_header.specs.Matching.{Matching, agree_above, takes, matches, overlaps}
use Rattle.mon_header.proofs.Sharing.{both-taken}
use Rattle.mon_table.specs.declared.rule.Rule.{Rule}
use Rattle.mon_table.specs.declared.edit.Edit.TheVariants as edit
use Rattle.mon_table.specs.Rules.{identity_of, same_identity}
use Rattle.mon_table.specs.Tables.{rule_of, slice}
use Rattle.mon_table.specs.Edits.{after, IsRight}
use Rattle.mon_table.proofs.Identities.{same-is}
use Rattle.mon_table.proofs.Members.{filter-has, members-after}
use Rattle.mon_shows.specs.declared.target.Target.{Target}
use Rattle.mon_shows.specs.declared.target.Target.TheVariants.{Put, Cut, Watch}
use Rattle.mon_job.specs.Jobs.{updated, ReplacesItsOwn, IsIn, IsJob}

-- what a search finds passes its test
found-passes : (p : Rule → Bool) (t : List Rule) (r : Rule) → find p t ≡ Some r → p r ≡ true
found-passes p [] r e = absurd (let f : ⊥ = cc in f)
found-passes p (s ∷ t) r e =
    elim (p s) as (λ b. p s ≡ b → cond b (Some s) (find p t) ≡ Some r → p r ≡ true) [
      | true ↦ λ y f. let same : s ≡ r = cc in ap p (sym same) ∙ y
      | false ↦ λ n f. found-passes p t r f
    ] refl e

-- where nothing passes, nothing of a part does
none-in-part : (p q : Rule → Bool) (t : List Rule) → find q t ≡ None → find q (filter p t) ≡ None
none-in-part p q [] e = refl
none-in-part p q (r ∷ t) e =
    elim (q r) as (λ b. q r ≡ b → cond b (Some r) (find q t) ≡ None → find q (cond (p r) (r ∷ filter p t) (filter p t)) ≡ None) [
      | true ↦ λ y f. absurd (let g : ⊥ = cc in g)
      | false ↦ λ n f. elim (p r) as (λ b. find q (cond b (r ∷ filter p t) (filter p t)) ≡ None) [
        | true ↦ rw n (none-in-part p q t f)
        | false ↦ none-in-part p q t f
      ]
    ] refl e

none-left : (q : Rule → Bool) (t : List Rule) → find q (filter (λ r. not (q r)) t) ≡ None
none-left q [] = refl
none-left q (r ∷ t) =
    elim (q r) as (λ b. q r ≡ b → find q (cond (not b) (r ∷ filter (λ s. not (q s)) t) (filter (λ s. not (q s)) t)) ≡ None) [
      | true ↦ λ y. none-left q t
      | false ↦ λ n. rw n (none-left q t)
    ] refl

-- an edit makes a job
put-own : (t : List Rule) (r : Rule) (old : Option Rule) → rule_of (identity_of r) t ≡ old → ReplacesItsOwn (Put r old)
put-own t r None e = tt
put-own t r (Some old) e = same-is (identity_of old) (identity_of r) (found-passes (λ s. same_identity (identity_of s) (identity_of r)) t old e)

pub put-asks : (t : List Rule) (r : Rule) (old : Option Rule) → IsRight t (edit.Put r old) → IsJob (after t (edit.Put r old)) (Put r old)
put-asks t r old right = record { own = put-own t r old right; there = members-after t (edit.Put r old) r (inl refl) }

pub cut-asks : (t : List Rule) (r : Rule) → IsJob (after t (edit.Cut r)) (Cut r)
unfolding after
cut-asks t r = record { own = tt; there = none-left (λ s. same_identity (identity_of s) (identity_of r)) t }

-- a match takes its own fields, and so overlaps itself
takes-own : (wild : Bool) (x : ℕ) → takes wild x x ≡ true
unfolding takes
takes-own wild x = or_right _ _ (eq-eqb x x refl)

agrees-own : (count x : ℕ) → agree_above count x x ≡ true
agrees-own count x = eq-eqb _ _ refl

own-fields : (m : Matching) → matches m m.fields ≡ true
unfolding matches
own-fields m = and_from _ _ (takes-own m.wild.in_port m.fields.in_port) (and_from _ _ (takes-own m.wild.dl_src m.fields.dl_src) (and_from _ _ (takes-own m.wild.dl_dst m.fields.dl_dst) (and_from _ _ (takes-own m.wild.dl_vlan m.fields.dl_vlan) (and_from _ _ (takes-own m.wild.dl_vlan_pcp m.fields.dl_vlan_pcp) (and_from _ _ (takes-own m.wild.dl_type m.fields.dl_type) (and_from _ _ (takes-own m.wild.nw_tos m.fields.nw_tos) (and_from _ _ (takes-own m.wild.nw_proto m.fields.nw_proto) (and_from _ _ (agrees-own m.wild.nw_src m.fields.nw_src) (and_from _ _ (agrees-own m.wild.nw_dst m.fields.nw_dst) (and_from _ _ (takes-own m.wild.tp_src m.fields.tp_src) (takes-own m.wild.tp_dst m.fields.tp_dst)))))))))))

slice-has : (t : List Rule) (r : Rule) → Has t r → Has (slice r.matching t) r
slice-has t r i = filter-has (λ s. overlaps r.matching s.matching) t r i (both-taken r.matching r.matching r.matching.fields (own-fields r.matching) (own-fields r.matching))

-- the rules that overlap the match of the target's rule make a job
slice-in : (t : List Rule) (x : Target) → IsIn t x → IsIn (slice (updated x).matching t) x
slice-in t (Put r old) i = slice-has t r i
slice-in t (Cut r) e = none-in-part (λ s. overlaps r.matching s.matching) (λ s. same_identity (identity_of s) (identity_of r)) t e
slice-in t (Watch r) i = slice-has t r i

pub slice-asks : (t : List Rule) (x : Target) → IsJob t x → IsJob (slice (updated x).matching t) x
slice-asks t x job = record { own = job.own; there = slice-in t x job.there }
