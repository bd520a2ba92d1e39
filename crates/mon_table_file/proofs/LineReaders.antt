-- Each line of a table file is read just as it is spelled.
use Rattle.std.proofs.Common.{◌≡◌, ℕ, zero, suc, ◌+◌, ◌/◌, ◌^◌, ◌<◌, ◌≤◌, Bool, true, false, cond, refl, sym, ap, subst, ◌∙◌, List, [], ◌∷◌, ◌++◌, length, Option, Some, None, option_map, inl, inr, arith, decimal, codes, append_assoc}
use Rattle.std.specs.Prelude.{nat_lt, option_and_then}
use Rattle.std.specs.List.{flat_map, AllByRecursion}
use Rattle.std.specs.Int.{IsInRange}
use Rattle.std.proofs.lemmas.Bool.{and_parts, and_from, ltb-true, lt-ltb, cases_lt, le-ltb, cond-true, cond-false}
use Rattle.std.proofs.lemmas.Option.{none-some, cond_some, same_Some}
use Rattle.mon_text.specs.Hex.{hex, hex_digit, byte_of, digit_of, AllBytes, AreBytes}
use Rattle.mon_text.specs.Numbers.{NoDigit}
use Rattle.mon_text.specs.Parts.{Part, behind, led, ended, both, passing, pair_in, bytes_in, run_in, number_within, datapath_in, feed}
use Rattle.mon_text.proofs.Joining.{IsReader, bound, mapped, pair_is, behind-found, behind-again, reader_led, reader_ended, reader_seen, reader_as, reader_both, reader_within, number_within-found, number_within-again}
use Rattle.mon_text.proofs.InDigits.{reader_bytes, reader_datapath, run-found, run-again}
use Rattle.mon_shows.specs.declared.near.Near.{Near}
use Rattle.mon_rule_line.specs.RuleWords.{actions_text, unsure_text}
use Rattle.mon_table_file.specs.Lines.{datapath_text, first_line, switch_line, tag_text, tags_line, miss_line, link_line, IsPort, IsTag, FitsNear, Row, rule_line, are_actions, AreActions, FitsRow}
use Rattle.mon_table_file.specs.Reading.{port_in, datapath_word, last_tag, switch_in, miss_in, tag_before, end_or, tags_in, tags_line_in, near_of, link_in, are_some_actions, run_of, actions_in, either, which_of, name_in, end_in, front_in, row_of, row_in, Heading, heading_of, head_in, FitsTags, FitsHeading, heading_text}

no_digit : IsInRange 48 57 32 → ⊥
no_digit h = let k : 48 ≤ 32 = h.0 in omega arith

no_digit_either : IsInRange 48 57 10 → ⊥
no_digit_either h = let k : 48 ≤ 10 = h.0 in omega arith

none_from : {A : Type 0} (o : Option A) → ((a : A) → o ≡ Some a → ⊥) → o ≡ None
none_from None f = refl
none_from (Some a) f = absurd (f a refl)

-- one of two texts, of which neither begins the other
abbrev pub AnyOf : Bool → Type 0
AnyOf b = Unit {0}

which-found : (first second text : List ℕ) (a b : Option (List ℕ)) (x : Bool) (rest : List ℕ) → behind first text ≡ a → behind second text ≡ b → either a b ≡ Some (x, rest) → text ≡ cond x second first ++ rest
which-found first second text (Some r) b x rest f g e =
    let p : (false, r) ≡ (x, rest) = same_Some (false, r) (x, rest) e in
    let is : false ≡ x = ap (λ (z : Bool × List ℕ). z.0) p in
    let after : r ≡ rest = ap (λ (z : Bool × List ℕ). z.1) p in
    subst (λ (y : Bool). text ≡ cond y second first ++ rest) is (behind-found first text r f ∙ ap (λ t. first ++ t) after)
which-found first second text None (Some r) x rest f g e =
    let p : (true, r) ≡ (x, rest) = same_Some (true, r) (x, rest) e in
    let is : true ≡ x = ap (λ (z : Bool × List ℕ). z.0) p in
    let after : r ≡ rest = ap (λ (z : Bool × List ℕ). z.1) p in
    subst (λ (y : Bool). text ≡ cond y second first ++ rest) is (behind-found second text r g ∙ ap (λ t. second ++ t) after)
which-found first second text None None x rest f g e = absurd (none-some (x, rest) e)

which-again : (first second : List ℕ) (x : Bool) (rest : List ℕ) → ((r : List ℕ) → behind first (second ++ r) ≡ None) → which_of first second (cond x second first ++ rest) ≡ Some (x, rest)
which-again first second false rest other = ap (λ o. either o (behind second (first ++ rest))) (behind-again first rest)
which-again first second true rest other = ap (λ o. either o (behind second (second ++ rest))) (other rest) ∙ ap (either None) (behind-again second rest)

reader_which : (first second : List ℕ) → ((r : List ℕ) → behind first (second ++ r) ≡ None) → IsReader (λ x. cond x second first) AnyOf (which_of first second)
reader_which first second other = record {
  found = λ text x rest e. (tt, which-found first second text (behind first text) (behind second text) x rest refl refl e);
  again = λ x rest f. which-again first second x rest other;
}

name_text : (x : Bool) → cond x (first_line true) (first_line false) ≡ first_line x
name_text false = refl
name_text true = refl

-- the first line
pub reader_name : IsReader first_line AnyOf name_in
unfolding name_in
reader_name = reader_as (λ x. cond x (first_line true) (first_line false)) AnyOf name_in (reader_which (first_line false) (first_line true) (λ r. refl)) first_line AnyOf name_text (λ x f. f) (λ x f. f)

end_text : (x : Bool) → cond x (codes " unsure" ++ feed) feed ≡ unsure_text x ++ feed
end_text false = refl
end_text true = refl

-- the end of the line of a rule
reader_end : IsReader (λ x. unsure_text x ++ feed) AnyOf end_in
unfolding end_in
reader_end = reader_as (λ x. cond x (codes " unsure" ++ feed) feed) AnyOf end_in (reader_which feed (codes " unsure" ++ feed) (λ r. refl)) (λ x. unsure_text x ++ feed) AnyOf end_text (λ x f. f) (λ x f. f)

reader_port : IsReader (λ n. decimal n ++ codes " ") IsPort port_in
reader_port = reader_within 1 65280 32 [] (omega arith) no_digit

reader_datapath_word : IsReader (λ n. datapath_text n ++ codes " ") (λ n. n < 2 ^ 64) datapath_word
reader_datapath_word = reader_ended datapath_text (λ n. n < 2 ^ 64) datapath_in reader_datapath (codes " ")

reader_last_tag : IsReader (λ n. decimal n ++ feed) IsTag last_tag
reader_last_tag = reader_within 1 4094 10 [] (omega arith) no_digit_either

-- the line of the switch
abbrev pub FitsSwitch : ℕ × ℕ → Type 0
FitsSwitch x = (x.0 < 2 ^ 64) × IsTag x.1

switch_text : (x : ℕ × ℕ) → codes "switch " ++ ((datapath_text x.0 ++ codes " ") ++ (decimal x.1 ++ feed)) ≡ switch_line x.0 x.1
switch_text x = ap (λ t. codes "switch " ++ t) (append_assoc (datapath_text x.0) (codes " ") (decimal x.1 ++ feed))

pub reader_switch : IsReader (λ x. switch_line x.0 x.1) FitsSwitch switch_in
unfolding switch_in
reader_switch =
    let text : ℕ × ℕ → List ℕ = λ x. (datapath_text x.0 ++ codes " ") ++ (decimal x.1 ++ feed) in
    let words : IsReader text FitsSwitch (both datapath_word last_tag) = reader_both (λ n. datapath_text n ++ codes " ") (λ n. decimal n ++ feed) (λ n. n < 2 ^ 64) IsTag datapath_word last_tag reader_datapath_word reader_last_tag in
    reader_as (λ x. codes "switch " ++ text x) FitsSwitch switch_in (reader_led text FitsSwitch (both datapath_word last_tag) words (codes "switch "))
    (λ x. switch_line x.0 x.1) FitsSwitch switch_text (λ x f. f) (λ x f. f)

-- the line of the miss length
pub reader_miss : IsReader miss_line (λ n. n < 2 ^ 16) miss_in
unfolding miss_in
reader_miss =
    let Small : ℕ → Type 0 = λ n. (0 ≤ n) × (n ≤ 65535) in
    let number = ended feed (number_within 0 65535) in
    reader_as miss_line Small miss_in (reader_led (λ n. decimal n ++ feed) Small number (reader_within 0 65535 10 [] (omega arith) no_digit_either) (codes "miss "))
    miss_line (λ n. n < 2 ^ 16) (λ n. refl) (λ n f. let k : n ≤ 65535 = f.1 in omega arith) (λ n f. (omega arith, omega arith))

-- the line of a link
abbrev words_of : Near → ℕ × (ℕ × (ℕ × ℕ))
words_of n = (n.port, (n.switch, (n.far_port, n.tag)))

abbrev FitsWords : ℕ × (ℕ × (ℕ × ℕ)) → Type 0
FitsWords x = IsPort x.0 × ((x.1.0 < 2 ^ 64) × (IsPort x.1.1.0 × IsTag x.1.1.1))

link_text : (n : Near) → codes "link " ++ ((decimal n.port ++ codes " ") ++ ((datapath_text n.switch ++ codes " ") ++ ((decimal n.far_port ++ codes " ") ++ (decimal n.tag ++ feed)))) ≡ link_line n
link_text n = simp append_assoc

pub reader_link : IsReader link_line FitsNear link_in
unfolding link_in
reader_link =
    let last : ℕ × ℕ → List ℕ = λ x. (decimal x.0 ++ codes " ") ++ (decimal x.1 ++ feed) in
    let FitsLast : ℕ × ℕ → Type 0 = λ x. IsPort x.0 × IsTag x.1 in
    let far : IsReader last FitsLast (both port_in last_tag) = reader_both (λ n. decimal n ++ codes " ") (λ n. decimal n ++ feed) IsPort IsTag port_in last_tag reader_port reader_last_tag in
    let end : ℕ × (ℕ × ℕ) → List ℕ = λ x. (datapath_text x.0 ++ codes " ") ++ last x.1 in
    let FitsEnd : ℕ × (ℕ × ℕ) → Type 0 = λ x. (x.0 < 2 ^ 64) × FitsLast x.1 in
    let other : IsReader end FitsEnd (both datapath_word (both port_in last_tag)) = reader_both (λ n. datapath_text n ++ codes " ") last (λ n. n < 2 ^ 64) FitsLast datapath_word (both port_in last_tag) reader_datapath_word far in
    let text : ℕ × (ℕ × (ℕ × ℕ)) → List ℕ = λ x. (decimal x.0 ++ codes " ") ++ end x.1 in
    let words = both port_in (both datapath_word (both port_in last_tag)) in
    let all : IsReader text FitsWords words = reader_both (λ n. decimal n ++ codes " ") end IsPort FitsEnd port_in (both datapath_word (both port_in last_tag)) reader_port other in
    let line : ℕ × (ℕ × (ℕ × ℕ)) → List ℕ = λ x. codes "link " ++ text x in
    let read : IsReader line FitsWords (led (codes "link ") words) = reader_led text FitsWords words all (codes "link ") in
    let seen_as : IsReader (λ n. line (words_of n)) FitsNear link_in = reader_seen line FitsWords (led (codes "link ") words) read near_of words_of FitsNear
    (λ n f. ((f.port, (f.switch, (f.far_port, f.tag))), refl))
    (λ x f. (record { port = f.0; switch = f.1.0; far_port = f.1.1.0; tag = f.1.1.1 }, refl)) in
    reader_as (λ n. line (words_of n)) FitsNear link_in seen_as link_line FitsNear link_text (λ n f. f) (λ n f. f)

-- the line of the tags
next_tag : (tags rest : List ℕ) → NoDigit (flat_map tag_text tags ++ (feed ++ rest))
next_tag [] rest = no_digit_either
next_tag (t ∷ tags) rest = no_digit

tag_some : (tag : ℕ) (p : Part (List ℕ)) (tags rest : List ℕ) → tag_before tag p ≡ Some (tags, rest) → (others : List ℕ) × (p ≡ Some (others, rest)) × (tag ∷ others ≡ tags)
tag_some tag None tags rest e = absurd (none-some (tags, rest) e)
tag_some tag (Some q) tags rest e =
    let f : (tag ∷ q.0, q.1) ≡ (tags, rest) = same_Some (tag ∷ q.0, q.1) (tags, rest) e in
    (q.0, pair_is q.0 q.0 q.1 rest refl (ap (λ (z : List ℕ × List ℕ). z.1) f), ap (λ (z : List ℕ × List ℕ). z.0) f)

record TagsAt (n : ℕ) (text tags rest : List ℕ) : Type 0 where
  few : length tags < n
  tags_are : AllByRecursion IsTag tags
  is : text ≡ flat_map tag_text tags ++ (feed ++ rest)

no_tags : (n : ℕ) (text rest : List ℕ) → text ≡ feed ++ rest → TagsAt (suc n) text [] rest
no_tags n text rest e = record { few = omega arith; tags_are = tt; is = e }

tags-more : (n : ℕ) (text tags rest : List ℕ) (end : Option (List ℕ)) → ((t ts r : List ℕ) → tags_in n t ≡ Some (ts, r) → TagsAt n t ts r) → behind feed text ≡ end
    → end_or end (option_and_then (λ (p : ℕ × List ℕ). tag_before p.0 (tags_in n p.1)) (led (codes " ") (number_within 1 4094) text)) ≡ Some (tags, rest) → TagsAt (suc n) text tags rest
tags-more n text tags rest (Some r) rec b e =
    let f : ([], r) ≡ (tags, rest) = same_Some ([], r) (tags, rest) e in
    let none : [] ≡ tags = ap (λ (z : List ℕ × List ℕ). z.0) f in
    let after : r ≡ rest = ap (λ (z : List ℕ × List ℕ). z.1) f in
    subst (λ ts. TagsAt (suc n) text ts rest) none (no_tags n text rest (behind-found feed text r b ∙ ap (λ t. feed ++ t) after))
tags-more n text tags rest None rec b e =
    let p = bound (λ (p : ℕ × List ℕ). tag_before p.0 (tags_in n p.1)) (led (codes " ") (number_within 1 4094) text) (tags, rest) e in
    let q = tag_some p.0.0 (tags_in n p.0.1) tags rest p.2 in
    let s = bound (number_within 1 4094) (behind (codes " ") text) p.0 p.1 in
    let number = number_within-found 1 4094 s.0 p.0.0 p.0.1 s.2 in
    let more = rec p.0.1 q.0 rest q.1 in
    subst (λ ts. TagsAt (suc n) text ts rest) q.2 (record {
      few = (let k : length q.0 < n = more.few in omega arith);
      tags_are = ((number.0, number.1), more.tags_are);
      is = behind-found (codes " ") text s.0 s.1 ∙ ap (λ t. codes " " ++ t) (number.2.1.is ∙ ap (λ t. decimal p.0.0 ++ t) more.is ∙ sym (append_assoc (decimal p.0.0) (flat_map tag_text q.0) (feed ++ rest)));
    })

tags-found : (n : ℕ) (text tags rest : List ℕ) → tags_in n text ≡ Some (tags, rest) → TagsAt n text tags rest
unfolding tags_in
tags-found zero text tags rest e = absurd (none-some (tags, rest) e)
tags-found (suc n) text tags rest e = tags-more n text tags rest (behind feed text) (tags-found n) refl e

tags-again : (n : ℕ) (tags rest : List ℕ) → length tags < n → AllByRecursion IsTag tags → tags_in n (flat_map tag_text tags ++ (feed ++ rest)) ≡ Some (tags, rest)
unfolding tags_in
tags-again zero tags rest few all = absurd (omega arith)
tags-again (suc n) [] rest few all =
    ap (λ o. end_or o (option_and_then (λ (p : ℕ × List ℕ). tag_before p.0 (tags_in n p.1)) (led (codes " ") (number_within 1 4094) (feed ++ rest)))) (behind-again feed rest)
tags-again (suc n) (t ∷ tags) rest few all =
    let more = flat_map tag_text tags ++ (feed ++ rest) in
    let text : flat_map tag_text (t ∷ tags) ++ (feed ++ rest) ≡ codes " " ++ (decimal t ++ more) = ap (λ x. codes " " ++ x) (append_assoc (decimal t) (flat_map tag_text tags) (feed ++ rest)) in
    let number : number_within 1 4094 (decimal t ++ more) ≡ Some (t, more) =
    number_within-again 1 4094 (decimal t ++ more) t more all.0.0 all.0.1 ((let k : t ≤ 4094 = all.0.1 in omega arith), record { is = refl; ends = next_tag tags rest }) in
    ap (tags_in (suc n)) text
    ∙ ap (λ o. option_and_then (λ (p : ℕ × List ℕ). tag_before p.0 (tags_in n p.1)) (option_and_then (number_within 1 4094) o)) (behind-again (codes " ") (decimal t ++ more))
    ∙ ap (option_and_then (λ (p : ℕ × List ℕ). tag_before p.0 (tags_in n p.1))) number
    ∙ ap (tag_before t) (tags-again n tags rest (omega arith) all.1)

reader_tags : IsReader (λ tags. flat_map tag_text tags ++ feed) FitsTags (tags_in 65)
reader_tags = record {
  found = λ text tags rest e. let f = tags-found 65 text tags rest e in ((let k : length tags < 65 = f.few in omega arith, f.tags_are), f.is ∙ sym (append_assoc (flat_map tag_text tags) feed rest));
  again = λ tags rest fits. ap (tags_in 65) (append_assoc (flat_map tag_text tags) feed rest) ∙ tags-again 65 tags rest (let k : length tags ≤ 64 = fits.0 in omega arith) fits.1;
}

pub reader_tags_line : IsReader tags_line FitsTags tags_line_in
unfolding tags_line_in
reader_tags_line = reader_led (λ tags. flat_map tag_text tags ++ feed) FitsTags (tags_in 65) reader_tags (codes "tags")

-- the first four lines
pub reader_heading : IsReader heading_text FitsHeading head_in
unfolding head_in
reader_heading =
    let front : (ℕ × ℕ) × List ℕ → List ℕ = λ x. switch_line x.0.0 x.0.1 ++ tags_line x.1 in
    let FitsFront : (ℕ × ℕ) × List ℕ → Type 0 = λ x. FitsSwitch x.0 × FitsTags x.1 in
    let three = both (both switch_in tags_line_in) miss_in in
    let two : IsReader front FitsFront (both switch_in tags_line_in) = reader_both (λ x. switch_line x.0 x.1) tags_line FitsSwitch FitsTags switch_in tags_line_in reader_switch reader_tags_line in
    let text : ((ℕ × ℕ) × List ℕ) × ℕ → List ℕ = λ x. front x.0 ++ miss_line x.1 in
    let Fits : ((ℕ × ℕ) × List ℕ) × ℕ → Type 0 = λ x. FitsFront x.0 × (x.1 < 2 ^ 16) in
    let lines : IsReader text Fits three = reader_both front miss_line FitsFront (λ n. n < 2 ^ 16) (both switch_in tags_line_in) miss_in two reader_miss in
    let all : Bool × (((ℕ × ℕ) × List ℕ) × ℕ) → List ℕ = λ x. first_line x.0 ++ text x.1 in
    let FitsAll : Bool × (((ℕ × ℕ) × List ℕ) × ℕ) → Type 0 = λ x. AnyOf x.0 × Fits x.1 in
    let back : Heading → Bool × (((ℕ × ℕ) × List ℕ) × ℕ) = λ h. (h.second, (((h.switch, h.tag), h.tags), h.miss)) in
    let read : IsReader all FitsAll (both name_in three) = reader_both first_line text AnyOf Fits name_in three reader_name lines in
    let seen_as : IsReader (λ h. all (back h)) FitsHeading head_in = reader_seen all FitsAll (both name_in three) read heading_of back FitsHeading
    (λ h f. ((tt, (((f.switch, f.tag), f.tags), f.miss)), refl))
    (λ x f. (record { switch = f.1.0.0.0; tag = f.1.0.0.1; tags = f.1.0.1; miss = f.1.1 }, refl)) in
    reader_as (λ h. all (back h)) FitsHeading head_in seen_as heading_text FitsHeading
    (λ h. ap (λ t. first_line h.second ++ t) (append_assoc (switch_line h.switch h.tag) (tags_line h.tags) (miss_line h.miss))) (λ h f. f) (λ h f. f)

-- the actions of a rule
digit_large : (d : ℕ) → 48 ≤ hex_digit d
digit_large d = elim (cases_lt d 10) [
  | inl lt ↦ subst (λ (n : ℕ). 48 ≤ n) (sym (cond-true (nat_lt d 10) (48 + d) (87 + d) (lt-ltb d 10 lt))) (let k : 48 ≤ 48 + d = omega arith in k)
  | inr le ↦ subst (λ (n : ℕ). 48 ≤ n) (sym (cond-false (nat_lt d 10) (48 + d) (87 + d) (le-ltb d 10 le))) (let k : 48 ≤ 87 + d = omega arith in k)
]

no_dash : (byte : ℕ) (bytes rest : List ℕ) → behind (codes "-") (hex (byte ∷ bytes) ++ rest) ≡ None
no_dash byte bytes rest = none_from (behind (codes "-") (hex (byte ∷ bytes) ++ rest)) (λ r e.
    let f : hex (byte ∷ bytes) ++ rest ≡ 45 ∷ r = behind-found (codes "-") (hex (byte ∷ bytes) ++ rest) r e in
    let g : hex_digit (byte / 16) ≡ 45 = cc in
    let large : 48 ≤ hex_digit (byte / 16) = digit_large (byte / 16) in
    omega arith)

no_pair_at_end : (unsure : Bool) (rest : List ℕ) → pair_in ((unsure_text unsure ++ feed) ++ rest) ≡ None
unfolding byte_of digit_of
no_pair_at_end false [] = refl
no_pair_at_end false (b ∷ rest) = refl
no_pair_at_end true rest = refl

hex_text : (bytes : List ℕ) → 0 < length bytes → actions_text bytes ≡ hex bytes
hex_text [] some = absurd (omega arith)
hex_text (byte ∷ bytes) some = refl

record IsHexActions (text bytes rest : List ℕ) : Type 0 where
  some : 0 < length bytes
  actions : AreActions bytes
  is : text ≡ hex bytes ++ rest

tested : (bytes : List ℕ) → AllBytes bytes → are_some_actions bytes ≡ true → (0 < length bytes) × AreActions bytes
tested bytes all e =
    let t = and_parts (nat_lt 0 (length bytes)) (are_actions bytes) e in
    (ltb-true 0 (length bytes) t.0, record { bytes_are = all; whole = t.1 })

in_digits : (text bytes rest : List ℕ) → passing are_some_actions run_of text ≡ Some (bytes, rest) → IsHexActions text bytes rest
in_digits text bytes rest e =
    let c = cond_some (are_some_actions (run_in text).0) (run_in text) (bytes, rest) e in
    let run = run-found text in
    let same : (run_in text).0 ≡ bytes = ap (λ (z : List ℕ × List ℕ). z.0) c.1 in
    let after : (run_in text).1 ≡ rest = ap (λ (z : List ℕ × List ℕ). z.1) c.1 in
    let t = tested bytes (subst AllBytes same run.bytes) (ap are_some_actions (sym same) ∙ c.0) in
    record {
      some = t.0;
      actions = t.1;
      is = run.is ∙ ap (λ t. hex (run_in text).0 ++ t) after ∙ ap (λ b. hex b ++ rest) same;
    }

no_actions : AreActions []
no_actions = record { bytes_are = tt; whole = refl }

dash_or_digits : (text bytes rest : List ℕ) (end : Option (List ℕ)) → behind (codes "-") text ≡ end → end_or end (passing are_some_actions run_of text) ≡ Some (bytes, rest)
    → AreActions bytes × (text ≡ actions_text bytes ++ rest)
dash_or_digits text bytes rest (Some r) b e =
    let f : ([], r) ≡ (bytes, rest) = same_Some ([], r) (bytes, rest) e in
    let none : [] ≡ bytes = ap (λ (z : List ℕ × List ℕ). z.0) f in
    let after : r ≡ rest = ap (λ (z : List ℕ × List ℕ). z.1) f in
    subst (λ bs. AreActions bs × (text ≡ actions_text bs ++ rest)) none
    (no_actions, behind-found (codes "-") text r b ∙ ap (λ t. codes "-" ++ t) after)
dash_or_digits text bytes rest None b e =
    let h = in_digits text bytes rest e in
    (h.actions, h.is ∙ ap (λ t. t ++ rest) (sym (hex_text bytes h.some)))

actions_test : (byte : ℕ) (bytes : List ℕ) → AreActions (byte ∷ bytes) → are_some_actions (byte ∷ bytes) ≡ true
actions_test byte bytes are = and_from _ _ (lt-ltb 0 (length (byte ∷ bytes)) (omega arith)) are.whole

actions-found : (text bytes rest : List ℕ) → actions_in text ≡ Some (bytes, rest) → AreActions bytes × (text ≡ actions_text bytes ++ rest)
unfolding actions_in
actions-found text bytes rest e = dash_or_digits text bytes rest (behind (codes "-") text) refl e

actions-again : (bytes rest : List ℕ) → AreActions bytes → pair_in rest ≡ None → actions_in (actions_text bytes ++ rest) ≡ Some (bytes, rest)
unfolding actions_in
actions-again [] rest are none = ap (λ o. end_or o (passing are_some_actions run_of (codes "-" ++ rest))) (behind-again (codes "-") rest)
actions-again (byte ∷ bytes) rest are none =
    ap (λ o. end_or o (passing are_some_actions run_of (hex (byte ∷ bytes) ++ rest))) (no_dash byte bytes rest)
    ∙ ap (λ (r : List ℕ × List ℕ). cond (are_some_actions r.0) (Some r) None) (run-again (byte ∷ bytes) rest are.bytes_are none)
    ∙ cond-true (are_some_actions (byte ∷ bytes)) (Some (byte ∷ bytes, rest)) None (actions_test byte bytes are)

-- the actions and the end of the line
abbrev last_text : List ℕ × Bool → List ℕ
last_text x = actions_text x.0 ++ (unsure_text x.1 ++ feed)

abbrev FitsLast : List ℕ × Bool → Type 0
FitsLast x = AreActions x.0 × AnyOf x.1

last_is : (bytes s r t : List ℕ) → s ≡ r ++ t → actions_text bytes ++ s ≡ (actions_text bytes ++ r) ++ t
last_is bytes s r t e = ap (λ x. actions_text bytes ++ x) e ∙ sym (append_assoc (actions_text bytes) r t)

reader_last : IsReader last_text FitsLast (both actions_in end_in)
reader_last = record {
  found = λ text x rest e.
      let a = bound (λ (p : List ℕ × List ℕ). option_map {U = (List ℕ × Bool) × List ℕ} (λ (q : Bool × List ℕ). ((p.0, q.0), q.1)) (end_in p.1)) (actions_in text) (x, rest) e in
      let b = mapped {B = (List ℕ × Bool) × List ℕ} (λ (q : Bool × List ℕ). ((a.0.0, q.0), q.1)) (end_in a.0.1) (x, rest) a.2 in
      let f = actions-found text a.0.0 a.0.1 a.1 in
      let g = reader_end.found a.0.1 b.0.0 b.0.1 b.1 in
      let left : a.0.0 ≡ x.0 = ap (λ (w : (List ℕ × Bool) × List ℕ). w.0.0) b.2 in
      let right : b.0.0 ≡ x.1 = ap (λ (w : (List ℕ × Bool) × List ℕ). w.0.1) b.2 in
      let after : b.0.1 ≡ rest = ap (λ (w : (List ℕ × Bool) × List ℕ). w.1) b.2 in (
        (subst AreActions left f.0, tt),
        f.1 ∙ last_is a.0.0 a.0.1 (unsure_text b.0.0 ++ feed) b.0.1 g.1 ∙ ap (λ bs. last_text (bs, b.0.0) ++ b.0.1) left ∙ ap (λ u. last_text (x.0, u) ++ b.0.1) right ∙ ap (λ r. last_text x ++ r) after,
      );
  again = λ x rest fits.
      ap (both actions_in end_in) (append_assoc (actions_text x.0) (unsure_text x.1 ++ feed) rest)
      ∙ ap (option_and_then (λ (p : List ℕ × List ℕ). option_map {U = (List ℕ × Bool) × List ℕ} (λ (q : Bool × List ℕ). ((p.0, q.0), q.1)) (end_in p.1)))
      (actions-again x.0 ((unsure_text x.1 ++ feed) ++ rest) fits.0 (no_pair_at_end x.1 rest))
      ∙ ap (option_map {U = (List ℕ × Bool) × List ℕ} (λ (q : Bool × List ℕ). ((x.0, q.0), q.1))) (reader_end.again x.1 rest tt);
}

-- the line of a rule
abbrev FitsFront : ℕ × List ℕ → Type 0
FitsFront x = ((0 ≤ x.0) × (x.0 ≤ 65535)) × AreBytes 40 x.1

abbrev front_text : ℕ × List ℕ → List ℕ
front_text x = codes "rule " ++ ((decimal x.0 ++ codes " ") ++ (hex x.1 ++ codes " "))

reader_front : IsReader front_text FitsFront front_in
unfolding front_in
reader_front =
    let Small : ℕ → Type 0 = λ n. (0 ≤ n) × (n ≤ 65535) in
    let number = ended (codes " ") (number_within 0 65535) in
    let bytes = ended (codes " ") (bytes_in 40) in
    let text : ℕ × List ℕ → List ℕ = λ x. (decimal x.0 ++ codes " ") ++ (hex x.1 ++ codes " ") in
    let words : IsReader text FitsFront (both number bytes) = reader_both (λ n. decimal n ++ codes " ") (λ bs. hex bs ++ codes " ") Small (AreBytes 40) number bytes
    (reader_within 0 65535 32 [] (omega arith) no_digit) (reader_ended hex (AreBytes 40) (bytes_in 40) (reader_bytes 40) (codes " ")) in
    reader_led text FitsFront (both number bytes) words (codes "rule ")

abbrev parts_of : Row → (ℕ × List ℕ) × (List ℕ × Bool)
parts_of r = ((r.priority, r.matching), (r.actions, r.unsure))

rule_text : (r : Row) → front_text (r.priority, r.matching) ++ (actions_text r.actions ++ (unsure_text r.unsure ++ feed)) ≡ rule_line r
rule_text r = simp append_assoc

pub reader_row : IsReader rule_line FitsRow row_in
unfolding row_in
reader_row =
    let text : (ℕ × List ℕ) × (List ℕ × Bool) → List ℕ = λ x. front_text x.0 ++ last_text x.1 in
    let Fits : (ℕ × List ℕ) × (List ℕ × Bool) → Type 0 = λ x. FitsFront x.0 × FitsLast x.1 in
    let words = both front_in (both actions_in end_in) in
    let parts : IsReader text Fits words = reader_both front_text last_text FitsFront FitsLast front_in (both actions_in end_in) reader_front reader_last in
    let seen_as : IsReader (λ r. text (parts_of r)) FitsRow row_in = reader_seen text Fits words parts row_of parts_of FitsRow
    (λ r f. ((((omega arith, (let k : r.priority < 2 ^ 16 = f.priority in omega arith)), f.matching), (f.actions, tt)), refl))
    (λ x f. (record { priority = (let k : x.0.0 ≤ 65535 = f.0.0.1 in omega arith); matching = f.0.1; actions = f.1.0 }, refl)) in
    reader_as (λ r. text (parts_of r)) FitsRow row_in seen_as rule_line FitsRow rule_text (λ r f. f) (λ r f. f)

-- no line of a link stands where those of rules do, nor where nothing stands
pub no_link : (rows : List Row) → link_in (flat_map rule_line rows) ≡ None
unfolding link_in
no_link [] = refl
no_link (r ∷ rows) = refl

pub no_row : row_in [] ≡ None
unfolding row_in front_in
no_row = refl

-- each line has a byte
pub link_some : (n : Near) → 0 < length (link_line n)
link_some n = omega arith

pub rule_some : (r : Row) → 0 < length (rule_line r)
rule_some r = omega arith
