-- Where a text leaves the form of a table file.
use Rattle.std.proofs.Common.{◌≡◌, ◌≢◌, ℕ, ◌+◌, ◌^◌, ◌<◌, ◌≤◌, Bool, true, false, refl, sym, ap, subst, ◌∙◌, List, [], ◌∷◌, ◌++◌, length, map, Some, None, ◌⊎◌, ⊎_elim, inl, inr, arith, decimal, codes, append_assoc, length-append}
use Rattle.std.specs.List.{flat_map, AllByRecursion}
use Rattle.std.proofs.lemmas.List.{append-nil, map-append}
use Rattle.std.proofs.lemmas.Bool.{or_left, eq-eqb}
use Rattle.std.proofs.lemmas.Option.{none-some}
use Rattle.std.specs.Int.{w64, to_be_bytes}
use Rattle.mon_text.specs.Hex.{hex}
use Rattle.mon_text.specs.Parts.{feed}
use Rattle.mon_text.specs.BadLines.{NoFeed, AreLines}
use Rattle.mon_text.proofs.Feedless.{feedless_is, feedless_join, feedless_decimal, feedless_hex, feedless_flat}
use Rattle.mon_text.proofs.Stopping.{feed_once, lines_join, lines_feed, bad_next}
use Rattle.mon_text.proofs.Faulting.{back_within}
use Rattle.mon_text.proofs.Joining.{reader_once}
use Rattle.mon_table.specs.declared.rule.Rule.{Rule}
use Rattle.mon_shows.specs.declared.near.Near.{Near}
use Rattle.mon_shows.specs.Views.{Viewing}
use Rattle.mon_rule_line.specs.RuleWords.{actions_text, unsure_text}
use Rattle.mon_table_file.specs.Filling.{AreApart, IsTableOf}
use Rattle.mon_table_file.specs.Lines.{datapath_text, first_line, switch_line, tag_text, tags_line, miss_line, link_line, IsTag, FitsNear, Row, rule_line, FitsRow, MayStand, rule_given}
use Rattle.mon_table_file.specs.TableFile.{file_text, AreTags, FitsLink, AreLinks, FitsView, AreRules, IsTableFile, IsTableText}
use Rattle.mon_table_file.specs.Reading.{Heading, heading_text, FitsHeading, FitsTags, name_in, head_in, switch_in, tags_line_in, miss_in, link_in, row_in, view_given}
use Rattle.mon_table_file.specs.Sections.{HeadAt, LinksAt, LinksStop, RulesAt, RulesStop, IsBrokenFrom}
use Rattle.mon_table_file.proofs.LineReaders.{reader_name, reader_switch, reader_tags_line, reader_miss, reader_heading, reader_link, reader_row, no_link, no_row, AnyOf, FitsSwitch}
use Rattle.mon_table_file.proofs.SoFar.{all_front, all_next, same_line, not_read}
use Rattle.mon_table_file.proofs.Deciding.{ports_front}
use Rattle.mon_table_file.proofs.Heads.{head_of, lines_are, near_fit, head_fits}

-- what a file has behind its first lines
abbrev behind_tags : Viewing → List Row → List ℕ
behind_tags v rows = miss_line v.miss ++ (flat_map link_line v.links ++ flat_map rule_line rows)

abbrev behind_switch : Viewing → List Row → List ℕ
behind_switch v rows = tags_line v.tags ++ behind_tags v rows

abbrev behind_name : Viewing → List Row → List ℕ
behind_name v rows = switch_line v.switch v.tag ++ behind_switch v rows

-- lines without their line feeds
abbrev link_body : Near → List ℕ
link_body n = codes "link " ++ (decimal n.port ++ (codes " " ++ (datapath_text n.switch ++ (codes " " ++ (decimal n.far_port ++ (codes " " ++ decimal n.tag))))))

link_is : (n : Near) → link_line n ≡ link_body n ++ feed
link_is n = simp append_assoc

feedless_datapath : (n : ℕ) → NoFeed (datapath_text n)
feedless_datapath n = feedless_hex (to_be_bytes w64 n)

feedless_link : (n : Near) → FitsNear n → NoFeed (link_body n)
feedless_link n f =
    let p : n.port ≤ 65280 = f.port.1 in
    let q : n.far_port ≤ 65280 = f.far_port.1 in
    let t : n.tag ≤ 4094 = f.tag.1 in
    let space : NoFeed (codes " ") = feedless_is (codes " ") refl in
    let tag : NoFeed (codes " " ++ decimal n.tag) = feedless_join (codes " ") (decimal n.tag) space (feedless_decimal n.tag (omega arith)) in
    let far = feedless_join (decimal n.far_port) (codes " " ++ decimal n.tag) (feedless_decimal n.far_port (omega arith)) tag in
    let switch = feedless_join (datapath_text n.switch) (codes " " ++ (decimal n.far_port ++ (codes " " ++ decimal n.tag))) (feedless_datapath n.switch) (feedless_join (codes " ") (decimal n.far_port ++ (codes " " ++ decimal n.tag)) space far) in
    let words = datapath_text n.switch ++ (codes " " ++ (decimal n.far_port ++ (codes " " ++ decimal n.tag))) in
    feedless_join (codes "link ") (decimal n.port ++ (codes " " ++ words)) (feedless_is (codes "link ") refl)
    (feedless_join (decimal n.port) (codes " " ++ words) (feedless_decimal n.port (omega arith)) (feedless_join (codes " ") words space switch))

abbrev rule_body : Row → List ℕ
rule_body r = codes "rule " ++ (decimal r.priority ++ (codes " " ++ (hex r.matching ++ (codes " " ++ (actions_text r.actions ++ unsure_text r.unsure)))))

rule_is : (r : Row) → rule_line r ≡ rule_body r ++ feed
rule_is r = simp append_assoc

feedless_actions : (bytes : List ℕ) → NoFeed (actions_text bytes)
feedless_actions [] = feedless_is (codes "-") refl
feedless_actions (b ∷ bs) = feedless_hex (b ∷ bs)

feedless_unsure : (unsure : Bool) → NoFeed (unsure_text unsure)
feedless_unsure true = feedless_is (codes " unsure") refl
feedless_unsure false = tt

feedless_rule : (r : Row) → FitsRow r → NoFeed (rule_body r)
feedless_rule r f =
    let p : r.priority < 2 ^ 16 = f.priority in
    let space : NoFeed (codes " ") = feedless_is (codes " ") refl in
    let last : NoFeed (actions_text r.actions ++ unsure_text r.unsure) = feedless_join (actions_text r.actions) (unsure_text r.unsure) (feedless_actions r.actions) (feedless_unsure r.unsure) in
    feedless_join (codes "rule ") _ (feedless_is (codes "rule ") refl) (feedless_join (decimal r.priority) _ (feedless_decimal r.priority (omega arith)) (feedless_join (codes " ") _ space
    (feedless_join (hex r.matching) _ (feedless_hex r.matching) (feedless_join (codes " ") (actions_text r.actions ++ unsure_text r.unsure) space last))))

-- a text in the form goes on with a line that does not stand there
record OtherLine (s back : List ℕ) : Type 0 where
  body : List ℕ
  behind : List ℕ
  one : NoFeed body
  is : s ≡ body ++ (10 ∷ behind)
  other : (rest : List ℕ) → back ≡ body ++ (10 ∷ rest) → ⊥

-- or it ends where something else stands
abbrev GoesOn : List ℕ → List ℕ → Type 0
GoesOn s back = ((s ≡ []) × (back ≢ [])) ⊎ OtherLine s back

no_line : (line more : List ℕ) → [] ≡ line ++ (10 ∷ more) → ⊥
no_line [] more e = cc
no_line (x ∷ xs) more e = cc

broken : (text front back other : List ℕ) → text ≡ front ++ back → AreLines front → IsTableText (front ++ other) → ((s : List ℕ) → IsTableText (front ++ s) → GoesOn s back) → IsBrokenFrom text back
broken text front back other e whole form goes = record {
  none = λ file. ⊎_elim (λ (p : (back ≡ []) × (back ≢ [])). p.1 p.0) (λ (o : OtherLine back back). o.other o.behind o.is) (goes back (subst IsTableText e file));
  within = back_within text front back e;
  first = λ n at. bad_next IsTableText text front back other n e at whole form (λ line rest more one here file.
      ⊎_elim
      (λ (p : (line ++ (10 ∷ more) ≡ []) × (back ≢ [])). no_line line more (sym p.0))
      (λ (o : OtherLine (line ++ (10 ∷ more)) back).
      let same = feed_once o.body line o.behind more o.one one (sym o.is) in
      o.other rest (here ∙ ap (λ l. l ++ (10 ∷ rest)) (sym same.0)))
      (goes (line ++ (10 ∷ more)) file));
}

-- the line that a text in the form goes on with
whole_at : (body whole rest : List ℕ) → whole ≡ body ++ feed → whole ++ rest ≡ body ++ (10 ∷ rest)
whole_at body whole rest w = ap (λ t. t ++ rest) w ∙ append_assoc body feed rest

other_line : (body whole behind s back : List ℕ) → whole ≡ body ++ feed → NoFeed body → s ≡ whole ++ behind → ((rest : List ℕ) → back ≡ whole ++ rest → ⊥) → OtherLine s back
other_line body whole behind s back w one e none = record { body = body; behind = behind; one = one; is = e ∙ whole_at body whole behind w; other = λ rest here. none rest (here ∙ sym (whole_at body whole rest w)) }

name_body : Bool → List ℕ
name_body false = codes "monocle-table 1"
name_body true = codes "monocle-table 2"

name_is : (second : Bool) → first_line second ≡ name_body second ++ feed
unfolding name_body
name_is false = refl
name_is true = refl

feedless_name : (second : Bool) → NoFeed (name_body second)
unfolding name_body
feedless_name false = feedless_is (codes "monocle-table 1") refl
feedless_name true = feedless_is (codes "monocle-table 2") refl

whole_name : (second : Bool) → AreLines (first_line second)
whole_name second = subst AreLines (sym (name_is second)) (lines_feed (name_body second))

-- whole lines
whole_links : (links : List Near) → AreLines (flat_map link_line links)
whole_links [] = tt
whole_links (n ∷ ns) = lines_join (link_line n) (flat_map link_line ns) (subst AreLines (sym (link_is n)) (lines_feed (link_body n))) (whole_links ns)

whole_rules : (rows : List Row) → AreLines (flat_map rule_line rows)
whole_rules [] = tt
whole_rules (r ∷ rs) = lines_join (rule_line r) (flat_map rule_line rs) (subst AreLines (sym (rule_is r)) (lines_feed (rule_body r))) (whole_rules rs)

whole_heading : (h : Heading) → AreLines (heading_text h)
whole_heading h =
    let all : List ℕ = first_line h.second ++ (switch_line h.switch h.tag ++ (tags_line h.tags ++ (codes "miss " ++ decimal h.miss))) in
    let e : heading_text h ≡ all ++ feed = simp append_assoc in
    subst AreLines (sym e) (lines_feed all)

-- links that are read, and those of a file that begins with them
record MoreLinks (links near : List Near) (rows : List Row) (x : List ℕ) : Type 0 where
  more : List Near
  are : near ≡ links ++ more
  is : flat_map link_line more ++ flat_map rule_line rows ≡ x

more_links : (links near : List Near) (rows : List Row) (x : List ℕ) → AllByRecursion FitsNear links → AllByRecursion FitsNear near
    → flat_map link_line near ++ flat_map rule_line rows ≡ flat_map link_line links ++ x → MoreLinks links near rows x
more_links [] near rows x f g e = record { more = near; are = refl; is = e }
more_links (n ∷ ns) [] rows x f g e =
    absurd (none-some (n, flat_map link_line ns ++ x) (sym (no_link rows) ∙ ap link_in (e ∙ append_assoc (link_line n) (flat_map link_line ns) x) ∙ reader_link.again n (flat_map link_line ns ++ x) f.0))
more_links (n ∷ ns) (m ∷ ms) rows x f g e =
    let one = reader_once link_line FitsNear link_in reader_link n m (flat_map link_line ns ++ x) (flat_map link_line ms ++ flat_map rule_line rows) f.0 g.0
    (sym (append_assoc (link_line n) (flat_map link_line ns) x) ∙ sym e ∙ append_assoc (link_line m) (flat_map link_line ms) (flat_map rule_line rows)) in
    let rest = more_links ns ms rows x f.1 g.1 (sym one.1) in
    record { more = rest.more; are = ap (λ (k : Near). k ∷ ms) (sym one.0) ∙ ap (λ (ks : List Near). n ∷ ks) rest.are; is = rest.is }

record MoreRows (rows others : List Row) (x : List ℕ) : Type 0 where
  more : List Row
  are : others ≡ rows ++ more
  is : flat_map rule_line more ≡ x

more_rows : (rows others : List Row) (x : List ℕ) → AllByRecursion FitsRow rows → AllByRecursion FitsRow others → flat_map rule_line others ≡ flat_map rule_line rows ++ x → MoreRows rows others x
more_rows [] others x f g e = record { more = others; are = refl; is = e }
more_rows (r ∷ rs) [] x f g e =
    absurd (none-some (r, flat_map rule_line rs ++ x) (sym no_row ∙ ap row_in (e ∙ append_assoc (rule_line r) (flat_map rule_line rs) x) ∙ reader_row.again r (flat_map rule_line rs ++ x) f.0))
more_rows (r ∷ rs) (s ∷ ss) x f g e =
    let one = reader_once rule_line FitsRow row_in reader_row r s (flat_map rule_line rs ++ x) (flat_map rule_line ss) f.0 g.0 (sym (append_assoc (rule_line r) (flat_map rule_line rs) x) ∙ sym e) in
    let rest = more_rows rs ss x f.1 g.1 (sym one.1) in
    record { more = rest.more; are = ap (λ (k : Row). k ∷ ss) (sym one.0) ∙ ap (λ (ks : List Row). r ∷ ks) rest.are; is = rest.is }

-- a rule's line is no link's
rule_no_link : (r : Row) (x : List ℕ) → link_in (rule_line r ++ x) ≡ None
unfolding link_in
rule_no_link r x = refl

apart_front : (a b : List Rule) → AreApart (a ++ b) → AreApart a
apart_front [] b all = tt
apart_front (r ∷ a) b all = (all_front _ a b all.0, apart_front a b all.1)

links_front : (tag : ℕ) (tags : List ℕ) (a b : List Near) → AreLinks tag tags (a ++ b) → AreLinks tag tags a
links_front tag tags a b all = record { fit = all_front (FitsLink tag tags) a b all.fit; ascending = ports_front 0 a b all.ascending }

rules_front : (second : Bool) (a b : List Row) → AreRules second (a ++ b) → AreRules second a
rules_front second a b all = record {
  few = (let k : length (a ++ b) ≡ length a + length b = length-append a b in let few : length (a ++ b) ≤ 4096 = all.few in omega arith);
  fit = all_front FitsRow a b all.fit;
  may_stand = all_front (MayStand second) a b all.may_stand;
  apart = apart_front (map rule_given a) (map rule_given b) (subst AreApart (map-append rule_given a b) all.apart);
}

-- the lines up to the links and rules that are read
abbrev front_text : Heading → List Near → List Row → List ℕ
front_text h links rows = heading_text h ++ (flat_map link_line links ++ flat_map rule_line rows)

-- none of these lines may come next: that of a link, while no rule was read, and that of a rule
record NoNext (h : Heading) (links : List Near) (rows : List Row) (back : List ℕ) : Type 0 where
  link : (near : Near) (rest : List ℕ) → rows ≡ [] → back ≡ link_line near ++ rest → AreLinks h.tag h.tags (links ++ near ∷ []) → ⊥
  rule : (row : Row) (rest : List ℕ) → back ≡ rule_line row ++ rest → AreRules h.second (rows ++ row ∷ []) → ⊥
  some : back ≢ []

-- what was read so far is a file itself
record IsFront (text : List ℕ) (h : Heading) (links : List Near) (rows : List Row) (back : List ℕ) : Type 0 where
  is : text ≡ front_text h links rows ++ back
  view : FitsView (view_given h links)
  rules : AreRules h.second rows
  table : List Rule
  of : IsTableOf (map rule_given rows) table

front_file : (text : List ℕ) (h : Heading) (links : List Near) (rows : List Row) (back : List ℕ) → IsFront text h links rows back → IsTableText (front_text h links rows)
front_file text h links rows back f = (
  view_given h links,
  f.table,
  record { second = h.second; rows = rows; is = lines_are h.second (view_given h links) (flat_map link_line links ++ flat_map rule_line rows); view = f.view; rules = f.rules; table = f.of },
)

module _ (text : List ℕ) (h : Heading) (links : List Near) (rows : List Row) (back : List ℕ) (f : IsFront text h links rows back) (none : NoNext h links rows back)
    (s : List ℕ) (v : Viewing) (t : List Rule) (g : IsTableFile (front_text h links rows ++ s) v t) where
  -- the first four lines are the same
  heads_are : (head_of g.second v ≡ h) × (flat_map link_line v.links ++ flat_map rule_line g.rows ≡ flat_map link_line links ++ (flat_map rule_line rows ++ s))
  heads_are =
      let behind = flat_map link_line links ++ (flat_map rule_line rows ++ s) in
      let split : front_text h links rows ++ s ≡ heading_text h ++ behind =
      append_assoc (heading_text h) (flat_map link_line links ++ flat_map rule_line rows) s
      ∙ ap (λ t. heading_text h ++ t) (append_assoc (flat_map link_line links) (flat_map rule_line rows) s) in
      let theirs = flat_map link_line v.links ++ flat_map rule_line g.rows in
      reader_once heading_text FitsHeading head_in reader_heading (head_of g.second v) h theirs behind (head_fits g.second v g.view) (head_fits h.second (view_given h links) f.view)
      (lines_are g.second v theirs ∙ sym g.is ∙ split)

  same_links : (near : List Near) → AreLinks v.tag v.tags near → AreLinks h.tag h.tags near
  same_links near all = subst (λ (k : Heading). AreLinks k.tag k.tags near) heads_are.0 all

  -- a row comes next
  row_next : (others : List Row) → g.rows ≡ rows ++ others → flat_map rule_line others ≡ s → GoesOn s back
  row_next [] are is = inl (sym is, none.some)
  row_next (r ∷ rs) are is =
      let split : g.rows ≡ (rows ++ r ∷ []) ++ rs = are ∙ sym (append_assoc rows (r ∷ []) rs) in
      let all : AreRules g.second (rows ++ r ∷ []) = rules_front g.second (rows ++ r ∷ []) rs (subst (AreRules g.second) split g.rules) in
      let here : AreRules h.second (rows ++ r ∷ []) = subst (λ (k : Heading). AreRules k.second (rows ++ r ∷ [])) heads_are.0 all in
      inr (other_line (rule_body r) (rule_line r) (flat_map rule_line rs) s back (rule_is r) (feedless_rule r (all_next FitsRow rows r [] all.fit)) (sym is) (λ rest stands. none.rule r rest stands here))

  -- a link comes next
  link_next : (read : List Row) (near : Near) (ns : List Near) → rows ≡ read → v.links ≡ links ++ near ∷ ns → flat_map link_line (near ∷ ns) ++ flat_map rule_line g.rows ≡ flat_map rule_line read ++ s → GoesOn s back
  link_next [] near ns e are is =
      let split : v.links ≡ (links ++ near ∷ []) ++ ns = are ∙ sym (append_assoc links (near ∷ []) ns) in
      let all : AreLinks v.tag v.tags (links ++ near ∷ []) = links_front v.tag v.tags (links ++ near ∷ []) ns (subst (AreLinks v.tag v.tags) split g.view.links) in
      let fits : FitsLink v.tag v.tags near = all_next (FitsLink v.tag v.tags) links near [] all.fit in
      inr (other_line (link_body near) (link_line near) (flat_map link_line ns ++ flat_map rule_line g.rows) s back (link_is near) (feedless_link near fits.near)
      (sym is ∙ append_assoc (link_line near) (flat_map link_line ns) (flat_map rule_line g.rows)) (λ rest stands. none.link near rest e stands (same_links (links ++ near ∷ []) all)))
  link_next (r ∷ rs) near ns e are is =
      let fits : FitsLink v.tag v.tags near = all_next (FitsLink v.tag v.tags) links near ns (subst (AllByRecursion (FitsLink v.tag v.tags)) are g.view.links.fit) in
      let read : link_in (rule_line r ++ (flat_map rule_line rs ++ s)) ≡ Some (near, flat_map link_line ns ++ flat_map rule_line g.rows) =
      ap link_in (sym (append_assoc (rule_line r) (flat_map rule_line rs) s) ∙ sym is ∙ append_assoc (link_line near) (flat_map link_line ns) (flat_map rule_line g.rows))
      ∙ reader_link.again near (flat_map link_line ns ++ flat_map rule_line g.rows) fits.near in
      absurd (none-some (near, flat_map link_line ns ++ flat_map rule_line g.rows) (sym (rule_no_link r (flat_map rule_line rs ++ s)) ∙ read))

  next_none : (extra : List Near) → v.links ≡ links ++ extra → flat_map link_line extra ++ flat_map rule_line g.rows ≡ flat_map rule_line rows ++ s → GoesOn s back
  next_none [] are is = let m = more_rows rows g.rows s f.rules.fit g.rules.fit is in row_next m.more m.are m.is
  next_none (near ∷ ns) are is = link_next rows near ns refl are is

  goes_on : GoesOn s back
  goes_on =
      let m = more_links links v.links g.rows (flat_map rule_line rows ++ s) (near_fit h.tag h.tags links f.view.links.fit) (near_fit v.tag v.tags v.links g.view.links.fit) heads_are.1 in
      next_none m.more m.are m.is

-- the first bad line is the one where no further line can be read
broken_rest : (text : List ℕ) (h : Heading) (links : List Near) (rows : List Row) (back : List ℕ) → IsFront text h links rows back → NoNext h links rows back → IsBrokenFrom text back
broken_rest text h links rows back f none =
    broken text (front_text h links rows) back [] f.is
    (lines_join (heading_text h) (flat_map link_line links ++ flat_map rule_line rows) (whole_heading h) (lines_join (flat_map link_line links) (flat_map rule_line rows) (whole_links links) (whole_rules rows)))
    (subst IsTableText (sym (append-nil (front_text h links rows))) (front_file text h links rows back f))
    (λ s file. goes_on text h links rows back f none s file.0 file.1 file.2)

no_rules : (second : Bool) → AreRules second []
no_rules second = record { few = (omega arith); fit = tt; may_stand = tt; apart = tt }

no_table : IsTableOf [] []
no_table = record { table = record { order = tt; normal = tt }; members = λ r. (λ h. h, λ h. h) }

view_fits : (text : List ℕ) (h : Heading) (rest : List ℕ) (links : List Near) → HeadAt text h rest → AreLinks h.tag h.tags links → FitsView (view_given h links)
view_fits text h rest links head all = record { switch = head.switch; tags = head.tags; miss = head.miss; links = all }

-- a link that does not go with those before it
pub links_broken : (text : List ℕ) (h : Heading) (rest back : List ℕ) → HeadAt text h rest → LinksStop h.tag h.tags rest back → IsBrokenFrom text back
links_broken text h rest back head stop =
    broken_rest text h stop.links [] back
    (record {
      is = head.is ∙ ap (λ t. heading_text h ++ t) (stop.is ∙ ap (λ t. t ++ back) (sym (append-nil (flat_map link_line stop.links)))) ∙ sym (append_assoc (heading_text h) (flat_map link_line stop.links ++ []) back);
      view = view_fits text h rest stop.links head stop.links_are;
      rules = no_rules h.second;
      table = [];
      of = no_table;
    })
    (record {
      link = λ near more none here all.
          let fits : FitsLink h.tag h.tags near = all_next (FitsLink h.tag h.tags) stop.links near [] all.fit in
          stop.wrong (subst (λ (n : Near). AreLinks h.tag h.tags (stop.links ++ n ∷ [])) (same_line link_line FitsNear link_in reader_link back stop.after more stop.near near stop.read fits.near here) all);
      rule = λ row more here all. none-some (stop.near, stop.after) (sym (rule_no_link row more) ∙ ap link_in (sym here) ∙ stop.read);
      some = λ e. none-some (stop.near, stop.after) (sym (no_link []) ∙ ap link_in (sym e) ∙ stop.read);
    })

nothing_before : (rows : List Row) (text back : List ℕ) → rows ≡ [] → text ≡ flat_map rule_line rows ++ back → text ≡ back
nothing_before rows text back none e = e ∙ ap (λ (rs : List Row). flat_map rule_line rs ++ back) none

-- something else than a rule that goes with those before it
pub rules_broken : (text : List ℕ) (h : Heading) (linked : List ℕ) (links : List Near) (ruled back : List ℕ) → HeadAt text h linked → LinksAt h.tag h.tags linked links ruled → RulesStop h.second ruled back → IsBrokenFrom text back
rules_broken text h linked links ruled back head near stop =
    let rows = stop.rows in
    broken_rest text h links rows back
    (record {
      is = head.is ∙ ap (λ t. heading_text h ++ t) (near.is ∙ ap (λ t. flat_map link_line links ++ t) stop.is ∙ sym (append_assoc (flat_map link_line links) (flat_map rule_line rows) back))
          ∙ sym (append_assoc (heading_text h) (flat_map link_line links ++ flat_map rule_line rows) back);
      view = view_fits text h linked links head near.links_are;
      rules = stop.rules;
      table = stop.table;
      of = stop.of;
    })
    (record {
      link = λ n more none here all.
          let fits : FitsLink h.tag h.tags n = all_next (FitsLink h.tag h.tags) links n [] all.fit in
          not_read link_line FitsNear link_in reader_link back more n (ap link_in (sym (nothing_before rows ruled back none stop.is)) ∙ near.ends) fits.near here;
      rule = stop.wrong;
      some = stop.some;
    })

-- a file
pub file_is : (text : List ℕ) (h : Heading) (linked : List ℕ) (links : List Near) (ruled : List ℕ) (t : List Rule) → HeadAt text h linked → LinksAt h.tag h.tags linked links ruled → RulesAt h.second ruled t → IsTableFile text (view_given h links) t
file_is text h linked links ruled t head near rules = record {
  second = h.second;
  rows = rules.rows;
  is = head.is ∙ ap (λ t. heading_text h ++ t) (near.is ∙ ap (λ t. flat_map link_line links ++ t) rules.is) ∙ lines_are h.second (view_given h links) (flat_map link_line links ++ flat_map rule_line rules.rows);
  view = view_fits text h linked links head near.links_are;
  rules = rules.rules;
  table = rules.table;
}

-- the first four lines, one by one
abbrev bare : ℕ → ℕ → List ℕ → Viewing
bare switch tag tags = record { switch = switch; tag = tag; tags = tags; links = []; miss = 0 }

bare_fits : (switch tag : ℕ) (tags : List ℕ) → switch < 2 ^ 64 → AreTags tag tags → FitsView (bare switch tag tags)
bare_fits switch tag tags w all = record { switch = w; tags = all; miss = (omega arith); links = record { fit = tt; ascending = tt } }

bare_file : (second : Bool) (switch tag : ℕ) (tags : List ℕ) → switch < 2 ^ 64 → AreTags tag tags → IsTableText (file_text second (bare switch tag tags) [])
bare_file second switch tag tags w all = (
  bare switch tag tags,
  [],
  record { second = second; rows = []; is = refl; view = bare_fits switch tag tags w all; rules = no_rules second; table = no_table },
)

own_tag : (tag : ℕ) → IsTag tag → AreTags tag (tag ∷ [])
own_tag tag f = record { vids = (f.0, f.1, tt); few = (omega arith); in_use = or_left _ _ (eq-eqb tag tag refl) }

some_file : (second : Bool) → IsTableText (file_text second (bare 0 1 (1 ∷ [])) [])
some_file second = bare_file second 0 1 (1 ∷ []) (omega arith) (own_tag 1 (omega arith, omega arith))

abbrev switch_body : ℕ → ℕ → List ℕ
switch_body datapath tag = codes "switch " ++ (datapath_text datapath ++ (codes " " ++ decimal tag))

switch_is : (datapath tag : ℕ) → switch_line datapath tag ≡ switch_body datapath tag ++ feed
switch_is datapath tag = simp append_assoc

feedless_switch : (datapath tag : ℕ) → IsTag tag → NoFeed (switch_body datapath tag)
feedless_switch datapath tag f =
    let t : tag ≤ 4094 = f.1 in
    feedless_join (codes "switch ") (datapath_text datapath ++ (codes " " ++ decimal tag)) (feedless_is (codes "switch ") refl) (feedless_join (datapath_text datapath) (codes " " ++ decimal tag) (feedless_datapath datapath)
    (feedless_join (codes " ") (decimal tag) (feedless_is (codes " ") refl) (feedless_decimal tag (omega arith))))

abbrev tags_body : List ℕ → List ℕ
tags_body tags = codes "tags" ++ flat_map tag_text tags

tags_is : (tags : List ℕ) → tags_line tags ≡ tags_body tags ++ feed
tags_is tags = sym (append_assoc (codes "tags") (flat_map tag_text tags) feed)

feedless_tag : (tag : ℕ) → IsTag tag → NoFeed (tag_text tag)
feedless_tag tag f = let t : tag ≤ 4094 = f.1 in feedless_join (codes " ") (decimal tag) (feedless_is (codes " ") refl) (feedless_decimal tag (omega arith))

feedless_tags : (tags : List ℕ) → AllByRecursion IsTag tags → NoFeed (tags_body tags)
feedless_tags tags all = feedless_join (codes "tags") (flat_map tag_text tags) (feedless_is (codes "tags") refl) (feedless_flat tag_text IsTag feedless_tag tags all)

abbrev miss_body : ℕ → List ℕ
miss_body miss = codes "miss " ++ decimal miss

miss_is : (miss : ℕ) → miss_line miss ≡ miss_body miss ++ feed
miss_is miss = sym (append_assoc (codes "miss ") (decimal miss) feed)

feedless_miss : (miss : ℕ) → miss < 2 ^ 16 → NoFeed (miss_body miss)
feedless_miss miss w = feedless_join (codes "miss ") (decimal miss) (feedless_is (codes "miss ") refl) (feedless_decimal miss (omega arith))

-- the name of the form
pub name_broken : (text : List ℕ) → None ≡ name_in text → IsBrokenFrom text text
name_broken text none =
    broken text [] text (file_text false (bare 0 1 (1 ∷ [])) []) refl tt (some_file false)
    (λ s file.
    let f = file.2 in
    inr (other_line (name_body f.second) (first_line f.second) (behind_name file.0 f.rows) s text (name_is f.second) (feedless_name f.second) f.is
    (λ rest here. not_read first_line AnyOf name_in reader_name text rest f.second (sym none) tt here)))

-- what a file has behind the first line
record Named (second : Bool) (behind : List ℕ) (v : Viewing) (k : Bool) (rows : List Row) : Type 0 where
  version_is : second ≡ k
  is : behind ≡ behind_name v rows

named : (second : Bool) (behind : List ℕ) (v : Viewing) (k : Bool) (rows : List Row) → first_line second ++ behind ≡ file_text k v rows → Named second behind v k rows
named second behind v k rows e = let once = reader_once first_line AnyOf name_in reader_name second k behind (behind_name v rows) tt tt e in record { version_is = once.0; is = once.1 }

-- the line of the switch
pub switch_broken : (text back : List ℕ) (second : Bool) → Some (second, back) ≡ name_in text → None ≡ switch_in back → IsBrokenFrom text back
switch_broken text back second read none =
    broken text (first_line second) back (behind_name (bare 0 1 (1 ∷ [])) []) (reader_name.found text second back (sym read)).1 (whole_name second) (some_file second)
    (λ s file.
    let v = file.0 in
    let f = file.2 in
    let h = head_fits f.second v f.view in
    inr (other_line (switch_body v.switch v.tag) (switch_line v.switch v.tag) (behind_switch v f.rows) s back (switch_is v.switch v.tag) (feedless_switch v.switch v.tag h.tag)
    (named second s v f.second f.rows f.is).is
    (λ rest here. not_read {X = ℕ × ℕ} (λ x. switch_line x.0 x.1) FitsSwitch switch_in reader_switch back rest (v.switch, v.tag) (sym none) (h.switch, h.tag) here)))

-- what a file has behind the line of the switch
record Switched (datapath tag : ℕ) (v : Viewing) (rows : List Row) (behind : List ℕ) : Type 0 where
  tag_is : tag ≡ v.tag
  is : behind ≡ behind_switch v rows

switched : (second : Bool) (datapath tag : ℕ) (behind : List ℕ) (v : Viewing) (k : Bool) (rows : List Row) → datapath < 2 ^ 64 → IsTag tag → FitsView v
    → (first_line second ++ switch_line datapath tag) ++ behind ≡ file_text k v rows → Switched datapath tag v rows behind
switched second datapath tag behind v k rows w f fits e =
    let h = head_fits k v fits in
    let line = (named second (switch_line datapath tag ++ behind) v k rows (sym (append_assoc (first_line second) (switch_line datapath tag) behind) ∙ e)).is in
    let once = reader_once {X = ℕ × ℕ} (λ x. switch_line x.0 x.1) FitsSwitch switch_in reader_switch (datapath, tag) (v.switch, v.tag) behind (behind_switch v rows) (w, f) (h.switch, h.tag) line in
    record { tag_is = ap (λ (x : ℕ × ℕ). x.1) once.0; is = once.1 }

whole_switch : (second : Bool) (datapath tag : ℕ) → AreLines (first_line second ++ switch_line datapath tag)
whole_switch second datapath tag = lines_join (first_line second) (switch_line datapath tag) (whole_name second) (subst AreLines (sym (switch_is datapath tag)) (lines_feed (switch_body datapath tag)))

-- the first two lines that were read
record TwoLines (text back : List ℕ) (second : Bool) (datapath tag : ℕ) : Type 0 where
  is : text ≡ (first_line second ++ switch_line datapath tag) ++ back
  switch : datapath < 2 ^ 64
  tag_fits : IsTag tag

two_lines : (text next back : List ℕ) (second : Bool) (datapath tag : ℕ) → Some (second, next) ≡ name_in text → Some ((datapath, tag), back) ≡ switch_in next → TwoLines text back second datapath tag
two_lines text next back second datapath tag name line =
    let n = reader_name.found text second next (sym name) in
    let s = reader_switch.found next (datapath, tag) back (sym line) in
    record { is = n.1 ∙ ap (λ t. first_line second ++ t) s.1 ∙ sym (append_assoc (first_line second) (switch_line datapath tag) back); switch = s.0.0; tag_fits = s.0.1 }

-- the line of the tags
pub tags_broken : (text next back : List ℕ) (second : Bool) (datapath tag : ℕ) → Some (second, next) ≡ name_in text → Some ((datapath, tag), back) ≡ switch_in next
    → ((tags rest : List ℕ) → AreTags tag tags → back ≡ tags_line tags ++ rest → ⊥) → IsBrokenFrom text back
tags_broken text next back second datapath tag name line none =
    let two = two_lines text next back second datapath tag name line in
    broken text (first_line second ++ switch_line datapath tag) back (behind_switch (bare datapath tag (tag ∷ [])) []) two.is (whole_switch second datapath tag)
    (subst IsTableText (sym (append_assoc (first_line second) (switch_line datapath tag) (behind_switch (bare datapath tag (tag ∷ [])) []))) (bare_file second datapath tag (tag ∷ []) two.switch (own_tag tag two.tag_fits)))
    (λ s file.
    let v = file.0 in
    let g = file.2 in
    let w = switched second datapath tag s v g.second g.rows two.switch two.tag_fits g.view g.is in
    inr (other_line (tags_body v.tags) (tags_line v.tags) (behind_tags v g.rows) s back (tags_is v.tags) (feedless_tags v.tags (head_fits g.second v g.view).tags.1) w.is
    (λ rest here. none v.tags rest (subst (λ (k : ℕ). AreTags k v.tags) (sym w.tag_is) g.view.tags) here)))

whole_tags : (second : Bool) (datapath tag : ℕ) (tags : List ℕ) → AreLines ((first_line second ++ switch_line datapath tag) ++ tags_line tags)
whole_tags second datapath tag tags = lines_join (first_line second ++ switch_line datapath tag) (tags_line tags) (whole_switch second datapath tag) (subst AreLines (sym (tags_is tags)) (lines_feed (tags_body tags)))

-- the line of the miss length
pub miss_broken : (text next after back : List ℕ) (second : Bool) (datapath tag : ℕ) (tags : List ℕ) → Some (second, next) ≡ name_in text → Some ((datapath, tag), after) ≡ switch_in next
    → AreTags tag tags → after ≡ tags_line tags ++ back → None ≡ miss_in back → IsBrokenFrom text back
miss_broken text next after back second datapath tag tags name line all e none =
    let two = two_lines text next after second datapath tag name line in
    let own = bare datapath tag tags in
    let own_fits : FitsHeading (head_of second own) = head_fits second own (bare_fits datapath tag tags two.switch all) in
    broken text ((first_line second ++ switch_line datapath tag) ++ tags_line tags) back (behind_tags own [])
    (two.is ∙ ap (λ t. (first_line second ++ switch_line datapath tag) ++ t) e ∙ sym (append_assoc (first_line second ++ switch_line datapath tag) (tags_line tags) back)) (whole_tags second datapath tag tags)
    (subst IsTableText (sym (append_assoc (first_line second ++ switch_line datapath tag) (tags_line tags) (behind_tags own []) ∙ append_assoc (first_line second) (switch_line datapath tag) (tags_line tags ++ behind_tags own [])))
    (bare_file second datapath tag tags two.switch all))
    (λ s file.
    let v = file.0 in
    let g = file.2 in
    let h = head_fits g.second v g.view in
    let w = switched second datapath tag (tags_line tags ++ s) v g.second g.rows two.switch two.tag_fits g.view (sym (append_assoc (first_line second ++ switch_line datapath tag) (tags_line tags) s) ∙ g.is) in
    let once = reader_once tags_line FitsTags tags_line_in reader_tags_line tags v.tags s (behind_tags v g.rows) own_fits.tags h.tags w.is in
    inr (other_line (miss_body v.miss) (miss_line v.miss) (flat_map link_line v.links ++ flat_map rule_line g.rows) s back (miss_is v.miss) (feedless_miss v.miss g.view.miss) once.1
    (λ rest here. not_read miss_line (λ n. n < 2 ^ 16) miss_in reader_miss back rest v.miss (sym none) h.miss here)))

-- the first four lines that were read
pub head_is : (text next after behind rest : List ℕ) (second : Bool) (datapath tag : ℕ) (tags : List ℕ) (miss : ℕ) → Some (second, next) ≡ name_in text → Some ((datapath, tag), after) ≡ switch_in next
    → AreTags tag tags → after ≡ tags_line tags ++ behind → Some (miss, rest) ≡ miss_in behind → HeadAt text (record { second = second; switch = datapath; tag = tag; tags = tags; miss = miss }) rest
head_is text next after behind rest second datapath tag tags miss name line all e last =
    let two = two_lines text next after second datapath tag name line in
    let m = reader_miss.found behind miss rest (sym last) in
    let own : Viewing = record { switch = datapath; tag = tag; tags = tags; links = []; miss = miss } in
    record {
      is = two.is ∙ append_assoc (first_line second) (switch_line datapath tag) after ∙ ap (λ t. first_line second ++ (switch_line datapath tag ++ t)) (e ∙ ap (λ t. tags_line tags ++ t) m.1) ∙ sym (lines_are second own rest);
      switch = two.switch;
      tags = all;
      miss = m.0;
    }
