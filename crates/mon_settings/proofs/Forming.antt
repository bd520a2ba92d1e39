-- Values of JSON that are read are in their form, and those in their form are read.
use Rattle.std.proofs.Common.{◌≡◌, ℕ, ◌≤◌, suc, arith, Bool, true, false, ◌&&◌, nat_le, refl, sym, ap, ◌∙◌, subst, List, [], ◌∷◌, ◌++◌, length, codes}
use Rattle.std.specs.Prelude.{Option, Some, None, option_and_then, is_none, Result, Ok, if◌then◌else◌}
use Rattle.std.proofs.lemmas.Bool.{leb-true, le-leb, and_parts, and_from}
use Rattle.std.proofs.lemmas.List.{append-nil, append_assoc}
use Rattle.serde_json.specs.Data.{Data, null, boolean, number, unsigned, negative, float, string, array, object, Items, no_items, item}
use Rattle.serde_json.specs.Find.{get, as_str, as_array}
use Rattle.mon_topo.specs.declared.topology.Link.{Link}
use Rattle.mon_topo.specs.declared.fault.TopoFault.{TopoFault}
use Rattle.mon_topo.specs.Ascending.{Ascends, next, may_follow}
use Rattle.mon_topo.specs.Links.{wrong, first_wrong, or_else}
use Rattle.mon_settings.specs.declared.address.Address.{Address}
use Rattle.mon_settings.specs.Texts.{datapath_of, address_of}
use Rattle.mon_settings.specs.Members.{or_bad, and_then, element_path, number_in, number_member, address_member}
use Rattle.mon_settings.specs.Lists.{count, counted, elements, datapath_in, following, rising, link_with, link_parts, link_of, sound, links_from}
use Rattle.mon_settings.specs.Form.{IsNumber, IsAddress, IsDatapath, IsLink, Each, Has}
use Rattle.mon_settings.proofs.Stepping.{stepped, step, and_then-same, chosen, choose, given}

-- numbers

within_test : (low high n m : ℕ) (test : Bool) → (nat_le low n && nat_le n high) ≡ test → (if test then Some n else None) ≡ Some m → (n ≡ m) × (low ≤ n) × (n ≤ high)
within_test low high n m false fits is = cc
within_test low high n m true fits is =
    let parts = and_parts (nat_le low n) (nat_le n high) fits in
    let same : n ≡ m = cc in
    (same, leb-true low n parts.0, leb-true n high parts.1)

within-passes : (low high n : ℕ) → low ≤ n → n ≤ high → (nat_le low n && nat_le n high) ≡ true
within-passes low high n a b = and_from (nat_le low n) (nat_le n high) (le-leb low n a) (le-leb n high b)

pub number-form : (low high : ℕ) (d : Data) (m : ℕ) → number_in low high d ≡ Some m → IsNumber low high d m
number-form low high null m is = cc
number-form low high (boolean b) m is = cc
number-form low high (number (unsigned n)) m is =
    let w = within_test low high n m (nat_le low n && nat_le n high) refl is in
    subst (λ (k : ℕ). IsNumber low high (number (unsigned n)) k) w.0 (refl, w.1, w.2)
number-form low high (number (negative z)) m is = cc
number-form low high (number (float x)) m is = cc
number-form low high (string s) m is = cc
number-form low high (array ds) m is = cc
number-form low high (object ms) m is = cc

pub form-number : (low high : ℕ) (d : Data) (m : ℕ) → IsNumber low high d m → number_in low high d ≡ Some m
form-number low high d m is =
    ap (number_in low high) is.0
    ∙ ap (λ (t : Bool). if t then Some m else None) (within-passes low high m is.1 is.2)

-- texts

abbrev IsOf : {X : Type 0} → (List ℕ → Option X) → Data → X → Type 0
IsOf f d x = (text : List ℕ) × (d ≡ string text) × (f text ≡ Some x)

text-form : {X : Type 0} (f : List ℕ → Option X) (d : Data) (x : X) → option_and_then f (as_str d) ≡ Some x → IsOf f d x
text-form f null x is = cc
text-form f (boolean b) x is = cc
text-form f (number n) x is = cc
text-form f (string s) x is = (s, refl, is)
text-form f (array ds) x is = cc
text-form f (object ms) x is = cc

form-text : {X : Type 0} (f : List ℕ → Option X) (d : Data) (x : X) → IsOf f d x → option_and_then f (as_str d) ≡ Some x
form-text f d x is = ap (λ e. option_and_then f (as_str e)) is.1 ∙ is.2

pub datapath-form : (d : Data) (n : ℕ) → datapath_in d ≡ Some n → IsDatapath d n
datapath-form d n is = text-form datapath_of d n is

pub form-datapath : (d : Data) (n : ℕ) → IsDatapath d n → datapath_in d ≡ Some n
form-datapath d n is = form-text datapath_of d n is

-- members

abbrev IsThere : {X : Type 0} → (Data → X → Type 0) → Option Data → X → Type 0
IsThere P o x = (value : Data) × (o ≡ Some value) × P value x

number-there : (low high : ℕ) (o : Option Data) (n : ℕ) → option_and_then (number_in low high) o ≡ Some n → IsThere (IsNumber low high) o n
number-there low high None n is = cc
number-there low high (Some d) n is = (d, refl, number-form low high d n is)

pub number_member-form : (name : List ℕ) (low high : ℕ) (d : Data) (n : ℕ) → number_member name low high d ≡ Ok n → Has name (IsNumber low high) d n
number_member-form name low high d n is = number-there low high (get name d) n (given name _ n is)

pub form-number_member : (name : List ℕ) (low high : ℕ) (d : Data) (n : ℕ) → Has name (IsNumber low high) d n → number_member name low high d ≡ Ok n
form-number_member name low high d n has =
    ap (or_bad name) (ap (option_and_then (number_in low high)) has.1 ∙ form-number low high has.0 n has.2)

address-there : (o : Option Data) (a : Address) → option_and_then address_of (option_and_then as_str o) ≡ Some a → IsThere IsAddress o a
address-there None a is = cc
address-there (Some d) a is = (d, refl, text-form address_of d a is)

pub address_member-form : (name : List ℕ) (d : Data) (a : Address) → address_member name d ≡ Ok a → Has name IsAddress d a
address_member-form name d a is = address-there (get name d) a (given name _ a is)

pub form-address_member : (name : List ℕ) (d : Data) (a : Address) → Has name IsAddress d a → address_member name d ≡ Ok a
form-address_member name d a has =
    ap (or_bad name) (ap (λ o. option_and_then address_of (option_and_then as_str o)) has.1 ∙ form-text address_of has.0 a has.2)

-- arrays

pub each-count : {X : Type 0} (P : Data → X → Type 0) (ds : Items) (xs : List X) → Each P ds xs → count ds ≡ length xs
each-count P no_items [] e = refl
each-count P no_items (x ∷ xs) e = absurd e
each-count P (item d ds) [] e = absurd e
each-count P (item d ds) (x ∷ xs) e = ap suc (each-count P ds xs e.1)

pub each-map : {X : Type 0} (P Q : Data → X → Type 0) (ds : Items) (xs : List X) → ((d : Data) (x : X) → P d x → Q d x) → Each P ds xs → Each Q ds xs
each-map P Q no_items [] f e = tt
each-map P Q no_items (x ∷ xs) f e = absurd e
each-map P Q (item d ds) [] f e = absurd e
each-map P Q (item d ds) (x ∷ xs) f e = (f d x e.0, each-map P Q ds xs f e.1)

counted_test : (low high : ℕ) (es ds : Items) (test : Bool) → (nat_le low (count es) && nat_le (count es) high) ≡ test → (if test then Some es else None) ≡ Some ds
    → (es ≡ ds) × (low ≤ count es) × (count es ≤ high)
counted_test low high es ds false fits is = cc
counted_test low high es ds true fits is =
    let parts = and_parts (nat_le low (count es)) (nat_le (count es) high) fits in
    let same : es ≡ ds = cc in
    (same, leb-true low (count es) parts.0, leb-true (count es) high parts.1)

pub counted-form : (low high : ℕ) (es ds : Items) → counted low high es ≡ Some ds → (es ≡ ds) × (low ≤ count es) × (count es ≤ high)
unfolding counted
counted-form low high es ds is = counted_test low high es ds (nat_le low (count es) && nat_le (count es) high) refl is

pub form-counted : (low high : ℕ) (ds : Items) → low ≤ count ds → count ds ≤ high → counted low high ds ≡ Some ds
unfolding counted
form-counted low high ds a b = ap (λ (t : Bool). if t then Some ds else None) (within-passes low high (count ds) a b)

abbrev pub IsArray : ℕ → ℕ → Option Data → Items → Type 0
IsArray low high o ds = (o ≡ Some (array ds)) × (low ≤ count ds) × (count ds ≤ high)

array-form : (low high : ℕ) (o : Option Data) (ds : Items) → option_and_then (counted low high) (option_and_then as_array o) ≡ Some ds → IsArray low high o ds
array-form low high None ds is = cc
array-form low high (Some null) ds is = cc
array-form low high (Some (boolean b)) ds is = cc
array-form low high (Some (number n)) ds is = cc
array-form low high (Some (string s)) ds is = cc
array-form low high (Some (array es)) ds is =
    let c = counted-form low high es ds is in
    subst (λ (xs : Items). IsArray low high (Some (array es)) xs) c.0 (refl, c.1, c.2)
array-form low high (Some (object ms)) ds is = cc

pub elements-form : (name : List ℕ) (low high : ℕ) (d : Data) (ds : Items) → elements name low high d ≡ Some ds → IsArray low high (get name d) ds
elements-form name low high d ds is = array-form low high (get name d) ds is

pub form-elements : (name : List ℕ) (low high : ℕ) (d : Data) (ds : Items) → get name d ≡ Some (array ds) → low ≤ count ds → count ds ≤ high → elements name low high d ≡ Some ds
form-elements name low high d ds is a b = ap (λ o. option_and_then (counted low high) (option_and_then as_array o)) is ∙ form-counted low high ds a b

-- numbers that ascend

next-more : (low : ℕ) (before : List ℕ) (n : ℕ) → next low (before ++ n ∷ []) ≡ suc n
next-more low [] n = refl
next-more low (x ∷ xs) n = next-more (suc x) xs n

follow_test : (low high : ℕ) (before : List ℕ) (m n : ℕ) (test : Bool) → may_follow low high before m ≡ test → (if test then Some m else None) ≡ Some n
    → (m ≡ n) × (next low before ≤ m) × (m ≤ high)
follow_test low high before m n false fits is = cc
follow_test low high before m n true fits is =
    let parts = and_parts (nat_le (next low before) m) (nat_le m high) fits in
    let same : m ≡ n = cc in
    (same, leb-true (next low before) m parts.0, leb-true m high parts.1)

follows : (low high : ℕ) (before : List ℕ) (o : Option ℕ) (n : ℕ) → option_and_then (following low high before) o ≡ Some n
    → (o ≡ Some n) × (next low before ≤ n) × (n ≤ high)
unfolding following
follows low high before None n is = cc
follows low high before (Some m) n is =
    let f = follow_test low high before m n (may_follow low high before m) refl is in
    subst (λ (k : ℕ). (Some m ≡ Some k) × (next low before ≤ k) × (k ≤ high)) f.0 (refl, f.1, f.2)

follow : (low high : ℕ) (before : List ℕ) (n : ℕ) → next low before ≤ n → n ≤ high → following low high before n ≡ Some n
unfolding following
follow low high before n a b = ap (λ (t : Bool). if t then Some n else None) (within-passes (next low before) high n a b)

abbrev pub IsRising : ℕ → ℕ → (Data → Option ℕ) → List ℕ → Items → List ℕ → Type 0
IsRising low high f before ds out = (ns : List ℕ) × (out ≡ before ++ ns) × Each (λ d n. f d ≡ Some n) ds ns × Ascends (next low before) high ns

pub rising-form : (name : List ℕ) (low high : ℕ) (f : Data → Option ℕ) (before : List ℕ) (place : ℕ) (ds : Items) (out : List ℕ)
    → rising name low high f before place ds ≡ Ok out → IsRising low high f before ds out
rising-form name low high f before place no_items out is =
    let same : before ≡ out = cc in
    ([], sym same ∙ sym (append-nil before), tt, tt)
rising-form name low high f before place (item d ds) out is =
    let s = stepped _ _ out is in
    let n = follows low high before (f d) s.value (given (element_path name place) _ s.value s.first) in
    let rest = rising-form name low high f (before ++ s.value ∷ []) (suc place) ds out s.second in (
      s.value ∷ rest.0,
      rest.1 ∙ append_assoc before (s.value ∷ []) rest.0,
      (n.0, rest.2),
      (n.1, n.2, subst (λ (k : ℕ). Ascends k high rest.0) (next-more low before s.value) rest.3),
    )

pub form-rising : (name : List ℕ) (low high : ℕ) (f : Data → Option ℕ) (before : List ℕ) (place : ℕ) (ds : Items) (ns : List ℕ)
    → Each (λ d n. f d ≡ Some n) ds ns → Ascends (next low before) high ns → rising name low high f before place ds ≡ Ok (before ++ ns)
form-rising name low high f before place no_items [] e a = ap (λ (xs : List ℕ). Ok xs) (sym (append-nil before))
form-rising name low high f before place no_items (n ∷ ns) e a = absurd e
form-rising name low high f before place (item d ds) [] e a = absurd e
form-rising name low high f before place (item d ds) (n ∷ ns) e a =
    step _ _ n _
    (ap (or_bad (element_path name place)) (ap (option_and_then (following low high before)) e.0 ∙ follow low high before n a.0 a.1))
    (form-rising name low high f (before ++ n ∷ []) (suc place) ds ns e.1 (subst (λ (k : ℕ). Ascends k high ns) (sym (next-more low before n)) a.2)
    ∙ ap (λ (xs : List ℕ). Ok xs) (append_assoc before (n ∷ []) ns))

-- links

pub record Four (ds : Items) : Type 0 where
  pub a : Data
  pub b : Data
  pub c : Data
  pub d : Data
  pub is : ds ≡ item a (item b (item c (item d no_items)))

four-of : (ds : Items) → 4 ≤ count ds → count ds ≤ 4 → Four ds
four-of no_items least most = absurd (omega (arith, least))
four-of (item a no_items) least most = absurd (omega (arith, least))
four-of (item a (item b no_items)) least most = absurd (omega (arith, least))
four-of (item a (item b (item c no_items))) least most = absurd (omega (arith, least))
four-of (item a (item b (item c (item d no_items)))) least most = record { a = a; b = b; c = c; d = d; is = refl }
four-of (item a (item b (item c (item d (item e es))))) least most = absurd (omega (arith, most))

parts-form : (a b c d : Data) (l : Link) → link_parts (array (item a (item b (item c (item d no_items))))) ≡ Some l
    → IsLink (array (item a (item b (item c (item d no_items))))) l
unfolding link_parts
parts-form a b c d l is =
    let w = chosen (datapath_in a) _ l is in
    let x = chosen (number_in 1 65280 b) _ l w.second in
    let y = chosen (datapath_in c) _ l x.second in
    let z = chosen (number_in 1 65280 d) _ l y.second in
    let same : link_with w.value x.value y.value z.value ≡ l = some-same _ _ z.second in
    subst (λ (m : Link). IsLink (array (item a (item b (item c (item d no_items))))) m) same (record {
      first = a;
      first_port = b;
      second = c;
      second_port = d;
      four = refl;
      a = datapath-form a w.value w.first;
      a_port = number-form 1 65280 b x.value x.first;
      b = datapath-form c y.value y.first;
      b_port = number-form 1 65280 d z.value z.first;
    })
  where
    some-same : (l m : Link) → Some l ≡ Some m → l ≡ m
    some-same l m is = cc

four-form : (ds : Items) (l : Link) → Four ds → link_parts (array ds) ≡ Some l → IsLink (array ds) l
four-form ds l f is =
    subst (λ (es : Items). IsLink (array es) l) (sym f.is) (parts-form f.a f.b f.c f.d l (ap (λ (es : Items). link_parts (array es)) (sym f.is) ∙ is))

pub link-form : (d : Data) (l : Link) → link_of d ≡ Some l → IsLink d l
link-form null l is = cc
link-form (boolean b) l is = cc
link-form (number n) l is = cc
link-form (string s) l is = cc
link-form (array ds) l is =
    let c = chosen (counted 4 4 ds) _ l is in
    let n = counted-form 4 4 ds c.value c.first in
    four-form ds l (four-of ds n.1 n.2) c.second
link-form (object ms) l is = cc

form-parts : (a b c d : Data) (l : Link) → datapath_in a ≡ Some l.a → number_in 1 65280 b ≡ Some l.a_port → datapath_in c ≡ Some l.b → number_in 1 65280 d ≡ Some l.b_port
    → link_parts (array (item a (item b (item c (item d no_items))))) ≡ Some l
unfolding link_parts
form-parts a b c d l w x y z =
    choose (datapath_in a) _ l.a l w (choose (number_in 1 65280 b) _ l.a_port l x (choose (datapath_in c) _ l.b l y (choose (number_in 1 65280 d) _ l.b_port l z refl)))

pub form-link : (d : Data) (l : Link) → IsLink d l → link_of d ≡ Some l
form-link d l is =
    ap link_of is.four
    ∙ choose (counted 4 4 (item is.first (item is.first_port (item is.second (item is.second_port no_items))))) _ _ l
    (form-counted 4 4 (item is.first (item is.first_port (item is.second (item is.second_port no_items)))) (omega arith) (omega arith))
    (form-parts is.first is.first_port is.second is.second_port l (form-datapath is.first l.a is.a) (form-number 1 65280 is.first_port l.a_port is.a_port)
    (form-datapath is.second l.b is.b) (form-number 1 65280 is.second_port l.b_port is.b_port))

sound_test : (l m : Link) (w : Option TopoFault) → (if is_none w then Some l else None) ≡ Some m → (l ≡ m) × (w ≡ None)
sound_test l m None is = let same : l ≡ m = cc in (same, refl)
sound_test l m (Some f) is = cc

soundly : (switches : List ℕ) (before : List Link) (place : ℕ) (o : Option Link) (l : Link) → option_and_then (sound switches before place) o ≡ Some l
    → (o ≡ Some l) × (wrong switches before place l ≡ None)
unfolding sound
soundly switches before place None l is = cc
soundly switches before place (Some m) l is =
    let s = sound_test m l (wrong switches before place m) is in
    subst (λ (k : Link). (Some m ≡ Some k) × (wrong switches before place k ≡ None)) s.0 (refl, s.1)

not-wrong : (switches : List ℕ) (before : List Link) (place : ℕ) (l : Link) → wrong switches before place l ≡ None → sound switches before place l ≡ Some l
unfolding sound
not-wrong switches before place l is = ap (λ w. if is_none w then Some l else None) is

neither : (a b : Option TopoFault) → or_else a b ≡ None → (a ≡ None) × (b ≡ None)
neither None b is = (refl, is)
neither (Some f) b is = cc

abbrev pub AreLinks : List ℕ → List Link → ℕ → Items → List Link → Type 0
AreLinks switches before place ds out = (ls : List Link) × (out ≡ before ++ ls) × Each IsLink ds ls × (first_wrong switches before place ls ≡ None)

pub links-form : (switches : List ℕ) (before : List Link) (place : ℕ) (ds : Items) (out : List Link) → links_from switches before place ds ≡ Ok out
    → AreLinks switches before place ds out
links-form switches before place no_items out is =
    let same : before ≡ out = cc in
    ([], sym same ∙ sym (append-nil before), tt, refl)
links-form switches before place (item d ds) out is =
    let s = stepped _ _ out is in
    let n = soundly switches before place (link_of d) s.value (given (element_path (codes "links") place) _ s.value s.first) in
    let rest = links-form switches (before ++ s.value ∷ []) (suc place) ds out s.second in (
      s.value ∷ rest.0,
      rest.1 ∙ append_assoc before (s.value ∷ []) rest.0,
      (link-form d s.value n.0, rest.2),
      ap (λ w. or_else w (first_wrong switches (before ++ s.value ∷ []) (suc place) rest.0)) n.1 ∙ rest.3,
    )

pub form-links : (switches : List ℕ) (before : List Link) (place : ℕ) (ds : Items) (ls : List Link) → Each IsLink ds ls → first_wrong switches before place ls ≡ None
    → links_from switches before place ds ≡ Ok (before ++ ls)
form-links switches before place no_items [] e w = ap (λ (xs : List Link). Ok xs) (sym (append-nil before))
form-links switches before place no_items (l ∷ ls) e w = absurd e
form-links switches before place (item d ds) [] e w = absurd e
form-links switches before place (item d ds) (l ∷ ls) e w =
    let n = neither (wrong switches before place l) (first_wrong switches (before ++ l ∷ []) (suc place) ls) w in
    step _ _ l _
    (ap (or_bad (element_path (codes "links") place)) (ap (option_and_then (sound switches before place)) (form-link d l e.0) ∙ not-wrong switches before place l n.0))
    (form-links switches (before ++ l ∷ []) (suc place) ds ls e.1 n.1 ∙ ap (λ (xs : List Link). Ok xs) (append_assoc before (l ∷ []) ls))
