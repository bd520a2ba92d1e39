-- What `overlaps` and `covers` mean, by the headers that matches take.
use Rattle.std.specs.Prelude.{◌≡◌, true}
use Rattle.mon_header.specs.declared.header.Header.{Header}
use Rattle.mon_header.specs.Matching.{Matching, InRange, matches}

-- some header whose numbers fit their fields is taken by both
abbrev pub ShareHeader : Matching → Matching → Type 0
ShareHeader a b = (h : Header) × InRange h × (matches a h ≡ true) × (matches b h ≡ true)

-- each header whose numbers fit their fields and that the second takes is taken by the first
abbrev pub TakesAllOf : Matching → Matching → Type 0
TakesAllOf w n = (h : Header) → InRange h → matches n h ≡ true → matches w h ≡ true
