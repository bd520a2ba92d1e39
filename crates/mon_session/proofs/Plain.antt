-- A line that leaves the edits as they are.
use Rattle.std.specs.Prelude.{◌≡◌, ℕ, Bool, true, false, not, ◌||◌, List, [], ◌∷◌, map, Some, refl}
use Rattle.std.proofs.lemmas.Bool.{false≢true}
use Rattle.mon_report.specs.declared.line.Line.{Line}
use Rattle.mon_report.specs.declared.line.Line.TheVariants.{Armed, Closed, Confirmed, Fact, Watch}
use Rattle.mon_report.specs.declared.line.What.{What}
use Rattle.mon_legal.specs.Runs.{Run}
use Rattle.mon_legal.specs.Owns.Own.{Reports}
use Rattle.mon_legal.specs.Barriers.{is_barriered}
use Rattle.mon_legal.specs.Edits.{Passed, mark_reported}
use Rattle.mon_session.specs.Now.{Now, step, identity_in, edit_numbered}
use Rattle.mon_session.specs.Passing.{mark, marked}
use Rattle.mon_session.specs.Tracks.{Track, mark_track, marked_track}
use Rattle.mon_session.specs.Entries.{forgotten, is_plain}

or-none : (b : Bool) → (b || false) ≡ b
or-none true = refl
or-none false = refl

-- nothing is marked
marks-none : (what : What) (k : ℕ) (ps : List Passed) → is_barriered what ≡ false → map (mark_reported what k) ps ≡ ps
marks-none what k [] e = refl
marks-none what k (p ∷ ps) e =
    let same : mark_reported what k p ≡ p = rw e (rw (or-none p.reported) refl) in
    rw same (rw (marks-none what k ps e) refl)

tracks-none : (what : What) (k : ℕ) (ts : List Track) → is_barriered what ≡ false → map (mark_track what k) ts ≡ ts
tracks-none what k [] e = refl
tracks-none what k (t ∷ ts) e =
    let same : mark_track what k t ≡ t = rw e (rw (or-none t.reported) refl) in
    rw same (rw (tracks-none what k ts e) refl)

plain-not : (b : Bool) → not b ≡ true → b ≡ false
plain-not true e = absurd (false≢true e)
plain-not false e = refl

pub plain_tells : (run : Run) (n : Now) (line : Line) → is_plain line ≡ true → step run n (Reports line) ≡ forgotten n
plain_tells run n (Armed s d t) e = refl
plain_tells run n (Closed s why) e = refl
plain_tells run n (Confirmed s k serial) e = absurd (false≢true e)
plain_tells run n (Fact s k what) e =
    let off = plain-not (is_barriered what) e in
    let same = marks-none what k n.unsettled off in
    let alike = tracks-none what k n.tracks off in
    rw off (rw same (rw alike refl))
plain_tells run n (Watch s m p serial w) e = absurd (false≢true e)

-- a line by which no probe is to show an edit
marks-one : (what : What) (k : ℕ) (ps : List Passed) → is_barriered what ≡ true → map (mark_reported what k) ps ≡ marked k ps
marks-one what k [] e = refl
marks-one what k (p ∷ ps) e =
    let same : mark_reported what k p ≡ mark k p = rw e refl in
    rw same (rw (marks-one what k ps e) refl)

tracks-one : (what : What) (k : ℕ) (ts : List Track) → is_barriered what ≡ true → map (mark_track what k) ts ≡ map (marked_track k) ts
tracks-one what k [] e = refl
tracks-one what k (t ∷ ts) e =
    let same : mark_track what k t ≡ marked_track k t = rw e refl in
    rw same (rw (tracks-one what k ts e) refl)

pub barriered_tells : (run : Run) (n : Now) (s k : ℕ) (what : What) → is_barriered what ≡ true
    → step run n (Reports (Fact s k what)) ≡ record (forgotten n) { unsettled = marked k n.unsettled; tracks = map (marked_track k) n.tracks; reported = Some k; name = identity_in (edit_numbered k n.unsettled) }
barriered_tells run n s k what e = rw (marks-one what k n.unsettled e) (rw (tracks-one what k n.tracks e) (rw e refl))
