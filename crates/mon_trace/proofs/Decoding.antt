-- Digits that were written stand where their place says.
use Rattle.std.proofs.Common.{◌≡◌, ℕ, ◌+◌, ◌*◌, ◌≤◌, Bool, List, [], ◌∷◌, ◌++◌, length, take, drop, Some, refl, sym, ap, subst, ◌∙◌, arith, length-append}
use Rattle.std.specs.Prelude.{reverse}
use Rattle.std.proofs.Math.Seq.{drop-append_seam, drop-append-add}
use Rattle.std.proofs.lemmas.List.{take-append-le, drop-append-le, length-drop, take_all, reverse-append}
use Rattle.mon_world.specs.declared.event.Side.{Side}
use Rattle.mon_world.specs.declared.history.Entry.{Entry}
use Rattle.mon_world.specs.declared.history.Entry.TheVariants.{Put, End, Noted}
use Rattle.mon_trace.specs.declared.outputs.Output.{Output}
use Rattle.mon_trace.specs.declared.outputs.Output.TheVariants.{Frame, Closing, Told}
use Rattle.mon_text.specs.Hex.{hex, unhex}
use Rattle.mon_text.proofs.Decoding.{hex-length}
use Rattle.mon_trace.specs.Run.{put_head, put_line, line_of}
use Rattle.mon_trace.specs.Outputs.{Placed, bytes_of, frame_at, entry_at, entries_in, IsIn, AllIn, IsPlaceIn, lines_text}

-- the digits behind a head, in front of the line feed
pub digits_at : (text head frame : List ℕ) (start size : ℕ) → unhex (hex frame) ≡ Some frame → start ≡ length text + length head → size ≡ length frame → frame_at (text ++ (head ++ (hex frame ++ 10 ∷ []))) start size ≡ frame
digits_at text head frame start size says start_is size_is =
    let line = hex frame ++ 10 ∷ [] in
    let cut : drop start (text ++ (head ++ line)) ≡ line =
    ap (λ (n : ℕ). drop n (text ++ (head ++ line))) start_is ∙ drop-append-add text (head ++ line) (length head) ∙ drop-append_seam head line in
    let digits : take (2 * size) line ≡ hex frame =
    take-append-le (2 * size) (hex frame) (10 ∷ []) (omega (arith, hex-length frame, size_is)) ∙ take_all (2 * size) (hex frame) (omega (arith, hex-length frame, size_is)) in
    ap (λ (xs : List ℕ). bytes_of (unhex (take (2 * size) xs))) cut ∙ ap (λ (xs : List ℕ). bytes_of (unhex xs)) digits ∙ ap bytes_of says

pub frame_placed : (before after number session : ℕ) (to : Side) (lost : Bool) (frame : List ℕ) (start size : ℕ) → unhex (hex frame) ≡ Some frame → start ≡ before + length (put_head number session to lost) → size ≡ length frame
    → IsPlaceIn before (put_line number session to frame lost) (record { after = after; number = number; entry = Put session to frame lost }) (Frame to lost size after number session start)
frame_placed before after number session to lost frame start size says start_is size_is text text_is =
    let head = put_head number session to lost in
    let is : frame_at (text ++ put_line number session to frame lost) start size ≡ frame = digits_at text head frame start size says (start_is ∙ ap (λ (n : ℕ). n + length head) (sym text_is)) size_is in (
      ap (λ (xs : List ℕ). record { after = after; number = number; entry = Put session to xs lost }) is,
      omega (arith, start_is, size_is, text_is, length-append text (put_line number session to frame lost), length-append head (hex frame ++ 10 ∷ []), length-append (hex frame) (10 ∷ []), hex-length frame),
    )

-- text behind that which is there changes no output
entry_stays : (text more : List ℕ) (place : Output) → IsIn (length text) place → entry_at (text ++ more) place ≡ entry_at text place
entry_stays text more (Closing after number session) is = refl
entry_stays text more (Told after number note) is = refl
entry_stays text more (Frame to lost size after number session start) is =
    let cut : drop start (text ++ more) ≡ drop start text ++ more = drop-append-le start text more (omega (arith, is)) in
    let room : 2 * size ≤ length (drop start text) = omega (arith, is, length-drop start text) in
    let digits : take (2 * size) (drop start (text ++ more)) ≡ take (2 * size) (drop start text) = ap (take (2 * size)) cut ∙ take-append-le (2 * size) (drop start text) more room in
    ap (λ (xs : List ℕ). record { after = after; number = number; entry = Put session to (bytes_of (unhex xs)) lost }) digits

entries_stay : (text more : List ℕ) (places : List Output) → AllIn (length text) places → entries_in (text ++ more) places ≡ entries_in text places
entries_stay text more [] all = refl
entries_stay text more (place ∷ places) all =
    ap (λ (o : Placed). o ∷ entries_in (text ++ more) places) (entry_stays text more place all.0)
    ∙ ap (λ (os : List (Placed)). entry_at text place ∷ os) (entries_stay text more places all.1)

in_more : (total more : ℕ) (place : Output) → IsIn total place → total ≤ more → IsIn more place
in_more total more (Closing after number session) is le = tt
in_more total more (Told after number note) is le = tt
in_more total more (Frame to lost size after number session start) is le = omega (arith, is, le)

all_in-more : (total more : ℕ) (places : List Output) → AllIn total places → total ≤ more → AllIn more places
all_in-more total more [] all le = tt
all_in-more total more (place ∷ places) all le = (in_more total more place all.0 le, all_in-more total more places all.1 le)

-- the text and the places with one entry more
record IsGrown (text line : List ℕ) (places more : List Output) (placed : Placed) : Type 0 where
  pub view : entries_in (text ++ line) (reverse more) ≡ placed ∷ entries_in text (reverse places)
  pub within : AllIn (length (text ++ line)) (reverse more)
  pub printed : text ++ line ≡ lines_text (entries_in (text ++ line) (reverse more))

grown : (text line : List ℕ) (places more : List Output) (placed : Placed) (place : Output) → line ≡ line_of placed.number placed.entry → IsPlaceIn (length text) line placed place → more ≡ places ++ place ∷ [] → AllIn (length text) (reverse places) → text ≡ lines_text (entries_in text (reverse places)) → IsGrown text line places more placed
grown text line places more placed place line_is is_placed more_is all printed =
    let newest : reverse more ≡ place ∷ reverse places = ap reverse more_is ∙ reverse-append places (place ∷ []) in
    let one = is_placed text refl in
    let view : entries_in (text ++ line) (reverse more) ≡ placed ∷ entries_in text (reverse places) =
    ap (entries_in (text ++ line)) newest
    ∙ ap (λ (o : Placed). o ∷ entries_in (text ++ line) (reverse places)) one.0
    ∙ ap (λ (os : List Placed). placed ∷ os) (entries_stay text line (reverse places) all) in
    record {
      view = view;
      within = subst (AllIn (length (text ++ line))) (sym newest) (one.1, all_in-more (length text) (length (text ++ line)) (reverse places) all (omega (arith, length-append text line)));
      printed = ap (λ (xs : List ℕ). xs ++ line) printed ∙ ap (λ (xs : List ℕ). lines_text (entries_in text (reverse places)) ++ xs) line_is ∙ sym (ap lines_text view);
    }

-- the same of a text and places that are these
pub record IsPushed (text old : List ℕ) (places more : List Output) (placed : Placed) : Type 0 where
  pub view : entries_in text (reverse more) ≡ placed ∷ entries_in old (reverse places)
  pub within : AllIn (length text) (reverse more)
  pub printed : text ≡ lines_text (entries_in text (reverse more))

pub pushed : (text old line : List ℕ) (places more : List Output) (placed : Placed) (place : Output) (n : ℕ) → n ≡ length old → old ++ line ≡ text → line ≡ line_of placed.number placed.entry → IsPlaceIn n line placed place → more ≡ places ++ place ∷ [] → AllIn (length old) (reverse places) → old ≡ lines_text (entries_in old (reverse places)) → IsPushed text old places more placed
pushed text old line places more placed place n n_is text_is line_is is_placed more_is all printed =
    let g = grown old line places more placed place line_is (subst (λ (k : ℕ). IsPlaceIn k line placed place) n_is is_placed) more_is all printed in
    subst (λ (t : List ℕ). IsPushed t old places more placed) text_is (record { view = g.view; within = g.within; printed = g.printed })
