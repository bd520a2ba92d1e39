use Rattle.std.proofs.Common.{◌≡◌, ◌∙◌, ◌+◌, ◌-◌, ◌++◌, ◌∷◌, [], List, Some, length, ap, sym, subst, rules, arith}
use Rattle.mon_trace.specs.declared.events.Place.{Place}
use Rattle.mon_trace.specs.declared.events.Deed.TheVariants.{Bytes}
use Rattle.mon_trace.specs.Grammar.{Recorded, piece_of}
use Rattle.mon_trace.specs.Reading.{onto, one}
use Rattle.mon_text.specs.Hex.{unhex}
use Rattle.mon_trace.specs.Places.{events_at, AllWithin}
use Rattle.mon_trace.proofs.Places.{all_within-append, all_within-more, pushed_piece}
use Rattle.mon_trace.proofs.events.Events.push_piece.Goals as goal

pub invariant_of-self : goal.invariant_of-self
invariant_of-self c =
    let inside = c.self.inside in
    all_within-more (length inside.bytes.items) (length c.push_bytes.new.out.items) inside.places.items c.self.invariant c.push_bytes.ensures.longer

pub invariant_of-self-then-size-eq0 : goal.invariant_of-self-then-size-eq0
invariant_of-self-then-size-eq0 c =
    let inside = c.self.inside in
    all_within-more (length inside.bytes.items) (length c.push_bytes.new.out.items) inside.places.items c.self.invariant c.push_bytes.ensures.longer

pub invariant_of-self-in_err-push : goal.invariant_of-self-in_err-push
invariant_of-self-in_err-push c =
    let inside = c.self.inside in
    subst (AllWithin (length c.push_bytes.new.out.items)) (sym c.in_err-push.ensures.items)
    (all_within-more (length inside.bytes.items) (length c.push_bytes.new.out.items) inside.places.items c.self.invariant c.push_bytes.ensures.longer)

pub invariant_of-self-2 : goal.invariant_of-self-2
invariant_of-self-2 c =
    let old = c.self.inside.bytes.items in
    let new = c.push_bytes.new.out.items in
    let size = c.len.result - c.len-start.result in
    let start : c.len-start.result ≡ length old = search rules in
    let end : c.len.result ≡ length new = search rules in
    let grown : c.push.new.self.items ≡ c.self.inside.places.items ++ record { offset = c.args.offset; losing = c.args.losing; deed = Bytes c.args.side size c.len-start.result c.args.session } ∷ [] = search rules in
    subst (AllWithin (length new)) (sym grown)
    (all_within-append (length new) c.self.inside.places.items (record { offset = c.args.offset; losing = c.args.losing; deed = Bytes c.args.side size c.len-start.result c.args.session } ∷ []) (all_within-more (length old) (length new) c.self.inside.places.items c.self.invariant c.push_bytes.ensures.longer) ((omega (arith, c.if-size-eq0.false), omega (arith, c.if-size-gt-LARGEST_PIECE.false), omega (arith, start, end, c.push_bytes.ensures.longer)), tt))

pub returns : goal.returns
returns c =
    let old = c.self.inside.bytes.items in
    let new = c.push_bytes.new.out.items in
    let size = c.len.result - c.len-start.result in
    let start : c.len-start.result ≡ length old = search rules in
    let end : c.len.result ≡ length new = search rules in
    let grown : c.push.new.self.items ≡ c.self.inside.places.items ++ record { offset = c.args.offset; losing = c.args.losing; deed = Bytes c.args.side size (length old) c.args.session } ∷ [] = search rules in
    let total : length old + size ≡ length new = omega (arith, start, end, c.push_bytes.ensures.longer) in
    let read = unhex c.args.digits.now in
    ap (λ (events : List Recorded). onto events (one c.args.offset c.args.losing (piece_of c.args.side c.args.session read))) (sym c.self.view_is)
    ∙ pushed_piece c.args.offset c.args.losing c.args.session c.args.side read old new c.self.inside.places.items size c.in_ok-push_bytes.ensures.value c.self.invariant total (omega (arith, c.if-size-eq0.false)) (omega (arith, c.if-size-gt-LARGEST_PIECE.false))
    ∙ ap (λ (places : List Place). Some (events_at new places)) (sym grown)
