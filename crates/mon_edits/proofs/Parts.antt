-- The frame of one edit.
use Rattle.std.proofs.Common.{◌≡◌, ℕ, Bool, false, List, [], ◌∷◌, ◌++◌, sym, ap, ◌∙◌, append_assoc}
use Rattle.byteorder.specs.Endian.{big_bytes}
use Rattle.mon_table.specs.declared.edit.Edit.{Edit}
use Rattle.mon_table.specs.Edits.{edited}
use Rattle.of_frame.specs.Kinds.{FLOW_MOD}
use Rattle.of_frame.specs.Header.{made}
use Rattle.of_match.specs.Layout.{spelled}
use Rattle.of_msgs.specs.declared.command.Command.{Command}
use Rattle.of_msgs.specs.declared.flow_mod.FlowMod.{FlowMod}
use Rattle.of_msgs.specs.Absent.{NO_PORT}
use Rattle.of_msgs.specs.FlowMods.{command_number, flow_mod_of}
use Rattle.mon_edits.specs.Frames.{command_for, buffer_for, raw_for, flags_for, message_for, part_for, frame_for, parts, IsPart, IsFlagged}

-- the frame of these fields
unfoldable laid : ℕ → List ℕ → ℕ → Command → ℕ → ℕ → ℕ → ℕ → ℕ → ℕ → List ℕ → List ℕ
laid xid match cookie command idle hard priority buffer port flags raw =
    made FLOW_MOD xid (match
    ++ (big_bytes 8 cookie ++ big_bytes 2 (command_number command) ++ big_bytes 2 idle ++ big_bytes 2 hard
    ++ big_bytes 2 priority ++ big_bytes 4 buffer ++ big_bytes 2 port ++ big_bytes 2 flags)
    ++ raw)

same : (x y : ℕ) (s t : List ℕ) (c d : ℕ) (a b : Command) (i j h k p q n o u v f g : ℕ) (r w : List ℕ)
    → x ≡ y → s ≡ t → c ≡ d → a ≡ b → i ≡ j → h ≡ k → p ≡ q → n ≡ o → u ≡ v → f ≡ g → r ≡ w
    → laid x s c a i h p n u f r ≡ laid y t d b j k q o v g w
same x y s t c d a b i j h k p q n o u v f g r w e1 e2 e3 e4 e5 e6 e7 e8 e9 e10 e11 = cc

pub part-frame : (m part : FlowMod) (e : Edit) (first : Bool) → IsPart m e first part → flow_mod_of part ≡ part_for m e first
unfolding laid
part-frame m part e first p =
    same part.xid m.xid part.spelled (spelled (edited e).matching) part.cookie m.cookie part.command (command_for e) part.idle m.idle part.hard m.hard
    part.priority (edited e).priority part.buffer (buffer_for m first) part.out_port NO_PORT part.flags (flags_for m e) part.raw (raw_for m e)
    p.xid p.spelled p.cookie p.command p.idle p.hard p.priority p.buffer p.out_port p.flags p.raw

pub flagged-frame : (m part : FlowMod) (e : Edit) → IsFlagged m (flags_for m e) part → flow_mod_of part ≡ flow_mod_of (message_for m e)
unfolding laid
flagged-frame m part e p =
    same part.xid m.xid part.spelled m.spelled part.cookie m.cookie part.command m.command part.idle m.idle part.hard m.hard
    part.priority m.priority part.buffer m.buffer part.out_port m.out_port part.flags (flags_for m e) part.raw m.raw
    p.xid p.spelled p.cookie p.command p.idle p.hard p.priority p.buffer p.out_port p.flags p.raw

-- one frame more
pub part-more : (m : FlowMod) (first : Bool) (edits rest : List Edit) (edit : Edit) (frame : List ℕ) (frames more all : List (List ℕ))
    → edits ≡ edit ∷ rest → frame ≡ frame_for m edit first → more ≡ frames ++ frame ∷ [] → frames ++ parts m first edits ≡ all
    → more ++ parts m false rest ≡ all
part-more m first edits rest edit frame frames more all split is pushed so_far =
    ap (λ (xs : List (List ℕ)). xs ++ parts m false rest) pushed
    ∙ append_assoc frames (frame ∷ []) (parts m false rest)
    ∙ ap (λ (x : List ℕ). frames ++ x ∷ parts m false rest) is
    ∙ ap (λ (es : List Edit). frames ++ parts m first es) (sym split)
    ∙ so_far
