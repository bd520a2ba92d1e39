-- The values that actions fix fit their fields.
use Rattle.std.proofs.Common.{ℕ, ◌%◌, ◌/◌, ◌*◌, ◌^◌, ◌<◌, Bool, true, false, cond, List, [], ◌∷◌, Option, Some, None, arith, lit<}
use Rattle.std.specs.List.{AllByRecursion}
use Rattle.mon_header.specs.declared.class.Class.{Class}
use Rattle.mon_header.specs.declared.action.Action.{Action}
use Rattle.mon_header.specs.declared.action.Action.TheVariants.{Output, SetVlanVid, SetVlanPcp, StripVlan, SetDlSrc, SetDlDst, SetNwSrc, SetNwDst, SetNwTos, SetTpSrc, SetTpDst, Enqueue, Unknown}
use Rattle.mon_header.specs.Actions.{FitsAction, AllFit}
use Rattle.mon_outcome.specs.declared.door.Door.{Door}
use Rattle.mon_outcome.specs.declared.rewrite.Rewrite.{Rewrite}
use Rattle.mon_outcome.specs.declared.shape.Shape.{Shape}
use Rattle.mon_outcome.specs.Emitting.{door_of}
use Rattle.mon_outcome.specs.Filling.{laid}
use Rattle.mon_outcome.specs.Shaping.{copied, is_stripped, is_ipv4_class, has_class_ports, rewritten, with_shape, shapes_from, shapes_of}
use Rattle.mon_literals.specs.Differing.{FitsField, FitsFields}
use Rattle.mon_outcome.proofs.Classes.{masked-small}

-- a field that is fixed or kept by a test
chosen : (count : ℕ) (b : Bool) (x y : Option ℕ) → FitsField (count, x) → FitsField (count, y) → FitsField (count, cond b x y)
chosen count true x y f g = f
chosen count false x y f g = g

vid : (n : ℕ) → n % 4096 < 2 ^ 16
vid n = omega arith

pcp : (n : ℕ) → n % 8 < 2 ^ 8
pcp n = omega arith

pub rewritten-fits : (c : Class) (action : Action) (r : Rewrite) → FitsAction action → FitsFields r → FitsFields (rewritten c action r)
unfolding laid
rewritten-fits c (Output port max_len) r a f = f
rewritten-fits c (SetVlanVid n) r a (f0, (f1, (f2, (f3, (f4, f))))) = (f0, (f1, (f2, (vid n, (chosen 8 (is_stripped r.dl_vlan) (Some 0) r.dl_vlan_pcp (lit< tt) f4, f)))))
rewritten-fits c (SetVlanPcp n) r a (f0, (f1, (f2, (f3, (f4, f))))) = (f0, (f1, (f2, (chosen 16 (is_stripped r.dl_vlan) (Some 0) r.dl_vlan (lit< tt) f3, (pcp n, f)))))
rewritten-fits c StripVlan r a (f0, (f1, (f2, (f3, (f4, f))))) = (f0, (f1, (f2, (lit< tt, (lit< tt, f)))))
rewritten-fits c (SetDlSrc address) r a (f0, (f1, f)) = (f0, (a, f))
rewritten-fits c (SetDlDst address) r a (f0, (f1, (f2, f))) = (f0, (f1, (a, f)))
rewritten-fits c (SetNwSrc address) r a (f0, (f1, (f2, (f3, (f4, (f5, (f6, (f7, (f8, f))))))))) =
    (f0, (f1, (f2, (f3, (f4, (f5, (f6, (f7, (chosen 32 (is_ipv4_class c) (Some address) r.nw_src a f8, f)))))))))
rewritten-fits c (SetNwDst address) r a (f0, (f1, (f2, (f3, (f4, (f5, (f6, (f7, (f8, (f9, f)))))))))) =
    (f0, (f1, (f2, (f3, (f4, (f5, (f6, (f7, (f8, (chosen 32 (is_ipv4_class c) (Some address) r.nw_dst a f9, f))))))))))
rewritten-fits c (SetNwTos tos) r a (f0, (f1, (f2, (f3, (f4, (f5, (f6, f))))))) =
    (f0, (f1, (f2, (f3, (f4, (f5, (chosen 8 (is_ipv4_class c) (Some (tos / 4 * 4)) r.nw_tos (masked-small tos a) f6, f)))))))
rewritten-fits c (SetTpSrc port) r a (f0, (f1, (f2, (f3, (f4, (f5, (f6, (f7, (f8, (f9, (f10, f))))))))))) =
    (f0, (f1, (f2, (f3, (f4, (f5, (f6, (f7, (f8, (f9, (chosen 16 (has_class_ports c) (Some port) r.tp_src a f10, f)))))))))))
rewritten-fits c (SetTpDst port) r a (f0, (f1, (f2, (f3, (f4, (f5, (f6, (f7, (f8, (f9, (f10, (f11, f)))))))))))) =
    (f0, (f1, (f2, (f3, (f4, (f5, (f6, (f7, (f8, (f9, (f10, (chosen 16 (has_class_ports c) (Some port) r.tp_dst a f11, f))))))))))))
rewritten-fits c (Enqueue port queue) r a f = f
rewritten-fits c (Unknown bytes) r a f = f

-- the values that shapes fix fit
abbrev pub AllFitFields : List Shape → Type 0
AllFitFields shapes = AllByRecursion (λ s. FitsFields s.bits) shapes

with-fits : (door : Option Door) (r : Rewrite) (rest : List Shape) → FitsFields r → AllFitFields rest → AllFitFields (with_shape door r rest)
with-fits None r rest f g = g
with-fits (Some d) r rest f g = (f, g)

from-fit : (c : Class) (in_port : ℕ) (actions : List Action) (r : Rewrite) → AllFit actions → FitsFields r → AllFitFields (shapes_from c in_port actions r)
from-fit c in_port [] r a f = tt
from-fit c in_port (action ∷ actions) r a f =
    with-fits (door_of action in_port) r (shapes_from c in_port actions (rewritten c action r)) f
    (from-fit c in_port actions (rewritten c action r) a.1 (rewritten-fits c action r a.0 f))

copied-fits : FitsFields copied
unfolding laid
copied-fits = (tt, (tt, (tt, (tt, (tt, (tt, (tt, (tt, (tt, (tt, (tt, (tt, tt))))))))))))

pub shapes-fit : (c : Class) (in_port : ℕ) (actions : List Action) → AllFit actions → AllFitFields (shapes_of actions c in_port)
shapes-fit c in_port actions a = from-fit c in_port actions copied a copied-fits
