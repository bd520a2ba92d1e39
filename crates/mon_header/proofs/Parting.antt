-- What a class says of a header, part by part.
use Rattle.std.proofs.Common.{◌≡◌, ◌%◌, true}
use Rattle.std.specs.Prelude.{◌==◌}
use Rattle.mon_header.specs.declared.class.Class.{Class}
use Rattle.mon_header.specs.declared.header.Header.{Header}
use Rattle.mon_header.specs.Matching.{InRange}
use Rattle.mon_header.specs.Classes.{fits, has_tag_fields, has_form, is_in_class}
use Rattle.mon_header.proofs.Twelve.{first, second}
use Rattle.mon_header.proofs.Classing.{class-range}

pub record IsOf (c : Class) (h : Header) : Type 0 where
  pub range : InRange h
  pub tag : has_tag_fields h ≡ true
  pub tos : (h.nw_tos % 4 == 0) ≡ true
  pub form : has_form c h ≡ true

pub parts : (c : Class) (h : Header) → is_in_class c h ≡ true → IsOf c h
unfolding is_in_class
parts c h e =
    let rest = second (fits h) _ e in
    let last = second (has_tag_fields h) _ rest in
    record {
      range = class-range c h e;
      tag = first (has_tag_fields h) _ rest;
      tos = first (h.nw_tos % 4 == 0) _ last;
      form = second (h.nw_tos % 4 == 0) _ last;
    }
