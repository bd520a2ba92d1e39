-- What histories are computed with: a proof by values names one of these on its line.
use Rattle.of_frame.specs.Cut as Cutting
use Rattle.of_msgs.specs.ReadMods as Mods
use Rattle.of_match.specs.Layout as Matches
use Rattle.of_action.specs.Reading as ActionBytes
use Rattle.mon_header.specs.Wild as Wild
use Rattle.mon_header.specs.Matching as Matching
use Rattle.mon_header.specs.Order as Order
use Rattle.mon_header.specs.Same as Same
use Rattle.mon_header.specs.Classes as Classes
use Rattle.mon_table.specs.Rules as Rules
use Rattle.mon_table.specs.Tables as Tables
use Rattle.mon_table.specs.Edits as TableEdits
use Rattle.mon_table.specs.Winners as Winners
use Rattle.mon_outcome.specs.Emitting as Emitting
use Rattle.mon_packet.specs.Reading as Reading
use Rattle.mon_packet.specs.Frames as Frames
use Rattle.mon_shows.specs.Separation as Separation
use Rattle.mon_shows.specs.Views as Views
use Rattle.mon_legal.specs.Ordering.{next}
use Rattle.mon_legal.specs.Directly.{on_switch}

-- what comes next
unfoldable pub computed : Type 1
unfolding next on_switch Reading.plain_header Matching.each_field Cutting.header_fault Mods.flow_mod_in Matches.match_of Matches.fields_of Matches.spelled Wild.unpacked Wild.is_exact Wild.packed Matching.normal Rules.same_match Rules.same_wild Rules.same_identity Rules.comes_before Same.same_header Tables.ties TableEdits.after Reading.nonce_of Reading.ethernet_of Reading.is_ipv4 Reading.transport_of Reading.ipv4_fields ActionBytes.is_faulty ActionBytes.known_action Matching.overlaps Matching.overlaps_field Matching.overlaps_address Matching.covers Matching.covers_field Matching.covers_address Order.key
computed = Type 0

-- and what separates
unfoldable pub compared : Type 1
unfolding computed Separation.separates Winners.is_highest Views.craftable Views.is_open Emitting.must Emitting.may Frames.payload Frames.ethernet_header Frames.ipv4_header Frames.transport_header Frames.network_headers Frames.body Frames.rendered Classes.in_class Classes.is_in_class Classes.fits Classes.has_tag_fields Classes.has_no_network_fields Classes.is_plain_type Classes.has_form Matching.matches Matching.takes
compared = Type 0
