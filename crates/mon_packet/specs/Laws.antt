-- What joins the frames that are rendered, the headers that are read, and the checksums of both.
use Rattle.std.specs.Prelude.{◌≡◌, ◌≢◌, ℕ, ◌<◌, ◌^◌, ◌-◌, true, List, ◌∷◌, ◌++◌, drop, take, slice_index, Some}
use Rattle.byteorder.specs.Endian.{big_bytes}
use Rattle.mon_header.specs.declared.header.Header.{Header}
use Rattle.mon_header.specs.Assigned.{IPV4_TYPE, ICMP_PROTOCOL, TCP_PROTOCOL, UDP_PROTOCOL}
use Rattle.mon_header.specs.Classes.{in_class}
use Rattle.mon_packet.specs.declared.nonce.Nonce.{Nonce}
use Rattle.mon_packet.specs.Sums.{ALL_ONES, sum_of}
use Rattle.mon_packet.specs.Frames.{ethernet_size, rendered}
use Rattle.mon_fields.specs.Fields.{number_at}
use Rattle.mon_packet.specs.Reading.{total_of, parsed}

-- a frame shows the header of which it was rendered but for the port, and the nonce
abbrev pub ReadsBack : Header → Nonce → Type 0
ReadsBack h n =
    in_class h ≡ true → n.key < 2 ^ 64 → n.serial < 2 ^ 64 → parsed (rendered h n) ≡ Some (record h { in_port = 0 }, Some n)

-- what a packet of IPv4 carries, up to its total length
abbrev pub segment_of : List ℕ → List ℕ
segment_of packet = drop 20 (take (total_of packet) packet)

-- what a receiver of TCP or UDP puts before the segment: the packet's addresses and protocol, and the segment's length
abbrev pub pseudo_of : List ℕ → List ℕ
pseudo_of packet = drop 12 (take 20 packet) ++ (0 ∷ slice_index packet 9 ∷ big_bytes 2 (total_of packet - 20))

-- a receiver's sums over a packet of IPv4: with the right checksum all bits of a sum are set; a datagram has a checksum
pub record HasRightSums (packet : List ℕ) : Type 0 where
  pub header : sum_of (take 20 packet) ≡ ALL_ONES
  pub tcp : slice_index packet 9 ≡ TCP_PROTOCOL → sum_of (pseudo_of packet ++ segment_of packet) ≡ ALL_ONES
  pub udp : slice_index packet 9 ≡ UDP_PROTOCOL → sum_of (pseudo_of packet ++ segment_of packet) ≡ ALL_ONES
  pub udp_has_one : slice_index packet 9 ≡ UDP_PROTOCOL → number_at 2 26 packet ≢ 0
  pub icmp : slice_index packet 9 ≡ ICMP_PROTOCOL → sum_of (segment_of packet) ≡ ALL_ONES

-- the packet of IPv4 in a rendered frame
abbrev pub packet_in : Header → Nonce → List ℕ
packet_in h n = drop (ethernet_size h) (rendered h n)

-- a frame of IPv4 has right checksums
abbrev pub IsChecked : Header → Nonce → Type 0
IsChecked h n = in_class h ≡ true → h.dl_type ≡ IPV4_TYPE → HasRightSums (packet_in h n)
