-- Numbers that the standards give to what stands in a header.
use Rattle.std.specs.Prelude.{ℕ}

-- a frame's type is a length below this number (IEEE 802.3)
abbrev pub LEAST_TYPE : ℕ
LEAST_TYPE = 0x0600

-- Ethernet types: IPv4 and ARP (RFC 894, RFC 826), a VLAN's and a service's tag (IEEE 802.1Q), pause frames and slow
-- protocols (IEEE 802.3)
abbrev pub IPV4_TYPE : ℕ
IPV4_TYPE = 0x0800

abbrev pub ARP_TYPE : ℕ
ARP_TYPE = 0x0806

abbrev pub TAG_TYPE : ℕ
TAG_TYPE = 0x8100

abbrev pub SERVICE_TAG_TYPE : ℕ
SERVICE_TAG_TYPE = 0x88a8

abbrev pub PAUSE_TYPE : ℕ
PAUSE_TYPE = 0x8808

abbrev pub SLOW_TYPE : ℕ
SLOW_TYPE = 0x8809

-- protocols over IPv4 (RFC 790)
abbrev pub ICMP_PROTOCOL : ℕ
ICMP_PROTOCOL = 1

abbrev pub TCP_PROTOCOL : ℕ
TCP_PROTOCOL = 6

abbrev pub UDP_PROTOCOL : ℕ
UDP_PROTOCOL = 17

-- how many VLAN ids 12 bits tell apart (IEEE 802.1Q), and what stands for the id of a frame without a tag (OpenFlow
-- 1.0.0, flow match structures)
abbrev pub VLAN_IDS : ℕ
VLAN_IDS = 4096

abbrev pub UNTAGGED : ℕ
UNTAGGED = 0xffff

-- ports (OpenFlow 1.0.0, port structures): the greatest of a switch's own, the one that a packet came in by, and the
-- controller
abbrev pub LAST_PORT : ℕ
LAST_PORT = 0xff00

abbrev pub IN_PORT : ℕ
IN_PORT = 0xfff8

abbrev pub CONTROLLER_PORT : ℕ
CONTROLLER_PORT = 0xfffd

-- how many priorities 16 bits tell apart, which is the rank of an entry without wildcards
abbrev pub PRIORITIES : ℕ
PRIORITIES = 65536
