-- Wildcards of the rules that are made from numbers.
use Rattle.std.proofs.Common.{◌≡◌, ℕ, ◌+◌, ◌*◌, ◌^◌, ◌≤◌, Bool, true, false, not, cond, sym, ap, ◌∙◌, arith}
use Rattle.mon_header.specs.Wild.{packed, unpacked}
use Rattle.mon_header.proofs.Packing.{unpacked-packed}
use Rattle.mon_table_file.specs.Generator.{wild_of, is_for_udp, ignored_bits}

packed-is : (udp : Bool) (bits p n : ℕ) → p ≡ cond udp 0 0x20 → n ≡ 0x3020cf + p + bits * 2 ^ 14 → 15 + cond (not udp) 1 0 * 32 + 64 + 128 + 8192 + bits * 16384 + 1048576 + 2097152 ≡ n
packed-is true bits p n e f = omega arith
packed-is false bits p n e f = omega arith

pub wild-is : (k p n : ℕ) → p ≡ cond (is_for_udp k) 0 0x20 → n ≡ 0x3020cf + p + ignored_bits k * 2 ^ 14 → ignored_bits k ≤ 24 → unpacked n ≡ wild_of k
unfolding packed wild_of
wild-is k p n e f few =
    ap unpacked (sym (packed-is (is_for_udp k) (ignored_bits k) p n e f)) ∙ unpacked-packed (wild_of k) (let h : 32 ≤ 32 = omega arith in h) (let h : ignored_bits k ≤ 32 = omega arith in h)
