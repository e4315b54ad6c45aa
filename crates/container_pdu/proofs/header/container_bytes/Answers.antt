use Rattle.std.proofs.Common.{◌≤◌, ◌*◌, length, arith}
use Rattle.std.proofs.lemmas.List.Sums.{sum_by-le}
use Rattle.std.proofs.Math.Nat.{mul-le-mul}
use Rattle.container_pdu.specs.Bytes.{header_bytes}
use Rattle.container_pdu.specs.declared.header.Header.{Header}
use Rattle.container_pdu.specs.declared.header.Header.TheVariants.{NoHeader, Short, Long}
use Rattle.container_pdu.proofs.header.container_bytes.Goals as goal

header_bytes_le : (kind : Header) → header_bytes kind ≤ 8
header_bytes_le NoHeader = omega arith
header_bytes_le Short = omega arith
header_bytes_le Long = omega arith

pub total_of-requires : goal.total_of-requires
total_of-requires c =
    let most = sum_by-le (λ x. x) 64 c.args.lengths.now c.requires.short in
    omega arith

pub overflow_add-result : goal.overflow_add-result
overflow_add-result c =
    let most = sum_by-le (λ x. x) 64 c.args.lengths.now c.requires.short in
    let eight : c.bytes.result ≤ 8 = rw c.bytes.ensures (header_bytes_le _) in
    let heads : length c.args.ids.now * c.bytes.result ≤ 128 * 8 = mul-le-mul c.requires.few eight in
    omega (arith, most, heads)
