-- Piece by piece; a number has at most 20 digits.
use native.Mathlib.Omega.{arith}
use Rattle.decimals.proofs.NumberWriting.{at-most-20}
use Rattle.refusals.proofs.Refusing.{refusal-written}
use Rattle.refusals.proofs.line.refusal_line.Goals as goal

pub put_bytes-c-requires : goal.put_bytes-c-requires
put_bytes-c-requires c = record { end = omega (arith, at-most-20 c.number.result c.number.type_inv, c.put_bytes-a.ensures.count, c.write_number-b.ensures.count) }

pub write_number-d-requires : goal.write_number-d-requires
write_number-d-requires c = omega (arith, at-most-20 c.number.result c.number.type_inv, c.put_bytes-a.ensures.count, c.write_number-b.ensures.count, c.put_bytes-c.ensures.count)

pub put-requires : goal.put-requires
put-requires c = omega (arith, at-most-20 c.number.result c.number.type_inv, at-most-20 c.place.result c.place.type_inv, c.put_bytes-a.ensures.count, c.write_number-b.ensures.count, c.put_bytes-c.ensures.count, c.write_number-d.ensures.count)

pub returns : goal.returns
returns c = refusal-written c.args.r c.number.ensures c.place.ensures c.number.type_inv c.place.type_inv c.put_bytes-a.ensures c.write_number-b.ensures c.put_bytes-c.ensures c.write_number-d.ensures c.put.ensures
