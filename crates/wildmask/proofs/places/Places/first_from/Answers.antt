use Rattle.std.proofs.Common.{◌<◌, ◌+◌, ◌/◌, ◌^◌, arith, rules}
use Rattle.std.specs.Int.{trailing_zeros, w128}
use Rattle.wildmask.proofs.BitLemmas.{bit_at-none, bit_at-first, bit_at-first-below, IsFirst}
use Rattle.wildmask.proofs.places.Places.first_from.Goals as goal

pub returns-then-rest-eq0 : goal.returns-then-rest-eq0
returns-then-rest-eq0 c = bit_at-none c.args.self.bits c.args.from c.if-rest-eq0.true

pub returns : goal.returns
returns c =
    let some : 0 < c.args.self.bits / 2 ^ c.args.from = omega (arith, c.if-rest-eq0.false) in
    let first : IsFirst c.args.self.bits c.args.from (c.args.from + trailing_zeros w128 (c.args.self.bits / 2 ^ c.args.from)) =
    bit_at-first c.args.self.bits c.args.from (search rules) some in
    (first.0, bit_at-first-below c.args.self.bits c.args.from (search rules) some, first.1, first.2)
