use Rattle.std.proofs.Common.{sym, arith, length-take-le, take_all}
use Rattle.handshake.proofs.words.front_of.Goals as goal

pub slice_bounds-result-end : goal.slice_bounds-result-end
slice_bounds-result-end c = sym (length-take-le 200 c.args.heard.now (omega arith))

pub returns-then-heard-gt-MAX_LINE-clause-short : goal.returns-then-heard-gt-MAX_LINE-clause-short
returns-then-heard-gt-MAX_LINE-clause-short c = omega (arith, length-take-le 200 c.args.heard.now (omega arith))

pub returns-then-heard-gt-MAX_LINE-clause-within : goal.returns-then-heard-gt-MAX_LINE-clause-within
returns-then-heard-gt-MAX_LINE-clause-within c = omega (arith, length-take-le 200 c.args.heard.now (omega arith))

pub returns-else-heard-gt-MAX_LINE-clause-front : goal.returns-else-heard-gt-MAX_LINE-clause-front
returns-else-heard-gt-MAX_LINE-clause-front c = sym (take_all 200 c.args.heard.now (omega arith))
