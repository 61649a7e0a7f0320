use Rattle.std.proofs.Common.{◌∙◌, ◌-◌, ◌+◌, arith}
use Rattle.resolver.proofs.RecordLemmas.{found_at-more, found_at-cut, found_at-bad, found_at-end}
use Rattle.resolver.proofs.records.addresses_in.Goals as goal

pub returns-in_err-record : goal.returns-in_err-record
returns-in_err-record c =
    c.from_residual.ensures
    ∙ found_at-cut c.args.family (c.args.count - c.loop.counter) (c.args.count - (c.loop.counter + 1)) c.loop.found c.loop.rest.now _
    (omega arith) c.in_err-record.ensures c.loop.invariant

pub returns-in_err-found : goal.returns-in_err-found
returns-in_err-found c =
    c.from_residual-in_err-found.ensures
    ∙ found_at-bad c.args.family (c.args.count - c.loop.counter) (c.args.count - (c.loop.counter + 1)) c.loop.found c.loop.rest.now _ _
    (omega arith) c.in_ok-record.ensures c.in_err-found.ensures c.loop.invariant

pub loop-preserved : goal.loop-preserved
loop-preserved c =
    found_at-more c.args.family (c.args.count - c.loop.counter) (c.args.count - (c.loop.counter + 1)) c.loop.found c.in_ok-found.found
    c.loop.rest.now _ _ (omega arith) c.in_ok-record.ensures c.in_ok-found.ensures c.loop.invariant

pub returns : goal.returns
returns c =
    found_at-end c.args.family (c.args.count - c.loop.counter) c.loop.found c.loop.rest.now _ (omega arith) c.loop.invariant
