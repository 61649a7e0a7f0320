use Rattle.std.proofs.Common.{◌<◌, length, sym, ◌∙◌, arith}
use Rattle.wildmask.proofs.RunLemmas.{AllOne-more, items_in-split}
use Rattle.wildmask.proofs.runs.split_run.Goals as goal

pub loop-len-preserved : goal.loop-len-preserved
loop-len-preserved c =
    let inside : c.loop-len.len < length c.args.codes.now = c.loop-len-test.true in
    record {
      within = omega arith;
      one = AllOne-more c.args.codes.now c.loop-len.len inside c.loop-len.invariant.one
          (sym c.takes_one.ensures ∙ c.if-takes_one.true);
    }

pub returns-clause-whole : goal.returns-clause-whole
returns-clause-whole c = rw (c.split_at.ensures.front, c.split_at.ensures.back) (items_in-split c.args.codes.now c.loop-len.len)

pub returns-clause-one : goal.returns-clause-one
returns-clause-one c = rw c.split_at.ensures.front c.loop-len.invariant.one
