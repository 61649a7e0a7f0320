use Rattle.std.proofs.Common.{◌<◌, ◌∙◌, ◌++◌, length, map, sym, append-nil, arith}
use Rattle.std.proofs.lemmas.List.{at_drop_all}
use Rattle.chanstate.specs.Items.{singles}
use Rattle.chanstate.specs.Operations.{mode_on}
use Rattle.chanstate.proofs.ToldLemmas.{modes_more}
use Rattle.chanstate.proofs.operations.each_mode.Goals as goal

pub loop-byte-preserved : goal.loop-byte-preserved
loop-byte-preserved c =
    let at = c.loop-byte in
    let less : at.byte-index < length c.args.letters.now = omega arith in
    let one = mode_on c.args.by.nick.now c.args.by.address.now c.args.channel.now in
    let more = modes_more c.args.support.now one at.on c.args.letters.now at.byte-index 0 at.rest.now at.events.items _ less c.in_ok-push_mode.ensures in
    rw (c.next_sign-on.ensures, c.next_arguments-rest.ensures) (more ∙ at.invariant)

pub returns : goal.returns
returns c =
    let at = c.loop-byte in
    let one = mode_on c.args.by.nick.now c.args.by.address.now c.args.channel.now in
    sym (append-nil at.events.items)
    ∙ sym (at_drop_all (λ bs. at.events.items ++ map one (singles c.args.support.now at.on bs at.rest.now)) c.args.letters.now at.byte-index (omega arith))
    ∙ at.invariant
