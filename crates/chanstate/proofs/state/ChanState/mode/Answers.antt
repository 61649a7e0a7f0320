use Rattle.std.proofs.Common.{◌≡◌, ◌<◌, ◌∙◌, get_or, length, sym, ap, subst, arith}
use Rattle.std.specs.Option.{option_to_list}
use Rattle.std.proofs.lemmas.List.{at_drop_all}
use Rattle.chanstate.specs.declared.support.Support.{Support}
use Rattle.chanstate.specs.Items.{arguments_after, markings, single_at, singles}
use Rattle.chanstate.specs.Steps.{each_step}
use Rattle.chanstate.proofs.StepLemmas.{markings_more}
use Rattle.chanstate.proofs.state.ChanState.mode.Goals as goal

pub loop-byte-preserved : goal.loop-byte-preserved
loop-byte-preserved c =
    let at = c.loop-byte in
    let sup : Support = c.args.self.now.support in
    let less : at.byte-index < length c.args.string.now = omega arith in
    let marked = subst (λ (s : Support). c.mark.new.self
    ≡ each_step (markings s c.args.channel.now (option_to_list (single_at s at.on (get_or c.args.string.now at.byte-index 0) at.rest.now))) at.self)
    at.invariant.support c.mark.ensures.marked in
    let more = markings_more sup c.args.channel.now at.on c.args.string.now at.byte-index 0 at.rest.now at.self c.mark.new.self less marked in
    let kept = c.mark.ensures.support ∙ at.invariant.support in
    let rest = c.next_arguments-rest.ensures
    ∙ ap (λ (s : Support). arguments_after s at.on (get_or c.args.string.now at.byte-index 0) at.rest.now) kept in
    record { support = kept; marks = rw (c.next_sign-on.ensures, rest) (more ∙ at.invariant.marks) }

pub returns : goal.returns
returns c =
    let at = c.loop-byte in
    let sup : Support = c.args.self.now.support in
    sym (at_drop_all (λ bs. each_step (markings sup c.args.channel.now (singles sup at.on bs at.rest.now)) at.self) c.args.string.now at.byte-index (omega arith))
    ∙ at.invariant.marks
