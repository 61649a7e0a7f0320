use Rattle.std.proofs.Common.{◌≡◌, ◌∙◌, ◌-◌, length, sym, ap, drop, take, true}
use Rattle.std.specs.List.{flat_map}
use Rattle.std.proofs.lemmas.List.{take_rest}
use Rattle.rfccase.specs.declared.casemappings.Casemapping.{Casemapping}
use Rattle.ircline.specs.View.{seen}
use Rattle.chanstate.specs.Items.{mode_items, singles}
use Rattle.chanstate.specs.Steps.{steps}
use Rattle.chanstate.specs.Views.{mapping_of}
use Rattle.botcore.specs.Automatic.{mode_wishes, set_again}
use Rattle.botcore.proofs.StickyLemmas.{own_wishes, no_op_wishes, op_wishes, same_lines, same_op}
use Rattle.botcore.proofs.sticky.on_mode.Goals as goal

pub returns-then-is_own-clause-lines : goal.returns-then-is_own-clause-lines
returns-then-is_own-clause-lines c =
    c.new-then-is_own.ensures.items ∙ sym (own_wishes c.args.userfile.now.bans c.args.second (seen c.args.from) c.args.state.now
    c.name-item.result c.letters-item.result c.args.params.now c.in-len2-up.len_at_least c.name-item.is c.letters-item.is
    (sym c.is_own.ensures ∙ c.if-is_own.true))

pub returns-then-not-leave_op-clause-lines : goal.returns-then-not-leave_op-clause-lines
returns-then-not-leave_op-clause-lines c =
    let same = same_op c.args.state.now c.support.result.now _ _ _ _ _ _ c.support.ensures c.as_bytes.ensures
    (take_rest c.args.params.now 2) c.as_bytes-2.ensures in
    c.new-then-not-leave_op.ensures.items ∙ sym (no_op_wishes c.args.userfile.now.bans c.args.second (seen c.args.from) c.args.state.now
    c.name-item.result c.letters-item.result c.args.params.now c.in-len2-up.len_at_least c.name-item.is c.letters-item.is
    (sym c.is_own.ensures ∙ c.if-is_own.false) (sym same ∙ sym c.leave_op.ensures ∙ c.if-not-leave_op.true))

-- the lines of the MODE, as they are made
lines : (c : goal.After-bring_back)
    → mode_wishes c.args.userfile.now.bans c.args.second (seen c.args.from) c.args.params.now (steps (mode_items c.args.params.now) c.args.state.now)
    ≡ flat_map (set_again (mapping_of c.args.state.now) c.args.userfile.now.bans c.args.second c.in-Some.channel.now)
    (singles c.args.state.now.support true c.letters-item.result (drop 2 c.args.params.now))
lines c =
    let same = same_op c.args.state.now c.support.result.now _ _ _ _ _ _ c.support.ensures c.as_bytes.ensures
    (take_rest c.args.params.now 2) c.as_bytes-2.ensures in
    op_wishes c.args.userfile.now.bans c.args.second (seen c.args.from) c.args.state.now c.name-item.result c.letters-item.result
    c.args.params.now c.in-Some.channel.now c.in-len2-up.len_at_least c.name-item.is c.letters-item.is
    (sym c.is_own.ensures ∙ c.if-is_own.false) (sym same ∙ sym c.leave_op.ensures ∙ c.if-not-leave_op.false)
    (rw c.as_bytes-3.ensures at c.in-Some.ensures)

-- and the modes, as they are read
read : (c : goal.After-bring_back)
    → flat_map (set_again (mapping_of c.args.state.now) c.args.userfile.now.bans c.args.second c.in-Some.channel.now)
    (singles c.args.state.now.support true c.letters-item.result (drop 2 c.args.params.now))
    ≡ flat_map (set_again c.casemapping.result c.args.userfile.now.bans c.args.second c.in-Some.channel.now)
    (singles c.support.result.now true c.as_bytes.result.now (take (length c.args.params.now - 2) (drop 2 c.args.params.now)))
read c =
    ap (λ (mapping : Casemapping). flat_map (set_again mapping c.args.userfile.now.bans c.args.second c.in-Some.channel.now)
    (singles c.args.state.now.support true c.letters-item.result (drop 2 c.args.params.now))) (sym c.casemapping.ensures)
    ∙ sym (same_lines _ c.support.result.now _ _ _ _ _ c.support.ensures c.as_bytes.ensures (take_rest c.args.params.now 2))

pub returns-clause-lines : goal.returns-clause-lines
returns-clause-lines c = rw (lines c) (rw (read c) c.bring_back.ensures.lines)

pub returns-clause-needs_none : goal.returns-clause-needs_none
returns-clause-needs_none c = λ none. c.bring_back.ensures.needs_none (sym (lines c ∙ read c) ∙ none)
