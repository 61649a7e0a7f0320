use Rattle.std.proofs.Common.{◌≡◌, ◌<◌, ◌∙◌, ◌++◌, true, false, length, sym, append-nil, arith}
use Rattle.std.specs.List.{flat_map}
use Rattle.std.proofs.lemmas.List.{at_drop_all}
use Rattle.chanstate.specs.Items.{singles}
use Rattle.botcore.specs.Automatic.{set_again}
use Rattle.botcore.proofs.StickyLemmas.{lines_more, lines_none}
use Rattle.botcore.proofs.sticky.Modes.bring_back.Goals as goal

pub loop-byte-preserved : goal.loop-byte-preserved
loop-byte-preserved c =
    let at = c.loop-byte in
    let self = c.args.self.now in
    let place = c.args.place in
    let less : at.byte-index < length self.letters.now = omega arith in
    let more = lines_more self.support.now (set_again place.mapping place.userfile.now.bans place.second place.channel.now) at.on self.letters.now
    at.byte-index 0 at.rest.now at.wishes.items _ less c.in_ok-push_back.ensures.more in
    rw (c.next_sign-on.ensures, c.next_arguments-rest.ensures) (more ∙ at.invariant)

pub returns-clause-lines : goal.returns-clause-lines
returns-clause-lines c =
    let at = c.loop-byte in
    let self = c.args.self.now in
    let place = c.args.place in
    sym (append-nil at.wishes.items)
    ∙ sym (at_drop_all (λ bs. at.wishes.items ++ flat_map (set_again place.mapping place.userfile.now.bans place.second place.channel.now)
    (singles self.support.now at.on bs at.rest.now)) self.letters.now at.byte-index (omega arith))
    ∙ at.invariant

pub returns-in_err-push_back-clause-needs_none : goal.returns-in_err-push_back-clause-needs_none
returns-in_err-push_back-clause-needs_none c =
    let at = c.loop-byte in
    let self = c.args.self.now in
    let place = c.args.place in
    let less : at.byte-index < length self.letters.now = omega arith in
    λ none.
    let is_ok : false ≡ true = c.in_err-push_back.ensures.needs_none
    (lines_none self.support.now (set_again place.mapping place.userfile.now.bans place.second place.channel.now) at.on self.letters.now
    at.byte-index 0 at.rest.now at.wishes.items _ less at.invariant none) in
    cc
