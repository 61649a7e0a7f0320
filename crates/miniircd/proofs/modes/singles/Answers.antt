use Rattle.std.proofs.Common.{◌<◌, ◌++◌, ◌∙◌, length, sym, ap, arith}
use Rattle.std.proofs.lemmas.List.{append-nil, at_drop_all}
use Rattle.miniircd.specs.Modes.{singles}
use Rattle.miniircd.proofs.ModeLemmas.{singles-none, singles_step}
use Rattle.miniircd.proofs.modes.singles.Goals as goal

pub loop-byte-preserved : goal.loop-byte-preserved
loop-byte-preserved c =
    let at = c.loop-byte in
    let less : at.byte-index < length c.args.modes.now = omega arith in
    rw (c.in_ok-push_single.ensures, c.sign_after-on.ensures, c.arguments_after-rest.ensures)
    (singles_step at.all.items at.on c.args.modes.now at.byte-index 0 at.rest.now less ∙ at.invariant)

pub returns : goal.returns
returns c =
    let at = c.loop-byte in
    sym (append-nil at.all.items) ∙ ap (λ more. at.all.items ++ more) (sym (singles-none at.on at.rest.now))
    ∙ sym (at_drop_all (λ bytes. at.all.items ++ singles at.on bytes at.rest.now) c.args.modes.now at.byte-index (omega arith))
    ∙ at.invariant
