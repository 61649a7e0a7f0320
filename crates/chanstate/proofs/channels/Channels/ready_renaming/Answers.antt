use Rattle.std.proofs.Common.{◌≡◌, ◌≤◌, ◌+◌, ◌∙◌, suc, false, true, length, refl, ap, sym, arith}
use Rattle.chanstate.specs.Members.{renamed}
use Rattle.chanstate.specs.Takes.{given, is_taken, on_place}
use Rattle.chanstate.proofs.TakeLemmas.{front_on, front_on-none, front_on-more, front_on-all, len-given}
use Rattle.chanstate.proofs.channels.Channels.ready_renaming.Goals as goal

pub loop-at-init : goal.loop-at-init
loop-at-init c =
    let none = c.new-takes.ensures.items in
    record {
      len = refl;
      fresh = λ i past. ap (is_taken i) none;
      back = ap (λ ts. given false ts c.args.self.now) none;
      done = ap (λ ts. given true ts c.args.self.now) none ∙ sym (front_on-none (renamed c.args.mapping c.args.old.now c.args.new.now) c.args.self.now);
    }

pub loop-at-preserved : goal.loop-at-preserved
loop-at-preserved c =
    let at = c.loop-at in
    let change = renamed c.args.mapping c.args.old.now c.args.new.now in
    let takes = c.ready_renaming_at.new.takes.items in
    let left = c.ready_renaming_at.new.self in
    let back = c.ready_renaming_at.ensures.back ∙ at.invariant.back in
    let next : suc at.at ≡ at.at + 1 = omega arith in
    record {
      len = sym (len-given false takes left) ∙ ap length back;
      fresh = λ i past. c.ready_renaming_at.ensures.fresh i (omega (arith, past));
      back = back;
      done = c.in-Ok.ensures.done ∙ ap (on_place at.at change) at.invariant.done ∙ front_on-more at.at change c.args.self.now
          ∙ ap (λ n. front_on n change c.args.self.now) next;
    }

pub returns : goal.returns
returns c =
    let at = c.loop-at in
    let long = ap length c.as_slice-at-end.ensures in
    let past : length c.args.self.now ≤ at.at = omega (arith, long, c.loop-at-test.false) in
    (at.invariant.back, at.invariant.done ∙ front_on-all at.at (renamed c.args.mapping c.args.old.now c.args.new.now) c.args.self.now past)
