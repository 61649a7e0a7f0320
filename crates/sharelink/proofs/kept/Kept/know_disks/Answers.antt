use Rattle.std.specs.Option.{option_map}
use Rattle.sharelink.proofs.KeptLaws.{leaves-own, up-certain, current-left}
use Rattle.sharelink.proofs.kept.Kept.know_disks.Goals as goal

pub returns : goal.returns
returns g c =
    let inside = c.self.inside in
    rw (← c.self.view_is)
    (record {
      left = λ x y left right. leaves-own (g.S.EndState.meaning inside.who) g.S.EndState.folded inside.state inside.down
          (option_map (λ d. d.value) inside.doubt) inside.ledger.account x y c.self.invariant.2 (c.know_disks.ensures.left x y left right);
      current = λ x y left right.
          current-left inside.ledger.account x y c.self.invariant.3 (c.know_disks.ensures.left x y left right);
      certain = up-certain (g.S.EndState.meaning inside.who) g.S.EndState.folded inside.state inside.down
          (option_map (λ d. d.value) inside.doubt) inside.ledger.account c.self.invariant.2;
    })
