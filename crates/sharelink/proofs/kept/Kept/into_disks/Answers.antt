use Rattle.std.proofs.Common.{subst}
use Rattle.std.specs.Option.{option_map}
use Rattle.sharelink.specs.Kept.{Kept, AreOf}
use Rattle.sharelink.proofs.KeptLaws.{leaves-own, current-left}
use Rattle.sharelink.proofs.kept.Kept.into_disks.Goals as goal

pub returns : goal.returns
returns g c = record {
  left = λ x y left right.
      let inside = c.self.inside in
      subst (λ (k : Kept g.row.S.Denot g.row.S-Record.Denot). AreOf (g.S.EndState.meaning k.who) g.S.EndState.folded k.state k.doubt x y) c.self.view_is
      (leaves-own (g.S.EndState.meaning inside.who) g.S.EndState.folded inside.state inside.down (option_map (λ d. d.value) inside.doubt)
      inside.ledger.account x y c.self.invariant.2 (c.into_disks.ensures.left x y left right));
  current = λ x y left right.
      current-left c.self.inside.ledger.account x y c.self.invariant.3 (c.into_disks.ensures.left x y left right);
}
