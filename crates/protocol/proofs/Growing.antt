-- History that grows, and grows on, has grown.
use Rattle.std.proofs.Common.{arith}
use Rattle.protocol.specs.History.{PastHub, PastLeaf, History, HubGrows, LeafGrows, Grows}
use Rattle.protocol.proofs.Lists.{Extends-refl, Extends-trans, AllExtend-refl}

pub HubGrows-refl : (h : PastHub) → HubGrows h h
HubGrows-refl h = record { accepted = Extends-refl h.accepted; answers = AllExtend-refl h.answers; floor = omega arith }

pub LeafGrows-refl : (l : PastLeaf) → LeafGrows l l
LeafGrows-refl l = record { version = omega arith; asked = Extends-refl l.asked }

pub Grows-refl : (s : History) → Grows s s
Grows-refl s = record { hub = HubGrows-refl s.hub.kept; leaves = λ i. LeafGrows-refl (s.leaves i).kept; packets = Extends-refl s.packets }

pub Grows-trans : (a b c : History) → Grows a b → Grows b c → Grows a c
Grows-trans a b c x y = record {
  hub = record {
    accepted = Extends-trans _ _ _ x.hub.accepted y.hub.accepted;
    answers = λ i. Extends-trans _ _ _ (x.hub.answers i) (y.hub.answers i);
    floor = omega (arith, x.hub.floor, y.hub.floor);
  };
  leaves = λ i. record {
    version = omega (arith, (x.leaves i).version, (y.leaves i).version);
    asked = Extends-trans _ _ _ (x.leaves i).asked (y.leaves i).asked;
  };
  packets = Extends-trans _ _ _ x.packets y.packets;
}
