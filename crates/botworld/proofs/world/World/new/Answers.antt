use Rattle.std.proofs.Common.{List, ap, refl, subst, sym, ◌∙◌, true≢false}
use Rattle.botcore.specs.Bots.{Bot}
use Rattle.botworld.specs.declared.sent.Sent.{Sent}
use Rattle.botworld.specs.Net.{Net}
use Rattle.botworld.specs.Network.{AreNumbered}
use Rattle.botworld.proofs.world.World.new.Goals as goal

pub returns-clause-numbered : goal.returns-clause-numbered
returns-clause-numbered g c =
    subst (λ (bots : List Bot). AreNumbered bots) c.as_slice.ensures.value (c.are_numbered.ensures.0 c.if-not-are_numbered.false)

pub returns-then-not-are_numbered-clause-bad_world : goal.returns-then-not-are_numbered-clause-bad_world
returns-then-not-are_numbered-clause-bad_world g c = λ numbered.
    let found = c.are_numbered.ensures.1 (subst (λ (bots : List Bot). AreNumbered bots) (sym c.as_slice.ensures.value) numbered) in
    true≢false (sym found ∙ c.if-not-are_numbered.true)

pub returns-clause-stands : goal.returns-clause-stands
returns-clause-stands g c = record {
  begins = record { links = refl; packets = refl; numbered = returns-clause-numbered g c; all_new = c.requires.as_made };
  run = refl;
  net = ap (λ (packets : List Sent). let w : Net = record { bots = c.args.bots.items; packets = packets; store = c.args.store } in w)
      c.new.ensures.items;
}
