use Rattle.std.proofs.Common.{◌≡◌, ◌∙◌, ap, sym, rules, tests}
use Rattle.std.proofs.lemmas.Iterator.{YieldsList-from_slice}
use Rattle.std.proofs.lemmas.Iterator.Search.{any_from_yields_List}
use Rattle.std.specs.List.{list_any}
use Rattle.serverlink.specs.Lines.{is_break}
use Rattle.serverlink.specs.Told.{IsLine}
use Rattle.serverlink.proofs.ToldLemmas.{tells_told, told_line}
use Rattle.serverlink.proofs.server_wire.ServerWire.tell.Goals as goal

pub invariant_of-self-2 : goal.invariant_of-self-2
invariant_of-self-2 g c =
    let breaks : c.any.result ≡ list_any is_break c.args.line.now = any_from_yields_List is_break _ _ c.any.result c.any.ensures.ran (YieldsList-from_slice c.args.line.now cc) (λ x b q k. search (rules, tests)) in
    let is : IsLine c.args.line.now = search rules in (
      tells_told _ _ _ _ c.args.line.now c.tell.result is c.self.invariant.0 (ap g.S.Stream.sink c.tell.ensures.stream) c.tell.ensures.told,
      c.tell.ensures.bounds ∙ c.self.invariant.1,
    )

pub returns-in_err-_fits-clause-memory : goal.returns-in_err-_fits-clause-memory
returns-in_err-_fits-clause-memory g c =
    let breaks : c.any.result ≡ list_any is_break c.args.line.now = any_from_yields_List is_break _ _ c.any.result c.any.ensures.ran (YieldsList-from_slice c.args.line.now cc) (λ x b q k. search (rules, tests)) in
    let is : IsLine c.args.line.now = search rules in
    search rules

pub returns-clause-told : goal.returns-clause-told
returns-clause-told g c =
    let breaks : c.any.result ≡ list_any is_break c.args.line.now = any_from_yields_List is_break _ _ c.any.result c.any.ensures.ran (YieldsList-from_slice c.args.line.now cc) (λ x b q k. search (rules, tests)) in
    let is : IsLine c.args.line.now = search rules in
    search rules ∙ sym (told_line c.args.line.now c.args.self.now is)
