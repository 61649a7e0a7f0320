use Rattle.std.proofs.Common.{◌≡◌, ◌∙◌, sym, eqb, rules, tests}
use Rattle.std.specs.List.{list_any, slice_split}
use Rattle.std.proofs.lemmas.Iterator.Search.{any_from_yields_List}
use Rattle.std.proofs.lemmas.Iterator.Splits.{YieldsList-from_slice_split}
use Rattle.rfccase.specs.Channels.{is_channel_name}
use Rattle.botcore.specs.Automatic.{guarded_as}
use Rattle.botcore.proofs.AutomaticLemmas.{is_kept, kept-none, kept-some}
use Rattle.botcore.proofs.joining.guards_any.Goals as goal

-- whether a piece of the list is kept
found : (c : goal.After-any) → c.any.result
    ≡ list_any (is_kept (guarded_as c.args.state.now) is_channel_name) (slice_split (λ b. eqb b 44) c.args.list.now)
found c =
    any_from_yields_List (is_kept (guarded_as c.args.state.now) is_channel_name) _ _ c.any.result c.any.ensures.ran
    (YieldsList-from_slice_split _ (λ b. eqb b 44) c.args.list.now c.split.ensures.rest c.split.ensures.done
    c.split.ensures.closure (λ x r q k. search (rules, tests))) (λ x b q k. search (rules, tests))

pub returns-clause-some : goal.returns-clause-some
returns-clause-some c =
    λ is. kept-some (guarded_as c.args.state.now) is_channel_name (slice_split (λ b. eqb b 44) c.args.list.now) (sym (found c) ∙ is)

pub returns-clause-none : goal.returns-clause-none
returns-clause-none c =
    λ is. kept-none (guarded_as c.args.state.now) is_channel_name (slice_split (λ b. eqb b 44) c.args.list.now) (sym (found c) ∙ is)
