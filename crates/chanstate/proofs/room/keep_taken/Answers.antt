use Rattle.std.proofs.Common.{◌∙◌, ap, is_some, rules}
use Rattle.std.proofs.lemmas.Fn.{filter_same}
use Rattle.chanstate.specs.Seats.{seated}
use Rattle.chanstate.proofs.SeatLemmas.{seated-taken}
use Rattle.chanstate.proofs.room.keep_taken.Goals as goal

pub returns-clause-taken : goal.returns-clause-taken
returns-clause-taken c = filter_same _ is_some _ (λ x b f' k. search rules) _ _ c.retain.ensures.filtered

pub returns-clause-same : goal.returns-clause-same
returns-clause-same c = ap seated (filter_same _ is_some _ (λ x b f' k. search rules) _ _ c.retain.ensures.filtered) ∙ seated-taken c.args.places.now.items
