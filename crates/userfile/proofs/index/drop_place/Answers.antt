use Rattle.std.proofs.Common.{not, ◌==◌, rules}
use Rattle.std.proofs.lemmas.Fn.{filter_same}
use Rattle.userfile.specs.declared.index.Listing.{Listing}
use Rattle.userfile.proofs.index.drop_place.Goals as goal

pub returns : goal.returns
returns c = filter_same _ (λ (x : Listing). not (x.place == c.args.place)) _ (λ x b f' k. search rules) _ _ c.retain.ensures.filtered
