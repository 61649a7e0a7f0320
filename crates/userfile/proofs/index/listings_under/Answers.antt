use Rattle.std.proofs.Common.{◌∙◌, sym}
use Rattle.userfile.proofs.GroupLemmas.{listings_at-found, listings_at-none}
use Rattle.userfile.proofs.index.listings_under.Goals as goal

pub returns-in-Some : goal.returns-in-Some
returns-in-Some c = c.as_slice.ensures.value ∙ sym (listings_at-found c.args.tail _ _ (sym c.in-Some.ensures.value))

pub returns-in-None : goal.returns-in-None
returns-in-None c = sym (listings_at-none c.args.tail _ (sym c.in-None.ensures.value))
