-- A list of ranks has a bad one exactly if the test finds one.
use Rattle.std.proofs.Common.{◌≡◌, Contains, true, List, [], ◌∷◌, ap, rules}
use Rattle.std.proofs.lemmas.List.Elements.{Contains-append_left, Contains-append_right, Contains-push}
use Rattle.std.proofs.lemmas.List.Folds.{list_any_at}
use Rattle.std.specs.List.{list_any}
use Rattle.doctor.specs.declared.rank.Rank.{Rank}
use Rattle.doctor.specs.declared.rank.Rank.TheVariants.{Fine, Note, Bad}
use Rattle.doctor.specs.Status.{is_bad}

pub Contains-from_test : (ranks : List Rank) → list_any is_bad ranks ≡ true → Contains ranks Bad
Contains-from_test [] found = search rules
Contains-from_test (Fine ∷ ranks) found = Contains-append_right (Fine ∷ []) ranks Bad (Contains-from_test ranks found)
Contains-from_test (Note ∷ ranks) found = Contains-append_right (Note ∷ []) ranks Bad (Contains-from_test ranks found)
Contains-from_test (Bad ∷ ranks) found = Contains-append_left (Bad ∷ []) ranks Bad (Contains-push [] Bad)

pub test-from_Contains : (ranks : List Rank) → Contains ranks Bad → list_any is_bad ranks ≡ true
test-from_Contains ranks (place, within, is) = list_any_at is_bad ranks place Bad within (ap is_bad is)
