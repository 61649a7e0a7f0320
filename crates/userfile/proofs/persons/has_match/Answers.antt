use Rattle.std.proofs.Common.{◌∙◌, ◌&&◌, List, ℕ, sym, ap, option_map}
use Rattle.std.specs.List.{list_any}
use Rattle.std.proofs.lemmas.Option.{slice_get-map}
use Rattle.userfile.specs.Hostmasks.{is_match}
use Rattle.userfile.specs.Index.{is_of}
use Rattle.userfile.specs.Search.{has_match}
use Rattle.userfile.proofs.EntryLemmas.{Entry}
use Rattle.userfile.proofs.persons.has_match.Goals as goal

pub returns-in-Some : goal.returns-in-Some
returns-in-Some c =
    let at = slice_get-map (λ (e : Entry). e.1) c.args.users.now.entries c.args.listing.now.place
    ∙ ap (option_map (λ (e : Entry). e.1)) (sym c.in-Some.ensures.entry) in
    c.one_matches.ensures ∙ ap (λ (ms : List (List ℕ)). list_any (λ m. is_of c.args.listing.now m && is_match c.args.mapping m c.args.who.now) ms) c.as_slice.ensures
    ∙ ap (has_match c.args.mapping c.args.who.now c.args.listing.now) (sym at)

pub returns-in-None : goal.returns-in-None
returns-in-None c =
    let at = slice_get-map (λ (e : Entry). e.1) c.args.users.now.entries c.args.listing.now.place
    ∙ ap (option_map (λ (e : Entry). e.1)) (sym c.in-None.ensures.entry) in
    ap (has_match c.args.mapping c.args.who.now c.args.listing.now) (sym at)
