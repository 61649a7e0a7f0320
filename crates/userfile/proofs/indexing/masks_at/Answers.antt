use Rattle.std.proofs.Common.{◌∙◌, sym, ap, option_map}
use Rattle.std.proofs.lemmas.Option.{slice_get-map}
use Rattle.userfile.specs.Index.{masks_of}
use Rattle.userfile.proofs.EntryLemmas.{Entry}
use Rattle.userfile.proofs.indexing.masks_at.Goals as goal

pub returns-in-Some : goal.returns-in-Some
returns-in-Some c = c.as_slice.ensures
    ∙ ap masks_of (sym (slice_get-map (λ (e : Entry). e.1) c.args.users.now.entries c.args.place
    ∙ ap (option_map (λ (e : Entry). e.1)) (sym c.in-Some.ensures.entry)))

pub returns-in-None : goal.returns-in-None
returns-in-None c =
    ap masks_of (sym (slice_get-map (λ (e : Entry). e.1) c.args.users.now.entries c.args.place
    ∙ ap (option_map (λ (e : Entry). e.1)) (sym c.in-None.ensures.entry)))
