use Rattle.std.proofs.Common.{◌≡◌, ◌<◌, List, [], length, take, map, sym, ap, ◌∙◌, arith, if◌then◌else◌}
use Rattle.std.proofs.lemmas.List.{length-map}
use Rattle.std.specs.List.{remove}
use Rattle.std.proofs.lemmas.List.Sums.{length-filter}
use Rattle.indexmap.proofs.SetLemmas.{map-remove}
use Rattle.procs.specs.declared.bind.Bind.{Bind}
use Rattle.procs.specs.Kinds.{is_kind, is_single}
use Rattle.procs.specs.Index.{of_kind}
use Rattle.procs.specs.Masks.{entry_of, key_of}
use Rattle.procs.proofs.KindLemmas.{filter-remove, place-within, remove-words}
use Rattle.procs.proofs.keep.take_out.Goals as goal

pub remove-requires : goal.remove-requires
remove-requires c =
    let kind = c.args.kind in
    let held = c.args.held.now.items in
    let none : Bind = record { number = 0; kind = kind; flags = []; mask = []; proc = [] } in
    let place : c.count_of_kind-place.result ≡ length (of_kind kind (take c.args.at held)) =
    c.count_of_kind-place.ensures ∙ sym (length-filter (λ b. is_kind kind b.kind) _)
    ∙ ap (λ (bs : List Bind). length (of_kind kind (take c.args.at bs))) c.deref.ensures.value in
    let within : length (of_kind kind (take c.args.at held)) < length (of_kind kind held) =
    place-within (λ b. is_kind kind b.kind) held c.args.at none (omega arith) (c.requires.kind none) in
    let entries : length c.args.index.now.entries.items ≡ length (of_kind kind held) =
    ap length c.requires.indexed.entries ∙ length-map (of_kind kind held) entry_of in
    omega arith

pub returns-clause-indexed : goal.returns-clause-indexed
returns-clause-indexed c =
    let kind = c.args.kind in
    let held = c.args.held.now.items in
    let place : c.count_of_kind-place.result ≡ length (of_kind kind (take c.args.at held)) =
    c.count_of_kind-place.ensures ∙ sym (length-filter (λ b. is_kind kind b.kind) _)
    ∙ ap (λ (bs : List Bind). length (of_kind kind (take c.args.at bs))) c.deref.ensures.value in
    let rest : of_kind kind c.remove-one.new.self.items ≡ remove (of_kind kind held) c.count_of_kind-place.result =
    ap (of_kind kind) c.remove-one.ensures.items
    ∙ filter-remove (λ b. is_kind kind b.kind) held c.args.at c.remove-one.result (omega arith) (c.requires.kind c.remove-one.result)
    ∙ ap (remove (of_kind kind held)) (sym place) in
    record {
      entries =
          c.remove.ensures.entries ∙ ap (λ es. remove es c.count_of_kind-place.result) c.requires.indexed.entries
          ∙ sym (map-remove entry_of (of_kind kind held) c.count_of_kind-place.result) ∙ ap (map entry_of) (sym rest);
      words =
          c.remove.ensures.words ∙ ap (λ ws. remove ws c.count_of_kind-place.result) c.requires.indexed.words
          ∙ remove-words (is_single kind) key_of (of_kind kind held) c.count_of_kind-place.result
          ∙ ap (λ bs. if is_single kind then map key_of bs else []) (sym rest);
    }
