use Rattle.std.proofs.Common.{◌≡◌, ◌≢◌, IfOk, IfErr, Option, None, refl, subst}
use Rattle.userfile.specs.declared.edit.Edit.{Edit}
use Rattle.recordtext.proofs.Asks.{edit_of-rest}
use Rattle.recordtext.proofs.Cuts.{words_of-next}
use Rattle.recordtext.proofs.editing.edit_of.Goals as goal

pub returns-clause-edit : goal.returns-clause-edit
returns-clause-edit c =
    let words = words_of-next c.args.words.now c.first_word.ensures c.in-Some.is (words_of-next c.in-Some.rest.now c.first_word-2.ensures c.in-Some-rest.is
    (words_of-next c.in-Some-rest.rest.now c.first_word-3.ensures c.in-Some-rest-2.is
    (words_of-next c.in-Some-rest-2.rest.now c.first_word-4.ensures c.in-Some-rest-3.is
    (words_of-next c.in-Some-rest-3.rest.now c.first_word-5.ensures c.in-Some-rest-4.is refl)))) in
    subst (λ (x : Option Edit). IfOk c.edit_named-2.result (λ edit. edit ≡ x)) (edit_of-rest _ _ _ _ _ _ c.args.words.now words)
    c.edit_named-2.ensures.edit

pub returns-clause-memory : goal.returns-clause-memory
returns-clause-memory c =
    let words = words_of-next c.args.words.now c.first_word.ensures c.in-Some.is (words_of-next c.in-Some.rest.now c.first_word-2.ensures c.in-Some-rest.is
    (words_of-next c.in-Some-rest.rest.now c.first_word-3.ensures c.in-Some-rest-2.is
    (words_of-next c.in-Some-rest-2.rest.now c.first_word-4.ensures c.in-Some-rest-3.is
    (words_of-next c.in-Some-rest-3.rest.now c.first_word-5.ensures c.in-Some-rest-4.is refl)))) in
    subst (λ (x : Option Edit). IfErr c.edit_named-2.result (λ _. x ≢ None)) (edit_of-rest _ _ _ _ _ _ c.args.words.now words)
    c.edit_named-2.ensures.memory
