use Rattle.std.proofs.Common.{◌≡◌, ◌∙◌, false, chars, flat_map, sym, subst}
use Rattle.std.specs.List.{list_all}
use Rattle.std.proofs.lemmas.Str.{is_utf8-from_IsUtf8}
use Rattle.page.specs.Marks.{is_bare, shown_char}
use Rattle.page.specs.Writing.{Adds}
use Rattle.page.proofs.MarkLemmas.{not_utf8}
use Rattle.page.proofs.sheet.Sheet.put_text.Goals as goal

pub returns-in-Ok : goal.returns-in-Ok
returns-in-Ok c =
    let bare : list_all is_bare c.args.text.now ≡ false = sym c.are_bare.ensures ∙ c.if-are_bare.false in
    let shown = subst (λ text. Adds c.args.self.now (flat_map shown_char (chars text)) c.put_chars.new.self) c.in-Ok.ensures.cases.0 c.put_chars.ensures in
    rw (bare, is_utf8-from_IsUtf8 _ c.in-Ok.ensures.cases.1) shown

pub returns-in-Err : goal.returns-in-Err
returns-in-Err c =
    let bare : list_all is_bare c.args.text.now ≡ false = sym c.are_bare.ensures ∙ c.if-are_bare.false in
    rw (bare, not_utf8 _ c.in-Err.ensures.cases.0) c.put_bytes.ensures
