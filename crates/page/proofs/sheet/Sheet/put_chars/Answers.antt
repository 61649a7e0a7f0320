use Rattle.std.proofs.Common.{[], flat_map, sym, subst, ◌∙◌, map-id}
use Rattle.std.proofs.lemmas.Iterator.{YieldsList-from_chars}
use Rattle.std.proofs.lemmas.Iterator.Consumers.{YieldsList-end}
use Rattle.std.proofs.lemmas.List.{flat_map_more}
use Rattle.page.specs.Marks.{shown_char}
use Rattle.page.specs.Writing.{Adds}
use Rattle.page.proofs.WritingLemmas.{adds_both}
use Rattle.page.proofs.sheet.Sheet.put_chars.Goals as goal

pub returns : goal.returns
returns c =
    let end = YieldsList-end (YieldsList-from_chars c.args.text.now c.utf8.text cc) c.loop-c.yielded _ c.loop-c.yielded_by _ _ c.in-None.is c.next.ensures.steps in
    subst (λ cs. Adds c.args.self.now (flat_map shown_char cs) c.loop-c.self) (sym (map-id c.loop-c.yielded) ∙ end.0) c.loop-c.invariant

pub loop-c-preserved : goal.loop-c-preserved
loop-c-preserved c =
    subst (λ shown. Adds c.args.self.now shown c.put_char.new.self) (flat_map_more shown_char [] c.loop-c.yielded c.in-Some.c)
    (adds_both c.args.self.now c.loop-c.self c.put_char.new.self _ (shown_char c.in-Some.c) c.loop-c.invariant c.put_char.ensures)
