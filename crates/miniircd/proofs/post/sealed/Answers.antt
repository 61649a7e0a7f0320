use Rattle.std.proofs.Common.{◌∙◌, ap, take, filter, rules}
use Rattle.std.proofs.lemmas.Fn.{filter_same}
use Rattle.ircline.specs.Classes.{octet}
use Rattle.miniircd.proofs.post.sealed.Goals as goal

pub returns : goal.returns
returns c =
    let kept = filter_same _ octet _ (λ x b f' k. search rules) _ _ c.retain.ensures.filtered in
    c.new.ensures ∙ c.truncate.ensures.items ∙ ap (take 510) kept ∙ ap (λ bytes. take 510 (filter octet bytes)) c.in_ok-bytes.ensures.items
