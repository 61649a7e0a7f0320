-- The bytes of a connection without the tags of their lines.
use Rattle.std.specs.Prelude.{ℕ, List, [], Option, None, Some}
use Rattle.serverlink.specs.declared.session.Session.{Session}
use Rattle.serverlink.specs.declared.tags.TagStage.{TagStage}
use Rattle.serverlink.specs.declared.tags.TagStage.TheVariants.{Front}
use Rattle.serverlink.specs.Tags.{stage_after, untagged}

-- what was read and not taken, without tags; nothing without a connection
abbrev pub untagged_in : Option Session → List ℕ
untagged_in None = []
untagged_in (Some session) = untagged session.tags session.wire.heard

-- where in a line the bytes that were taken ended; a connection begins with a line
abbrev pub tags_in : Option Session → TagStage
tags_in None = Front
tags_in (Some session) = session.tags

abbrev pub tags_after : Option Session → TagStage
tags_after None = Front
tags_after (Some session) = stage_after session.tags session.wire.heard
