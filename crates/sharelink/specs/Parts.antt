-- A complete set of parts, and their records one after another.
use Rattle.std.specs.Prelude.{◌≡◌, List, [], ◌∷◌, ◌++◌, Option, None, Some, Bool, false}
use Rattle.std.specs.List.{AllByRecursion}
use Rattle.rfccase.specs.Casemapping.{is_same}
use Rattle.userfile.specs.Held.{is_ban}
use Rattle.usercodec.specs.declared.records.Record.{Record}
use Rattle.usercodec.specs.declared.records.Record.TheVariants as records
use Rattle.usercodec.specs.Records.{IsGoodRecord}
use Rattle.sharelink.specs.declared.walk.Walk.{Walk}
use Rattle.std.specs.Borrow.{Bor}

-- the records of the parts that were received
abbrev pub flat : List (Option (List Record)) → List Record
flat [] = []
flat (None ∷ parts) = flat parts
flat (Some items ∷ parts) = items ++ flat parts

-- each record of the parts that were received has a spelling
abbrev pub AreGoodParts : List (Option (List Record)) → Type 0
AreGoodParts [] = Unit {0}
AreGoodParts (None ∷ parts) = AreGoodParts parts
AreGoodParts (Some items ∷ parts) = AllByRecursion IsGoodRecord items × AreGoodParts parts

-- the records that a walk over parts has not reached yet
abbrev pub left : Walk → List Record
left walk = walk.here.now ++ (flat walk.front.now ++ (walk.part.now ++ flat walk.back.now))

-- A step of a walk, by cases on the result: it is at its end, or reaches a record and goes on.
abbrev pub Steps : List Record → Option (Bor Record × Walk) → Type 0
Steps items None = items ≡ []
Steps items (Some step) = items ≡ step.0.now ∷ left step.1

-- two records that no userfile holds together: users of one handle, or bans of one channel and mask
abbrev pub clash : Record → Record → Bool
clash (records.User user) (records.User other) = is_same user.handle other.handle
clash (records.User user) (records.Ban other) = false
clash (records.Ban ban) (records.User other) = false
clash (records.Ban ban) (records.Ban other) = is_ban ban.channel ban.mask other
