-- A hub's record as contracts see it.
use Rattle.protocol.specs.HubRules.{HubRecord, Accept, Settle, Rebase}
use Rattle.sharelink.specs.declared.hub_record.What.{What}
use Rattle.sharelink.specs.declared.hub_record.What.TheVariants as seen

abbrev pub shown : What → HubRecord
shown (seen.Accept entry) = Accept entry
shown (seen.Settle leaf fault) = Settle leaf fault
shown seen.Rebase = Rebase
