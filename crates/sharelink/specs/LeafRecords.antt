-- A leaf's record as contracts see it.
use Rattle.protocol.specs.LeafRules.{LeafRecord, Apply, Out, Done, Install, Compact}
use Rattle.sharelink.specs.declared.leaf_record.What.{What}
use Rattle.sharelink.specs.declared.leaf_record.What.TheVariants as seen

abbrev pub shown : What → LeafRecord
shown (seen.Apply change) = Apply change
shown (seen.Out change) = Out change
shown (seen.Done request) = Done request
shown (seen.Install version userfile) = Install version userfile
shown seen.Compact = Compact
