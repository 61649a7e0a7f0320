-- How a call of either end stands to its row, as a bot's.
use Rattle.std.proofs.Common.{◌<◌, inl, inr, ⊎_elim, Result, Ok, Err, refl, ap}
use Rattle.bytetext.specs.declared.failure.Failure.{Failure}
use Rattle.bytetext.specs.declared.failure.Failure.TheVariants.{Refused, NoMemory}
use Rattle.protocol.specs.Bots.{How, Fails, Row}
use Rattle.protocol.specs.HubRules.{Hub}
use Rattle.protocol.specs.LeafRules.{Leaf}
use Rattle.protocol.specs.Ends.{AtHub, AtLeaf, of_hub, of_leaf}
use Rattle.sharelink.specs.declared.answer.Answer.{Answer}
use Rattle.sharelink.specs.declared.error.LinkFault.{LinkFault}
use Rattle.sharelink.specs.Meets.{Meets, Restarts}
use Rattle.sharelink.specs.HubLinks.{HubEnd, Calls as HubCalls, CallsRestart as HubRestarts}
use Rattle.sharelink.specs.LeafLinks.{LeafEnd, Calls as LeafCalls, CallsRestart as LeafRestarts}
use Rattle.sharelink.specs.BotLinks.{Calls, CallsRestart}
use Rattle.sharelink.specs.BotEnds.{hub_end, leaf_end}
use Rattle.protocol.specs.HubRules.{hub_restarted}
use Rattle.sharelink.specs.LeafLinks.{restarted}
use Rattle.sharelink.proofs.LeftLaws.{hub_crashes, leaf_crashes}

-- ---- hubs

hub_meets : (row : How → Row Hub) (old new : HubEnd) (result : Result Answer (Failure LinkFault))
    → Meets row old.bot old.device result new.bot new.device
    → Meets (λ how. of_hub (row how)) (AtHub old.bot) old.device result (AtHub new.bot) new.device
hub_meets row old new (Ok answer) is = record { told = is.told; sends = is.sends; after = ap (λ b. AtHub b) is.after }
hub_meets row old new (Err (Refused fault)) is =
    (record { told = is.0.told; sends = is.0.sends; after = ap (λ b. AtHub b) is.0.after }, is.1)
hub_meets row old new (Err NoMemory) is = (is.0, ap (λ b. AtHub b) is.1)

pub hub_calls : (row : How → Row Hub) (old new : HubEnd) (result : Result Answer (Failure LinkFault)) → HubCalls old row result new
    → Calls (hub_end old) (λ how. of_hub (row how)) result (hub_end new)
hub_calls row old new result is = record {
  row = hub_meets row old new result is.row_of;
  number = refl;
  leaves = is.leaves;
  moments = ⊎_elim (λ same. inl same) (λ m. inr (hub_crashes old (row Fails).after old.device new.device m)) is.moments;
}

hub_finds : (row : How → Row Hub) (old new : HubEnd) (result : Result Answer (Failure LinkFault))
    → Restarts row old.device result new.bot new.device → Restarts (λ how. of_hub (row how)) old.device result (AtHub new.bot) new.device
hub_finds row old new (Ok answer) (inl is) = inl (record { told = is.told; sends = is.sends; after = ap (λ b. AtHub b) is.after })
hub_finds row old new (Ok answer) (inr is) = inr (record { told = is.told; sends = is.sends; after = ap (λ b. AtHub b) is.after })
hub_finds row old new (Err (Refused fault)) is =
    (record { told = is.0.told; sends = is.0.sends; after = ap (λ b. AtHub b) is.0.after }, is.1)
hub_finds row old new (Err NoMemory) is = ap (λ b. AtHub b) is

pub hub_restarts : (old new : HubEnd) (result : Result Answer (Failure LinkFault)) → HubRestarts old (λ how. hub_restarted old.leaves how old.bot) result new
    → CallsRestart (hub_end old) result (hub_end new)
hub_restarts old new result is = record {
  row = hub_finds (λ how. hub_restarted old.leaves how old.bot) old new result is.row_of;
  reopened = is.reopened;
  moments = hub_crashes old old.bot old.device new.device is.moments;
  number = refl;
  leaves = is.leaves;
}

-- ---- leaves

leaf_meets : (row : How → Row Leaf) (old new : LeafEnd) (result : Result Answer (Failure LinkFault))
    → Meets row old.bot old.device result new.bot new.device
    → Meets (λ how. of_leaf (row how)) (AtLeaf old.bot) old.device result (AtLeaf new.bot) new.device
leaf_meets row old new (Ok answer) is = record { told = is.told; sends = is.sends; after = ap (λ b. AtLeaf b) is.after }
leaf_meets row old new (Err (Refused fault)) is =
    (record { told = is.0.told; sends = is.0.sends; after = ap (λ b. AtLeaf b) is.0.after }, is.1)
leaf_meets row old new (Err NoMemory) is = (is.0, ap (λ b. AtLeaf b) is.1)

pub leaf_calls : (row : How → Row Leaf) (old new : LeafEnd) (result : Result Answer (Failure LinkFault)) → 0 < old.number
    → LeafCalls old row result new → Calls (leaf_end old) (λ how. of_leaf (row how)) result (leaf_end new)
leaf_calls row old new result numbered is = record {
  row = leaf_meets row old new result is.row_of;
  number = is.number;
  leaves = is.leaves;
  moments = ⊎_elim (λ same. inl same) (λ m. inr (leaf_crashes old (row Fails).after old.device new.device numbered m)) is.moments;
}

leaf_finds : (row : How → Row Leaf) (old new : LeafEnd) (result : Result Answer (Failure LinkFault))
    → Restarts row old.device result new.bot new.device → Restarts (λ how. of_leaf (row how)) old.device result (AtLeaf new.bot) new.device
leaf_finds row old new (Ok answer) (inl is) = inl (record { told = is.told; sends = is.sends; after = ap (λ b. AtLeaf b) is.after })
leaf_finds row old new (Ok answer) (inr is) = inr (record { told = is.told; sends = is.sends; after = ap (λ b. AtLeaf b) is.after })
leaf_finds row old new (Err (Refused fault)) is =
    (record { told = is.0.told; sends = is.0.sends; after = ap (λ b. AtLeaf b) is.0.after }, is.1)
leaf_finds row old new (Err NoMemory) is = ap (λ b. AtLeaf b) is

pub leaf_restarts : (old new : LeafEnd) (result : Result Answer (Failure LinkFault)) → 0 < old.number → LeafRestarts old (restarted old) result new
    → CallsRestart (leaf_end old) result (leaf_end new)
leaf_restarts old new result numbered is = record {
  row = leaf_finds (restarted old) old new result is.row_of;
  reopened = is.reopened;
  moments = leaf_crashes old old.bot old.device new.device numbered is.moments;
  number = is.number;
  leaves = is.leaves;
}
