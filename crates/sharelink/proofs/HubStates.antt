-- What a journal means to a hub has a place for each leaf's replies, and those to each leaf at its place; and so its base has a
-- spelling.
use Rattle.std.proofs.Common.{◌≡◌, ◌<◌, ◌^◌, ℕ, ◌==◌, nat_lt, true, List, [], length, Option, None, Some, is_none, refl, ap, sym, subst, ◌∙◌, arith}
use Rattle.std.proofs.lemmas.Bool.{and_parts}
use Rattle.std.specs.List.{AllByRecursion, list_all}
use Rattle.std.specs.Option.{is_some}
use Rattle.userfile.specs.Records.{Records, no_records}
use Rattle.userfile.specs.Apply.{refusal}
use Rattle.userfile.specs.Together.{AreSound}
use Rattle.userfile.specs.declared.error.ChangeFault.{ChangeFault}
use Rattle.usercodec.specs.declared.records.Record.{Record}
use Rattle.usercodec.specs.Records.{IsGoodRecord}
use Rattle.botjournal.specs.declared.base.Base.{Base}
use Rattle.botjournal.specs.declared.reply.Reply.{Reply}
use Rattle.botjournal.specs.declared.request.Request.{Request}
use Rattle.botjournal.specs.declared.entry.Entry.{Entry}
use Rattle.botjournal.specs.declared.entry.Entry.TheVariants.{Accepted, Settled, Applied, ReqOut, ReqDone}
use Rattle.botjournal.specs.Bases.{AreListed, IsGoodReply, IsGoodBase, are_kept}
use Rattle.botjournal.specs.Contents.{Contents}
use Rattle.protocol.specs.Numbers.{last_number, item_at}
use Rattle.protocol.specs.Snapshots.{records_from}
use Rattle.protocol.specs.Packets.{AcceptedChange}
use Rattle.protocol.specs.HubRules.{HubState, HubRecord, version_of, hub_folded}
use Rattle.protocol.specs.Journals.{stand_together, is_to_leaf, replies_of, hub_of, is_hub_base, is_next, is_next_of, hub_record, hub_meaning, HubMay, IsHubState}
use Rattle.protocol.proofs.Journals.{hub_state_kept}
use Rattle.sharelink.specs.States.{ArePlaced}
use Rattle.sharelink.proofs.Lists.{are_users, are_bans}
use Rattle.sharelink.proofs.KeptReplies.{replies_of-length, replies_of-placed}
use Rattle.sharelink.specs.Reading.{if-some, all-any, read-well}

-- ---- a hub on a base alone

no_fault : (o : Option ChangeFault) → is_none o ≡ true → o ≡ None
no_fault None is = refl
no_fault (Some fault) is = cc

sound-base : (items : List Record) → AllByRecursion IsGoodRecord items → stand_together (records_from items) ≡ true
    → AreSound (records_from items)
sound-base items good together =
    record { users = are_users items good; bans = are_bans items good; together = no_fault _ together }

hub_of-state : (leaves generation : ℕ) (base : Base) → IsGoodBase base → stand_together (records_from base.records) ≡ true
    → IsHubState leaves (hub_of leaves generation base)
hub_of-state leaves generation base good together = record {
  places = replies_of-length 1 leaves base.replies;
  placed = λ place kept at. (replies_of-placed leaves base.replies good.kept place kept at).0;
  in_turn = λ place kept at. (replies_of-placed leaves base.replies good.kept place kept at).1;
  records = sound-base base.records good.records.1 together;
}

-- ---- entry by entry

next-some : (place : Option (List Reply)) (request : ℕ) → is_next_of place request ≡ true → is_some place ≡ true
next-some None request next = cc
next-some (Some kept) request next = refl

record-may : (hub : HubState) (entry : Entry) (found : HubRecord) → hub_record hub entry ≡ Some found → HubMay hub found
record-may hub (Accepted origin request change) found is =
    let parts = if-some _ _ found is in
    let first = and_parts (is_none (refusal hub.records change)) _ parts.0 in
    let rest = and_parts (nat_lt (version_of hub) last_number) (is_next hub.replies origin request) first.1 in
    subst (λ r. HubMay hub r) parts.1 (no_fault _ first.0, (rest.0, rest.1))
record-may hub (Settled leaf request fault) found is =
    let parts = if-some _ _ found is in
    subst (λ r. HubMay hub r) parts.1 (next-some (item_at hub.replies leaf) request parts.0)
record-may hub (Applied number change) found is = absurd (cc)
record-may hub (ReqOut request change) found is = absurd (cc)
record-may hub (ReqDone request) found is = absurd (cc)

-- so the state stays one with each entry that is read
entry-state : (leaves : ℕ) (hub : HubState) (entry : Entry) (found : HubRecord) → Unit {0} → hub_record hub entry ≡ Some found
    → IsHubState leaves hub → IsHubState leaves (hub_folded hub found)
entry-state leaves hub entry found any is state = hub_state_kept leaves hub found state (record-may hub entry found is)

pub hub_meaning-state : (leaves : ℕ) (contents : Contents) (hub : HubState) → IsGoodBase contents.base
    → hub_meaning leaves contents ≡ Some hub → IsHubState leaves hub
hub_meaning-state leaves contents hub good means =
    read-well hub_record hub_folded (λ (entry : Entry). Unit {0}) (λ (h : HubState). IsHubState leaves h) (entry-state leaves)
    (is_hub_base leaves contents.base) (hub_of leaves contents.generation contents.base) hub contents.entries (all-any contents.entries)
    (λ may. hub_of-state leaves contents.generation contents.base good
    (and_parts (list_all (is_to_leaf leaves) contents.base.replies) (stand_together (records_from contents.base.records))
    (and_parts (contents.base.bot == 0) _ may).1).1) means

pub new_hub-state : (leaves : ℕ) (tail : List AcceptedChange) (held : Records) (replies : List (List Reply)) → held ≡ no_records
    → replies ≡ replies_of 1 leaves []
    → IsHubState leaves (record { floor = 0; tail = tail; records = held; replies = replies; generation = 1 })
new_hub-state leaves tail held replies none placed =
    let each = subst ArePlaced (sym placed) (replies_of-placed leaves [] refl) in
    record {
      places = ap length placed ∙ replies_of-length 1 leaves [];
      placed = λ place kept at. (each place kept at).0;
      in_turn = λ place kept at. (each place kept at).1;
      records = subst AreSound (sym none) (sound-base [] tt refl);
    }

-- ---- a base that has a spelling

pub hub_base-good : (version : ℕ) (items : List Record) (replies : List Reply) (out : List Request) → version < 2 ^ 32 → AreListed IsGoodRecord items
    → AllByRecursion IsGoodReply replies → length replies < 2 ^ 16 → are_kept replies ≡ true → out ≡ []
    → IsGoodBase (record { bot = 0; version = version; records = items; replies = replies; last_request = 0; out = out })
hub_base-good version items replies out small listed good few kept none =
    subst (λ (l : List Request). IsGoodBase (record { bot = 0; version = version; records = items; replies = replies; last_request = 0; out = l }))
    (sym none) (record {
      bot = omega arith;
      version = small;
      records = listed;
      replies = (few, good);
      kept = kept;
      last_request = omega arith;
      out = (tt, refl);
      of_its_bot = refl;
    })
