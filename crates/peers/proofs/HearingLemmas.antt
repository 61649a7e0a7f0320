-- What is read from a connection after the records were opened.
use Rattle.std.proofs.Common.{◌≡◌, ◌∙◌, ◌≤◌, ◌++◌, ℕ, Bool, true, false, List, [], refl, sym, ap, subst, append-nil, Result, Ok, Err, IfOk, Vec, Global, count_by}
use Rattle.std.specs.List.{AllByRecursion, list_all}
use Rattle.std.specs.Prelude.{Option, OnOk}
use Rattle.bytetext.specs.declared.memory.NoMemory.{NoMemory}
use Rattle.net.specs.Connections.{Grows}
use Rattle.sealing.specs.Streams.{Opening, Opens}
use Rattle.sharelink.specs.Shapes.{HasGoodRecords}
use Rattle.sharewire.specs.declared.packet.Packet.{Packet}
use Rattle.sharewire.specs.Streams.{Ending, Tells}
use Rattle.handshake.specs.declared.progress.LeafRights.{LeafRights}
use Rattle.handshake.specs.declared.progress.LeafRights.TheVariants.{Persons, Reads}
use Rattle.peers.specs.declared.hub_link.HubLink.{HubLink}
use Rattle.peers.specs.declared.link_wire.LinkWire.{LinkWire}
use Rattle.peers.specs.declared.seat.Seat.{Seat}
use Rattle.peers.specs.Hearing.{HandsOn, ReadsFrames, ReadsOn, handed, handed_if, noted, noted_if}
use Rattle.peers.specs.HubHearing.{HearsHub}
use Rattle.peers.specs.Picking.{is_hello, is_nameless, is_ours, is_request, picked, said_by}
use Rattle.peers.specs.Sealed.{CarriesOn, OpensFrames}
use Rattle.peers.specs.Speakers.{is_own}
use Rattle.peers.proofs.PickingLemmas.{picked_good, handed_own, handed_hello, handed_layout, handed_persons, handed_reads}

-- ---- a wire that may have been marked as one to close

pub ended_by : (old mid new : LinkWire) → new ≡ mid → mid ≡ record old { gone = mid.gone } → new ≡ record old { gone = new.gone }
ended_by old mid new same ended = same ∙ ended ∙ ap (λ (w : LinkWire). record old { gone = w.gone }) (sym same)

pub ended_twice : (old mid new : LinkWire) → mid ≡ record old { gone = mid.gone } → new ≡ record mid { gone = new.gone }
    → new ≡ record old { gone = new.gone }
ended_twice old mid new one two = two ∙ ap (λ (w : LinkWire). record w { gone = new.gone }) one

pub opens_ended : (frames : List ℕ) (old mid new : LinkWire) → OpensFrames frames old mid → new ≡ record mid { gone = new.gone }
    → OpensFrames frames old new
opens_ended frames old mid new opens same = record {
  piece = opens.piece;
  heard = subst (λ (w : LinkWire). Grows old.connection.heard.items (opens.piece ++ w.connection.heard.items)) (sym same) opens.heard;
  opens = λ stream bodies all.
      subst (λ (w : LinkWire). CarriesOn stream opens.piece bodies frames old.opener w.opener) (sym same) (opens.opens stream bodies all);
}

-- ---- nothing was read

opens_none : (key stream : List ℕ) (bodies : List (List ℕ)) (opening : Opening) → Opens key stream bodies opening
    → Opens key (stream ++ []) (bodies ++ []) opening
opens_none key stream bodies opening opens =
    subst (λ (s : List ℕ). Opens key s (bodies ++ []) opening) (sym (append-nil stream))
    (subst (λ (b : List (List ℕ)). Opens key stream b opening) (sym (append-nil bodies)) opens)

pub opens_nothing : (old new : LinkWire) → new.connection.heard.items ≡ old.connection.heard.items → new.opener ≡ old.opener
    → OpensFrames [] old new
opens_nothing old new heard opener = record {
  piece = [];
  heard = ([], heard ∙ sym (append-nil old.connection.heard.items));
  opens = λ stream bodies opens. record {
    more = [];
    frames_are = refl;
    opens = subst (λ (o : Opening). Opens old.opener.key (stream ++ []) (bodies ++ []) o) (sym opener) (opens_none _ stream bodies _ opens);
  };
}

pub reads_nothing : (ending : Ending) → ReadsOn [] [] ending ending
reads_nothing ending = λ stream before tells.
    subst (λ (s : List ℕ). Tells s (before ++ []) ending) (sym (append-nil stream))
    (subst (λ (b : List Packet). Tells stream b ending) (sym (append-nil before)) tells)

-- ---- frames were read from a leaf

pub frames_good : (result : Result (Vec Packet Global) NoMemory) (may : LeafRights) (said : Option ℕ) (told : List Packet)
    → IfOk result (λ (kept : Vec Packet Global). kept.items ≡ picked may said told) → AllByRecursion HasGoodRecords told
    → IfOk result (λ (kept : Vec Packet Global). AllByRecursion HasGoodRecords kept.items)
frames_good (Ok kept) may said told is good = subst (AllByRecursion HasGoodRecords) (sym is) (picked_good may said told good)
frames_good (Err error) may said told is good = tt

handed_all : (own : Bool) (may : LeafRights) (said : Option ℕ) (told : List Packet) → own ≡ true
    → handed_if own may said told ≡ picked may said told
handed_all true may said told own = refl
handed_all false may said told own = absurd cc

noted_all : (own : Bool) (said : Option ℕ) (told : List Packet) → own ≡ true → noted_if own said told ≡ said_by said told
noted_all true said told own = refl
noted_all false said told own = absurd cc

pub frames_read : (result : Result (Vec Packet Global) NoMemory) (frames : List ℕ) (old mid new : Seat) (told packets : List Packet)
    (reader : Ending) → packets ≡ told → mid.may ≡ old.may → mid.layout ≡ old.layout
    → IfOk result (λ (kept : Vec Packet Global). kept.items ≡ picked mid.may mid.layout packets)
    → OnOk result (new.layout ≡ said_by mid.layout packets)
    → list_all (is_own old.leaf) told ≡ true → new.reader ≡ reader → ReadsOn frames told old.reader reader
    → new.wire ≡ record old.wire { gone = new.wire.gone }
    → IfOk result (λ (kept : Vec Packet Global). ReadsFrames frames old kept.items new)
frames_read (Ok kept) frames old mid new told packets reader same may layout is said own reader_is reads wire = record {
  told = told;
  reads = subst (λ (e : Ending). ReadsOn frames told old.reader e) (sym reader_is) reads;
  handed_are =
      is ∙ ap (picked mid.may mid.layout) same ∙ ap (λ (m : LeafRights). picked m mid.layout told) may
      ∙ ap (λ (l : Option ℕ). picked old.may l told) layout
      ∙ sym (handed_all (list_all (is_own old.leaf) told) old.may old.layout told own);
  layout =
      said ∙ ap (said_by mid.layout) same ∙ ap (λ (l : Option ℕ). said_by l told) layout
      ∙ sym (noted_all (list_all (is_own old.leaf) told) old.layout told own);
  wire = wire;
}
frames_read (Err error) frames old mid new told packets reader same may layout is said own reader_is reads wire = tt

-- ---- a leaf was heard

-- what was read after its beats were heeded
pub hands_on : (frames : List ℕ) (packets : List Packet) (old mid new : Seat) (wire : LinkWire) → OpensFrames frames old.wire wire
    → mid.wire ≡ record wire { gone = mid.wire.gone } → mid.reader ≡ old.reader → mid.leaf ≡ old.leaf → mid.may ≡ old.may
    → mid.layout ≡ old.layout → ReadsFrames frames mid packets new → HandsOn old packets new
hands_on frames packets old mid new wire opens ended reader leaf may layout reads = record {
  frames = frames;
  told = reads.told;
  opens = opens_ended frames old.wire wire new.wire opens (ended_twice wire mid.wire new.wire ended reads.wire);
  reads = subst (λ (e : Ending). ReadsOn frames reads.told e new.reader) reader reads.reads;
  handed_are =
      reads.handed_are ∙ ap (λ n. handed n mid.may mid.layout reads.told) leaf
      ∙ ap (λ (m : LeafRights). handed old.leaf m mid.layout reads.told) may
      ∙ ap (λ (l : Option ℕ). handed old.leaf old.may l reads.told) layout;
  layout =
      reads.layout ∙ ap (λ n. noted n mid.layout reads.told) leaf ∙ ap (λ (l : Option ℕ). noted old.leaf l reads.told) layout;
}

pub all_hands_on : (result : Result (Vec Packet Global) NoMemory) (frames other : List ℕ) (old mid new : Seat) (wire : LinkWire)
    → OpensFrames frames old.wire wire → other ≡ frames
    → mid.wire ≡ record wire { gone = mid.wire.gone } → mid.reader ≡ old.reader → mid.leaf ≡ old.leaf → mid.may ≡ old.may
    → mid.layout ≡ old.layout → IfOk result (λ (packets : Vec Packet Global). ReadsFrames other mid packets.items new)
    → IfOk result (λ (packets : Vec Packet Global). HandsOn old packets.items new)
all_hands_on (Ok packets) frames other old mid new wire opens same ended reader leaf may layout reads =
    hands_on frames packets.items old mid new wire opens ended reader leaf may layout
    (subst (λ (f : List ℕ). ReadsFrames f mid packets.items new) same reads)
all_hands_on (Err error) frames other old mid new wire opens same ended reader leaf may layout reads = tt

pub heard_own : (result : Result (Vec Packet Global) NoMemory) (old new : Seat)
    → IfOk result (λ (packets : Vec Packet Global). HandsOn old packets.items new)
    → IfOk result (λ (packets : Vec Packet Global). list_all (is_own old.leaf) packets.items ≡ true)
heard_own (Ok packets) old new hands = ap (list_all (is_own old.leaf)) hands.handed_are ∙ handed_own old.leaf old.may old.layout hands.told
heard_own (Err error) old new hands = tt

pub heard_hello : (result : Result (Vec Packet Global) NoMemory) (old new : Seat)
    → IfOk result (λ (packets : Vec Packet Global). HandsOn old packets.items new)
    → IfOk result (λ (packets : Vec Packet Global). count_by is_hello packets.items ≤ 1)
heard_hello (Ok packets) old new hands =
    subst (λ (l : List Packet). count_by is_hello l ≤ 1) (sym hands.handed_are)
    (handed_hello (list_all (is_own old.leaf) hands.told) old.may old.layout hands.told)
heard_hello (Err error) old new hands = tt

pub heard_reads : (result : Result (Vec Packet Global) NoMemory) (old new : Seat)
    → IfOk result (λ (packets : Vec Packet Global). HandsOn old packets.items new)
    → IfOk result (λ (packets : Vec Packet Global). old.may ≡ Reads → count_by is_request packets.items ≡ 0)
heard_reads (Ok packets) old new hands =
    λ reads. ap (count_by is_request) hands.handed_are
    ∙ handed_reads (list_all (is_own old.leaf) hands.told) old.may old.layout hands.told reads
heard_reads (Err error) old new hands = tt

pub heard_persons : (result : Result (Vec Packet Global) NoMemory) (old new : Seat)
    → IfOk result (λ (packets : Vec Packet Global). HandsOn old packets.items new)
    → IfOk result (λ (packets : Vec Packet Global). old.may ≡ Persons → count_by is_nameless packets.items ≡ 0)
heard_persons (Ok packets) old new hands =
    λ persons. ap (count_by is_nameless) hands.handed_are
    ∙ handed_persons (list_all (is_own old.leaf) hands.told) old.may old.layout hands.told persons
heard_persons (Err error) old new hands = tt

pub heard_layout : (result : Result (Vec Packet Global) NoMemory) (old new : Seat)
    → IfOk result (λ (packets : Vec Packet Global). HandsOn old packets.items new)
    → IfOk result (λ (packets : Vec Packet Global). is_ours old.layout ≡ false → count_by is_hello packets.items ≡ 0
    → count_by is_request packets.items ≡ 0)
heard_layout (Ok packets) old new hands =
    λ none few. ap (count_by is_request) hands.handed_are
    ∙ handed_layout (list_all (is_own old.leaf) hands.told) old.may old.layout hands.told none
    (sym (ap (count_by is_hello) hands.handed_are) ∙ few)
heard_layout (Err error) old new hands = tt

-- nothing was read from it
pub hands_nothing : (old new : Seat) (packets : List Packet) → packets ≡ [] → new.wire.connection.heard.items ≡ old.wire.connection.heard.items → new.wire.opener ≡ old.wire.opener
    → new.reader ≡ old.reader → new.layout ≡ old.layout → HandsOn old packets new
hands_nothing old new packets none heard opener reader layout = record {
  frames = [];
  told = [];
  opens = opens_nothing old.wire new.wire heard opener;
  reads = subst (λ (e : Ending). ReadsOn [] [] old.reader e) (sym reader) (reads_nothing old.reader);
  handed_are = none;
  layout = layout;
}

-- ---- a hub was heard

pub hears_hub : (result : Result (Vec Packet Global) NoMemory) (frames other : List ℕ) (old mid new : HubLink) (wire : LinkWire)
    → OpensFrames frames old.wire wire → other ≡ frames → mid.wire ≡ record wire { gone = mid.wire.gone } → mid.reader ≡ old.reader
    → IfOk result (λ (packets : Vec Packet Global). ReadsOn other packets.items mid.reader new.reader)
    → IfOk result (λ (packets : Vec Packet Global). new.wire ≡ record mid.wire { gone = new.wire.gone })
    → IfOk result (λ (packets : Vec Packet Global). HearsHub old packets.items new)
hears_hub (Ok packets) frames other old mid new wire opens same ended reader reads last = record {
  frames = frames;
  opens = opens_ended frames old.wire wire new.wire opens (ended_twice wire mid.wire new.wire ended last);
  reads =
      subst (λ (e : Ending). ReadsOn frames packets.items e new.reader) reader
      (subst (λ (f : List ℕ). ReadsOn f packets.items mid.reader new.reader) same reads);
}
hears_hub (Err error) frames other old mid new wire opens same ended reader reads last = tt
