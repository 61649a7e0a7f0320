-- What is sealed and opened on a connection.
use Rattle.std.specs.Prelude.{◌≡◌, ◌+◌, ◌-◌, ◌^◌, ◌<◌, ◌++◌, ℕ, min, nat_lt, List, [], length, Bool}
use Rattle.std.specs.List.{AllByRecursion}
use Rattle.net.specs.Connections.{Grows, Sends, talk_of}
use Rattle.sealing.specs.declared.kind.Kind.TheVariants.{Frames}
use Rattle.sealing.specs.Records.{IsBody, all_sealed, carried}
use Rattle.sealing.specs.Streams.{Opening, Opens}
use Rattle.peers.specs.declared.link_wire.LinkWire.{LinkWire}
use Rattle.peers.specs.declared.link_wire.TheConstants.{SEALED, SLOW}

-- ---- what is sent

-- Records with these bodies were sealed, under the connection's key and at the counts that come next. The frames that
-- they carry, in order and whole, and then those that wait still, are the frames that waited.
pub record Seals (old new : LinkWire) : Type 0 where
  pub bodies : List (List ℕ)
  pub records : new.connection.unsent.items ≡ old.connection.unsent.items ++ all_sealed old.sealer.key old.sealer.count bodies
  pub good : AllByRecursion IsBody bodies
  pub frames : old.outbox ≡ carried Frames bodies ++ new.outbox
  pub next : new.sealer ≡ record { key = old.sealer.key; count = old.sealer.count + length bodies }

-- all that waits is sealed, unless many sealed bytes are unsent
abbrev pub IsSealed : LinkWire → Type 0
IsSealed wire = length wire.connection.unsent.items < SEALED → wire.outbox ≡ []

-- some records were sealed, and then the socket was offered what is unsent, once
pub record SealsAndSends (old : LinkWire) (took : Bool) (new : LinkWire) : Type 0 where
  pub mid : LinkWire
  pub seals : Seals old mid
  pub sends : Sends (talk_of mid.connection) took (talk_of new.connection)
  pub outbox : new.outbox ≡ mid.outbox
  pub sealer : new.sealer ≡ mid.sealer

-- how many bytes wait: those of frames, and sealed ones
abbrev pub waiting : LinkWire → ℕ
waiting wire = min (length wire.outbox + length wire.connection.unsent.items) (2 ^ 64 - 1)

-- so many that the connection is not read
abbrev pub is_slow : LinkWire → Bool
is_slow wire = nat_lt SLOW (waiting wire)

-- ---- what is read

-- the stream goes on with a piece, and opens as before, with records that carry these frames
pub record CarriesOn (stream piece : List ℕ) (bodies : List (List ℕ)) (frames : List ℕ) (old new : Opening) : Type 0 where
  pub more : List (List ℕ)
  pub frames_are : frames ≡ carried Frames more
  pub opens : Opens old.key (stream ++ piece) (bodies ++ more) new

-- These frames are what the records carry that end in a piece of what was heard: records with the right tag under the
-- connection's key, each at its place.
pub record OpensFrames (frames : List ℕ) (old new : LinkWire) : Type 0 where
  pub piece : List ℕ
  pub heard : Grows old.connection.heard.items (piece ++ new.connection.heard.items)
  pub opens : (stream : List ℕ) (bodies : List (List ℕ)) → Opens old.opener.key stream bodies old.opener
      → CarriesOn stream piece bodies frames old.opener new.opener
