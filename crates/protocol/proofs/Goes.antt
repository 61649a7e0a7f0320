-- Rows of a bot that keep what holds, whatever the bot keeps.
use Rattle.std.proofs.Common.{◌≡◌, ℕ, Bool, true, false, true≢false, List, [], Option, None, Some, Result, Ok, Err, refl, sym, subst, ◌∙◌, if◌then◌else◌}
use Rattle.protocol.specs.Packets.{Packet, Outgoing}
use Rattle.protocol.specs.Notes.{Note, LinkFault}
use Rattle.protocol.specs.Notes.LinkFault.{Down}
use Rattle.protocol.specs.Bots.{How, Works, Fails, Counts, Row, refused, Bot, unless_down, journals, counted, reopened, restarted}
use Rattle.protocol.specs.Truth.{AllOutgoing}
use Rattle.protocol.specs.Soundness.{BotSound}
use Rattle.protocol.specs.Standing.{BotStands}
use Rattle.protocol.specs.Claims.{IsFine}

-- what a row leaves stands for a sound moment into which history grew, and what is sent is true of it
pub record Goes {C K V R : Type 0} (S : C → K → Type 0) (Sound : Bot K V R → Type 0) (Grow : K → K → Type 0) (Says : K → Packet → Type 0)
    (b : Bot K V R) (row : Row (Bot C V R)) : Type 0 where
  pub after : Bot K V R
  pub stands : BotStands S row.after after
  pub sound : Sound after
  pub grows : Grow b.kept after.kept
  pub sends : AllOutgoing (Says after.kept) row.sends
  pub fine : IsFine row.told

-- what a record that is counted keeps
pub record Laws {C K R : Type 0} (held : C → R → C) (folded : K → R → K) (S : C → K → Type 0) (Holds : K → Type 0) (Fits : K → R → Type 0)
    (Grow : K → K → Type 0) : Type 0 where
  pub same : (k : K) → Grow k k
  pub stands : (c : C) (k : K) (rec : R) → S c k → Holds k → Fits k rec → S (held c rec) (folded k rec)
  pub holds : (k : K) (rec : R) → Holds k → Fits k rec → Holds (folded k rec)
  pub grows : (k : K) (rec : R) → Holds k → Fits k rec → Grow k (folded k rec)

module _ {C K V R : Type 0} (held : C → R → C) (folded : K → R → K) (S : C → K → Type 0) (Holds : K → Type 0) (Loose : V → Type 0)
    (Fits : K → R → Type 0) (Grow : K → K → Type 0) (Says : K → Packet → Type 0) (laws : Laws held folded S Holds Fits Grow) (w : Bot C V R)
    (b : Bot K V R) (st : BotStands S w b) (sound : BotSound Holds Loose Fits b) where
  abbrev To : Row (Bot C V R) → Type 0
  To = Goes S (BotSound Holds Loose Fits) Grow Says b

  -- nothing moves
  pub stays : (told : Result Note LinkFault) (sends : List Outgoing) → IsFine told → AllOutgoing (Says b.kept) sends
      → To (record { told = told; sends = sends; after = w })
  stays told sends fine true_ones =
      record { after = b; stands = st; sound = sound; grows = laws.same b.kept; sends = true_ones; fine = fine }

  -- what doesn't outlive a restart moves
  pub loosens : (told : Result Note LinkFault) (loose : V) → IsFine told → Loose loose
      → To (record { told = told; sends = []; after = record w { loose = loose } })
  loosens told loose fine good = record {
    after = record b { loose = loose };
    stands = record { kept = st.kept; loose = refl; down = st.down; doubt = st.doubt };
    sound = record { kept = sound.kept; loose = good; doubt = sound.doubt };
    grows = laws.same b.kept;
    sends = tt;
    fine = fine;
  }

  wrote : (rec : R) (note : Note) (sends : List Outgoing) (loose : V) → b.down ≡ false → Fits b.kept rec → Loose loose
      → AllOutgoing (Says (folded b.kept rec)) sends
      → To (record { told = Ok note; sends = sends; after = record w { kept = held w.kept rec; loose = loose } })
  wrote rec note sends loose up fits good true_ones = record {
    after = record b { kept = folded b.kept rec; loose = loose };
    stands = record { kept = laws.stands w.kept b.kept rec st.kept sound.kept fits; loose = refl; down = st.down; doubt = st.doubt };
    sound =
        record { kept = laws.holds b.kept rec sound.kept fits; loose = good; doubt = λ rec' e. absurd (true≢false (sym (sound.doubt rec' e).0 ∙ up)) };
    grows = laws.grows b.kept rec sound.kept fits;
    sends = true_ones;
    fine = tt;
  }

  -- a record is journaled, or the device fails and it is in doubt
  pub written : (how : How) (rec : R) (note : Note) (sends : List Outgoing) (loose : V) → b.down ≡ false → Fits b.kept rec
      → Loose loose → AllOutgoing (Says (folded b.kept rec)) sends → To (journals held how w rec note sends loose)
  written Works rec note sends loose up fits good true_ones = wrote rec note sends loose up fits good true_ones
  written Counts rec note sends loose up fits good true_ones = wrote rec note sends loose up fits good true_ones
  written Fails rec note sends loose up fits good true_ones = record {
    after = record b { down = true; doubt = Some rec };
    stands = record { kept = st.kept; loose = st.loose; down = refl; doubt = refl };
    sound =
        record { kept = sound.kept; loose = sound.loose; doubt = λ rec' e. (refl, subst (Fits b.kept) (let same : rec ≡ rec' = cc in same) fits) };
    grows = laws.same b.kept;
    sends = tt;
    fine = tt;
  }

  opens : (version : C → ℕ) (empty : V) → Loose empty → (c : C) (k : K) → S c k → Holds k → Grow b.kept k
      → To (reopened version empty c)
  opens version empty good c k stands holds grows = record {
    after = record { kept = k; loose = empty; down = false; doubt = None };
    stands = record { kept = stands; loose = refl; down = refl; doubt = refl };
    sound = record { kept = holds; loose = good; doubt = λ rec e. cc };
    grows = grows;
    sends = tt;
    fine = tt;
  }

  -- a restart: the record in doubt counts or doesn't, or the journal isn't opened
  pub restarts : (version : C → ℕ) (empty : V) → Loose empty → (how : How) → To (restarted held version empty how w)
  restarts version empty good Works = opens version empty good w.kept b.kept st.kept sound.kept (laws.same b.kept)
  restarts version empty good Fails = record {
    after = record b { down = true };
    stands = record { kept = st.kept; loose = st.loose; down = refl; doubt = st.doubt };
    sound = record { kept = sound.kept; loose = sound.loose; doubt = λ rec e. (refl, (sound.doubt rec e).1) };
    grows = laws.same b.kept;
    sends = tt;
    fine = tt;
  }
  restarts version empty good Counts = subst (λ o. To (reopened version empty (counted held w.kept o))) (sym st.doubt) (by b.doubt refl)
    where
      by : (o : Option R) → b.doubt ≡ o → To (reopened version empty (counted held w.kept o))
      by None e = opens version empty good w.kept b.kept st.kept sound.kept (laws.same b.kept)
      by (Some rec) e =
          let fits = (sound.doubt rec e).1 in
          opens version empty good (held w.kept rec) (folded b.kept rec) (laws.stands w.kept b.kept rec st.kept sound.kept fits)
          (laws.holds b.kept rec sound.kept fits) (laws.grows b.kept rec sound.kept fits)

  -- a bot that is Down refuses
  pub ups : (row : Row (Bot C V R)) → (b.down ≡ false → To row) → To (unless_down w row)
  ups row to = by w.down (sym st.down)
    where
      by : (d : Bool) → b.down ≡ d → To (if d then refused Down w else row)
      by true e = stays (Err Down) [] tt tt
      by false e = to e
