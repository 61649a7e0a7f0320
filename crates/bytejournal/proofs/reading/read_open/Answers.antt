use Rattle.std.proofs.Common.{◌≡◌, ◌+◌, ℕ, List, ◌∷◌, length, sym, subst, MatchOption, None}
use Rattle.bytejournal.specs.Meaning.{entries_of}
use Rattle.bytejournal.specs.Reading.{HasEntries, IsFound}
use Rattle.bytejournal.proofs.Starts.{is_found}
use Rattle.bytejournal.proofs.reading.read_open.Goals as goal

-- the base's copy and its length
copied : (bytes base copy : List ℕ) (layout generation size gate : ℕ) (entries : List (List ℕ)) → copy ≡ base → size ≡ length copy
    → IsFound bytes (record { layout = layout; generation = generation; base = base; entries = entries; gate = 14 + length base + gate })
    → IsFound bytes (record { layout = layout; generation = generation; base = copy; entries = entries; gate = 14 + size + gate })
copied bytes base copy layout generation size gate entries same long found =
    subst (λ (n : ℕ). IsFound bytes (record { layout = layout; generation = generation; base = copy; entries = entries; gate = 14 + n + gate })) (sym long)
    (subst (λ (b : List ℕ). IsFound bytes (record { layout = layout; generation = generation; base = b; entries = entries; gate = 14 + length b + gate })) (sym same) found)

pub returns : goal.returns
returns c =
    let bytes = c.args.bytes.now in
    let front = c.in-Some.front in
    let is = c.in-Some.ensures in
    let has : HasEntries front.rest.now c.in-Some-2.found = subst (λ o. MatchOption o (entries_of front.rest.now ≡ None) (HasEntries front.rest.now)) c.in-Some-2.is c.in_ok-found.ensures in
    copied (1 ∷ bytes) front.base.now c.in_ok-base.base front.layout front.generation c.len.result c.in-Some-2.found.gate
    c.in-Some-2.found.texts c.in_ok-base.ensures c.len.ensures
    (is_found bytes is.numbers is.sizes front.base.now front.rest.now front.layout front.generation is.begins is.number is.text c.in-Some-2.found has)
