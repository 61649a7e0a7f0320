use Rattle.std.proofs.Common.{◌≡◌, ℕ, ◌+◌, ◌%◌, ◌^◌, List, [], ◌++◌, length, take, append_assoc, ap, ◌∙◌}
use Rattle.std.specs.Int.{w64, to_be_bytes}
use Rattle.sha2.specs.Sha256.{sha256}
use Rattle.botjournal.specs.declared.sums.Seal.{Seal}
use Rattle.botjournal.specs.Sums.{sum_after}
use Rattle.botjournal.proofs.sums.Seal.after.Goals as goal

-- what was hashed, part by part
in_parts : (sum place long bytes : List ℕ) → ((sum ++ place) ++ long) ++ bytes ≡ sum ++ (place ++ (long ++ bytes))
in_parts sum place long bytes = append_assoc (sum ++ place) long bytes ∙ append_assoc sum place (long ++ bytes)

pub returns : goal.returns
unfolding sum_after
returns c =
    let before = c.args.self in
    let bytes = c.args.bytes.now in
    let digest = c.finalize.ensures _ (c.update-4.ensures _ (c.update-3.ensures _ (c.update-2.ensures _ (c.update.ensures [] c.new-hasher.ensures)))) in
    let parts : ((before.sum ++ c.to_be_bytes.result) ++ c.to_be_bytes-2.result) ++ bytes
    ≡ before.sum ++ (to_be_bytes w64 before.place ++ (to_be_bytes w64 (length bytes) ++ bytes)) =
    in_parts before.sum c.to_be_bytes.result c.to_be_bytes-2.result bytes
    ∙ ap (λ (place : List ℕ). before.sum ++ (place ++ (c.to_be_bytes-2.result ++ bytes))) c.to_be_bytes.ensures
    ∙ ap (λ (long : List ℕ). before.sum ++ (to_be_bytes w64 before.place ++ (long ++ bytes))) c.to_be_bytes-2.ensures in
    ap (λ (sum : List ℕ). (let seal : Seal = record { sum = sum; place = (before.place + 1) % 2 ^ 64 } in seal))
    (c.first_bytes.ensures ∙ ap (take 8) (digest ∙ ap sha256 parts))
