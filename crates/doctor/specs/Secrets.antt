-- Which bot can use which secret.
use Rattle.std.specs.Prelude.{ℕ, ◌==◌, Result, Ok, Err, if◌then◌else◌}
use Rattle.handshake.specs.declared.secret.Secret.{Secret}
use Rattle.handshake.specs.declared.secret.Secret.TheVariants.{Net, Leaf}
use Rattle.handshake.specs.declared.secret.SecretFault.{SecretFault}
use Rattle.handshake.specs.declared.secret.SecretFault.TheVariants.{LeafKey, OtherLeaf}
use Rattle.doctor.specs.declared.verdict.Verdict.{Verdict}
use Rattle.doctor.specs.declared.verdict.Verdict.TheVariants.{Fine, Note, Bad}
use Rattle.doctor.specs.declared.verdict.Fine.TheVariants as Fine
use Rattle.doctor.specs.declared.verdict.Note.TheVariants as Note
use Rattle.doctor.specs.declared.verdict.Bad.TheVariants as Bad

-- the hub needs the net's secret; a leaf needs its own key, and the net's secret serves it too
abbrev pub verdict_of_secret : ℕ → Result Secret SecretFault → Verdict
verdict_of_secret number (Err fault) = Bad (Bad.Secret fault)
verdict_of_secret number (Ok (Net key)) = if number == 0 then Fine Fine.Secret else Note (Note.NetsSecret number)
verdict_of_secret number (Ok (Leaf leaf key)) =
    if number == 0 then Bad (Bad.Secret LeafKey)
    else if leaf == number then Fine Fine.Secret
    else Bad (Bad.Secret OtherLeaf)
