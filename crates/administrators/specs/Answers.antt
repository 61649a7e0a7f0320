-- The lines that answer an admin.
use Rattle.std.specs.Prelude.{◌≡◌, ℕ, List, ◌++◌, Option, None, codes, decimal}
use Rattle.net.specs.Logs.{Says}
use Rattle.sharelink.specs.Codes.{link_code}
use Rattle.userfile.specs.Codes.{fault_code}
use Rattle.administrators.specs.declared.change_outcome.ChangeOutcome.{ChangeOutcome}
use Rattle.administrators.specs.declared.change_outcome.ChangeOutcome.TheVariants.{Nothing, Accepted, Refused, Barred}

-- what was done, and its number
abbrev pub numbered_line : List ℕ → ℕ → List ℕ
numbered_line word number = word ++ (codes " " ++ (decimal number ++ codes "\n"))

-- what is wrong with a command, in these words
abbrev pub fault_line : List ℕ → List ℕ
fault_line words = codes "fault " ++ (words ++ codes "\n")

-- why something is refused, by its code and in these words
abbrev pub refused_line : List ℕ → List ℕ → List ℕ
refused_line code words = codes "refused " ++ (code ++ (codes " " ++ (words ++ codes "\n")))

pub record IsFault (shown : Option (List ℕ)) (answer : List ℕ) : Type 0 where
  pub words : List ℕ
  pub says : Says shown words
  pub is : answer ≡ fault_line words

pub record IsRefusal (code : List ℕ) (shown : Option (List ℕ)) (answer : List ℕ) : Type 0 where
  pub words : List ℕ
  pub says : Says shown words
  pub is : answer ≡ refused_line code words

-- what became of a change
abbrev pub AnswersOutcome : ChangeOutcome → List ℕ → Type 0
AnswersOutcome Nothing answer = answer ≡ codes "queued\n"
AnswersOutcome (Accepted number) answer = answer ≡ numbered_line (codes "accepted") number
AnswersOutcome (Refused fault) answer = IsRefusal (fault_code fault) None answer
AnswersOutcome (Barred fault) answer = IsRefusal (link_code fault) None answer
