-- What a restart finds in a journal, and what disks mean that are handed back.
use Rattle.std.proofs.Common.{◌≡◌, ◌⊎◌, ℕ, List, Option, None, Some, sym, ap, ◌∙◌, inl, inr}
use Rattle.botjournal.specs.declared.found.Found.{Found}
use Rattle.botjournal.specs.Contents.{Contents, meaning}
use Rattle.botjournal.specs.Journal.{IsEither}
use Rattle.botjournal.specs.Ledger.{Account, IsFound, settled, written_if, counted}
use Rattle.sharelink.specs.States.{contents_in}

-- in a journal of which nothing is in doubt, what would count is what is there
pub certain-counted : (account : Account) → account.doubt ≡ None → counted account ≡ account.contents
certain-counted account certain = ap (λ d. written_if d account.contents) certain

-- what is found is what the journal then holds
pub found-is : (contents : Contents) (generation : ℕ) (found : Found) → generation ≡ contents.generation → IsFound found contents
    → contents_in contents.layout generation found ≡ contents
found-is contents generation found at is =
    ap (λ n. (let c : Contents = record { layout = contents.layout; generation = n; base = found.base; entries = found.entries } in c)) at
    ∙ ap (λ b. (let c : Contents = record { layout = contents.layout; generation = contents.generation; base = b; entries = found.entries } in c)) is.0
    ∙ ap (λ l. (let c : Contents = record { layout = contents.layout; generation = contents.generation; base = contents.base; entries = l } in c)) is.1

-- disks that were taken out of a journal at rest mean what they meant
pub rested-mean : (account : Account) (before : Option Contents) (x y : List ℕ) → account ≡ settled account.contents
    → before ≡ Some account.contents → IsEither (Some account.contents) (Some (counted account)) x y → meaning x y ≡ before
rested-mean account before x y rests was either = by either.means ∙ sym was
  where
    by : (meaning x y ≡ Some account.contents) ⊎ (meaning x y ≡ Some (counted account)) → meaning x y ≡ Some account.contents
    by (inl e) = e
    by (inr e) = e ∙ ap (λ (a : Account). Some (counted a)) rests
