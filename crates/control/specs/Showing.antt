-- What is shown of a bot that does not run: what its journal means, whatever its layout.
use Rattle.std.specs.Prelude.{◌≡◌, ℕ, List, Some}
use Rattle.botjournal.specs.Contents.{Contents, meaning}
use Rattle.sharelink.specs.declared.TheConstants.{MAX_LEAVES}
use Rattle.protocol.specs.Ends.{End, end_version, end_records}
use Rattle.sharelink.specs.BotLinks.{end_meaning}
use Rattle.recordtext.specs.Text.{shown_text}

-- the text has the version and the records of the bot whose journal these bytes of two disks are
pub record IsShown (first second text : List ℕ) : Type 0 where
  pub number : ℕ
  pub contents : Contents
  pub bot : End
  pub found : meaning first second ≡ Some contents
  pub means : end_meaning number MAX_LEAVES contents ≡ Some bot
  pub shown : text ≡ shown_text number (Some (end_version bot)) (Some (end_records bot))
