-- The first words of commands, as admins spell them.
use Rattle.std.specs.Prelude.{ℕ, List, [], ◌∷◌, Option, find, codes}
use Rattle.std.specs.Str.{bytes_eq}
use Rattle.control.specs.declared.command_word.CommandWord.{CommandWord}
use Rattle.control.specs.declared.command_word.CommandWord.TheVariants.{AddChan, DelChan, AddBan, AddHost, AddUser, Backup, Bind, Bot, Chan, Changes, Compact}
use Rattle.control.specs.declared.command_word.CommandWord.TheVariants.{DelBan, DelHost, DelUser, Die, Global, HandOver, Info, Jump, Reload, Renew, Reopen, Say, Show, Status, Sticky, Trust, Unbind, Unignore}

abbrev pub spelling_of : CommandWord → List ℕ
spelling_of AddChan = codes "+chan"
spelling_of DelChan = codes "-chan"
spelling_of AddBan = codes "addban"
spelling_of AddHost = codes "addhost"
spelling_of AddUser = codes "adduser"
spelling_of Backup = codes "backup"
spelling_of Bind = codes "bind"
spelling_of Bot = codes "bot"
spelling_of Chan = codes "chan"
spelling_of Changes = codes "changes"
spelling_of Compact = codes "compact"
spelling_of DelBan = codes "delban"
spelling_of DelHost = codes "delhost"
spelling_of DelUser = codes "deluser"
spelling_of Die = codes "die"
spelling_of Global = codes "global"
spelling_of HandOver = codes "handover"
spelling_of Info = codes "info"
spelling_of Jump = codes "jump"
spelling_of Reload = codes "reload"
spelling_of Renew = codes "renew"
spelling_of Reopen = codes "reopen"
spelling_of Say = codes "say"
spelling_of Show = codes "show"
spelling_of Status = codes "status"
spelling_of Sticky = codes "sticky"
spelling_of Trust = codes "trust-this-copy"
spelling_of Unbind = codes "unbind"
spelling_of Unignore = codes "unignore"

abbrev pub all_words : List CommandWord
all_words =
    AddChan ∷ DelChan ∷ AddBan ∷ AddHost ∷ AddUser ∷ Backup ∷ Bind ∷ Bot ∷ Chan ∷ Changes ∷ Compact ∷ DelBan ∷ DelHost ∷
    DelUser ∷ Die ∷ Global ∷ HandOver ∷ Info ∷ Jump ∷ Reload ∷ Renew ∷ Reopen ∷ Say ∷
    Show ∷ Status ∷ Sticky ∷ Trust ∷ Unbind ∷ Unignore ∷ []

-- the word with this spelling: no two are spelled alike
abbrev pub word_named : List ℕ → Option CommandWord
word_named spelling = find (λ word. bytes_eq (spelling_of word) spelling) all_words
