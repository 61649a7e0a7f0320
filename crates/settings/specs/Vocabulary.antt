-- The first words of lines, as files spell them.
use Rattle.std.specs.Prelude.{ℕ, List, [], ◌∷◌, Option, find, codes}
use Rattle.std.specs.Str.{bytes_eq}
use Rattle.settings.specs.declared.setting_word.SettingWord.{SettingWord}
use Rattle.settings.specs.declared.setting_word.SettingWord.TheVariants.{Account, Bind, Bot, Channel, Data, Exclusive, Hub, Leaf, Listen, Log, Nick}
use Rattle.settings.specs.declared.setting_word.SettingWord.TheVariants.{Page, Perform, Secret, Server, Zone, IgnoreTime}
use Rattle.settings.specs.declared.setting_word.SettingWord.TheVariants.{FloodChan, FloodCtcp, FloodDeop, FloodJoin, FloodKick, FloodMsg, FloodNick}

abbrev pub spelling_of : SettingWord → List ℕ
spelling_of Account = codes "account"
spelling_of Bind = codes "bind"
spelling_of Bot = codes "bot"
spelling_of Channel = codes "channel"
spelling_of Data = codes "data"
spelling_of Exclusive = codes "exclusive"
spelling_of FloodChan = codes "flood-chan"
spelling_of FloodCtcp = codes "flood-ctcp"
spelling_of FloodDeop = codes "flood-deop"
spelling_of FloodJoin = codes "flood-join"
spelling_of FloodKick = codes "flood-kick"
spelling_of FloodMsg = codes "flood-msg"
spelling_of FloodNick = codes "flood-nick"
spelling_of Hub = codes "hub"
spelling_of IgnoreTime = codes "ignore-time"
spelling_of Leaf = codes "leaf"
spelling_of Listen = codes "listen"
spelling_of Log = codes "log"
spelling_of Nick = codes "nick"
spelling_of Page = codes "page"
spelling_of Perform = codes "perform"
spelling_of Secret = codes "secret"
spelling_of Server = codes "server"
spelling_of Zone = codes "zone"

abbrev pub all_words : List SettingWord
all_words =
    Account ∷ Bind ∷ Bot ∷ Channel ∷ Data ∷ Exclusive ∷ FloodChan ∷ FloodCtcp ∷ FloodDeop ∷ FloodJoin ∷ FloodKick ∷ FloodMsg
    ∷ FloodNick ∷ Hub ∷ IgnoreTime ∷ Leaf ∷ Listen ∷ Log ∷ Nick ∷ Page ∷ Perform ∷ Secret ∷ Server ∷ Zone ∷ []

-- the word with this spelling: no two are spelled alike
abbrev pub word_named : List ℕ → Option SettingWord
word_named spelling = find (λ word. bytes_eq (spelling_of word) spelling) all_words
