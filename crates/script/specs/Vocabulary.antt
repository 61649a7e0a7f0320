-- The first words of lines, and the names of changes, as scripts spell them.
use Rattle.std.specs.Prelude.{ℕ, List, [], ◌∷◌, Option, find, codes}
use Rattle.std.specs.Str.{bytes_eq}
use Rattle.script.specs.declared.verb.Verb.{Verb}
use Rattle.script.specs.declared.verb.Verb.TheVariants.{Leaves, Ask, Pump, Compact, Restart, Connect, Line, Clock, Bind, Unbind, Deliver, Show, Zone}
use Rattle.script.specs.declared.change_word.ChangeWord.{ChangeWord}
use Rattle.script.specs.declared.change_word.ChangeWord.TheVariants.{AddUser, DelUser, AddHost, DelHost, DelBan, Global, Bot, Chan, AddBan, Info, Sticky}

abbrev pub spelling_of : Verb → List ℕ
spelling_of Leaves = codes "leaves"
spelling_of Ask = codes "ask"
spelling_of Pump = codes "pump"
spelling_of Compact = codes "compact"
spelling_of Restart = codes "restart"
spelling_of Connect = codes "connect"
spelling_of Line = codes "line"
spelling_of Clock = codes "clock"
spelling_of Bind = codes "bind"
spelling_of Unbind = codes "unbind"
spelling_of Deliver = codes "deliver"
spelling_of Show = codes "show"
spelling_of Zone = codes "zone"

abbrev pub all_verbs : List Verb
all_verbs =
    Leaves ∷ Ask ∷ Pump ∷ Compact ∷ Restart ∷ Connect ∷ Line ∷ Clock ∷ Bind ∷ Unbind ∷ Deliver ∷ Show ∷ Zone ∷ []

-- the verb that is spelled like this: no two verbs have one spelling
abbrev pub verb_named : List ℕ → Option Verb
verb_named spelling = find (λ verb. bytes_eq spelling (spelling_of verb)) all_verbs

abbrev pub change_spelling : ChangeWord → List ℕ
change_spelling AddUser = codes "adduser"
change_spelling DelUser = codes "deluser"
change_spelling AddHost = codes "addhost"
change_spelling DelHost = codes "delhost"
change_spelling DelBan = codes "delban"
change_spelling Global = codes "global"
change_spelling Bot = codes "bot"
change_spelling Chan = codes "chan"
change_spelling AddBan = codes "addban"
change_spelling Info = codes "info"
change_spelling Sticky = codes "sticky"

abbrev pub all_changes : List ChangeWord
all_changes = AddUser ∷ DelUser ∷ AddHost ∷ DelHost ∷ DelBan ∷ Global ∷ Bot ∷ Chan ∷ AddBan ∷ Info ∷ Sticky ∷ []

abbrev pub change_word_named : List ℕ → Option ChangeWord
change_word_named spelling = find (λ word. bytes_eq spelling (change_spelling word)) all_changes
