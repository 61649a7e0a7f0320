-- Lines for the server (RFC 2812 sections 3.2, 3.3 and 3.6.1), without their CR LF.
use Rattle.std.specs.Prelude.{ℕ, List, ◌++◌, codes}

-- PRIVMSG TARGET :TEXT
abbrev pub privmsg : List ℕ → List ℕ → List ℕ
privmsg target text = codes "PRIVMSG " ++ target ++ codes " :" ++ text

-- NOTICE TARGET :TEXT
abbrev pub notice : List ℕ → List ℕ → List ℕ
notice target text = codes "NOTICE " ++ target ++ codes " :" ++ text

-- TOPIC CHANNEL :TEXT
abbrev pub topic : List ℕ → List ℕ → List ℕ
topic channel text = codes "TOPIC " ++ channel ++ codes " :" ++ text

-- INVITE NICK CHANNEL
abbrev pub invite : List ℕ → List ℕ → List ℕ
invite nick channel = codes "INVITE " ++ nick ++ codes " " ++ channel

-- MODE CHANNEL CHANGE TARGET
abbrev pub mode : List ℕ → List ℕ → List ℕ → List ℕ
mode channel change target = codes "MODE " ++ channel ++ codes " " ++ change ++ codes " " ++ target

-- MODE CHANNEL CHANGE
abbrev pub plain_mode : List ℕ → List ℕ → List ℕ
plain_mode channel change = codes "MODE " ++ channel ++ codes " " ++ change

-- KICK CHANNEL NICK :REASON
abbrev pub kick : List ℕ → List ℕ → List ℕ → List ℕ
kick channel nick reason = codes "KICK " ++ channel ++ codes " " ++ nick ++ codes " :" ++ reason

-- PART CHANNEL
abbrev pub part : List ℕ → List ℕ
part channel = codes "PART " ++ channel

-- JOIN CHANNEL
abbrev pub join : List ℕ → List ℕ
join channel = codes "JOIN " ++ channel

-- WHO CHANNEL
abbrev pub who : List ℕ → List ℕ
who channel = codes "WHO " ++ channel
