-- What a running bot can't change when its configuration is read again.
use Rattle.std.specs.Prelude.{ℕ, ◌==◌, ◌&&◌, not, Bool, true, false, List, Option, None, Some, if◌then◌else◌}
use Rattle.std.specs.List.{list_all, list_any}
use Rattle.std.specs.Str.{bytes_eq}
use Rattle.settings.specs.Drafts.{is_limited}
use Rattle.settings.specs.declared.setting_word.SettingWord.{SettingWord}
use Rattle.settings.specs.declared.setting_word.SettingWord.TheVariants.{Bot, Data, Exclusive, Hub, Leaf, Listen, Page, Secret}
use Rattle.settings.specs.declared.settings.Address.{Address}
use Rattle.settings.specs.declared.settings.LeafLine.{LeafLine}
use Rattle.settings.specs.declared.settings.PageSetting.{PageSetting}
use Rattle.settings.specs.declared.settings.Settings.{Settings}
use Rattle.settings.specs.declared.settings.Station.{Station}

abbrev pub same_flag : Bool → Bool → Bool
same_flag true new = new
same_flag false new = not new

abbrev pub same_text : Option (List ℕ) → Option (List ℕ) → Bool
same_text None None = true
same_text None (Some new) = false
same_text (Some old) None = false
same_text (Some old) (Some new) = bytes_eq old new

abbrev pub same_station : Station → Station → Bool
same_station old new = old.number == new.number && old.leaves == new.leaves

abbrev pub is_at : Address → Address → Bool
is_at old new = old.port == new.port && (same_flag old.tls new.tls && bytes_eq old.host new.host)

abbrev pub same_address : Option Address → Option Address → Bool
same_address None None = true
same_address None (Some new) = false
same_address (Some old) None = false
same_address (Some old) (Some new) = is_at old new

-- each hub of the one list is in the other
abbrev pub is_hub_in : Address → List Address → Bool
is_hub_in hub others = list_any (λ other. is_at hub other) others

abbrev pub are_hubs_in : List Address → List Address → Bool
are_hubs_in hubs others = list_all (λ hub. is_hub_in hub others) hubs

abbrev pub same_hubs : List Address → List Address → Bool
same_hubs old new = are_hubs_in old new && are_hubs_in new old

-- each leaf of the one list is in the other, and may do the same
abbrev pub are_said_in : List LeafLine → List LeafLine → Bool
are_said_in lines others = list_all (λ line. is_limited line.leaf line.rule others) lines

abbrev pub same_leaves : List LeafLine → List LeafLine → Bool
same_leaves old new = are_said_in old new && are_said_in new old

abbrev pub same_page : Option PageSetting → Option PageSetting → Bool
same_page None None = true
same_page None (Some new) = false
same_page (Some old) None = false
same_page (Some old) (Some new) = is_at old.address new.address && same_text old.password new.password

-- the first of these words whose lines differ
abbrev pub changed_word : Settings → Settings → Option SettingWord
changed_word old new =
    if not (bytes_eq old.folder new.folder) then Some Data
    else if not (same_station old.station new.station) then Some Bot
    else if not (same_hubs old.hubs new.hubs) then Some Hub
    else if not (same_address old.listen new.listen) then Some Listen
    else if not (same_leaves old.limits new.limits) then Some Leaf
    else if not (same_text old.secret new.secret) then Some Secret
    else if not (same_flag old.exclusive new.exclusive) then Some Exclusive
    else if not (same_page old.page new.page) then Some Page
    else None
