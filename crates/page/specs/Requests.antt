-- What a request asks for, and which status its answer has.
use Rattle.std.specs.Prelude.{◌≡◌, ◌⊎◌, ℕ, Bool, true, false, ◌||◌, not, List, [], ◌∷◌, map, Option, None, Some, MatchOption, if◌then◌else◌, codes}
use Rattle.std.specs.Str.{bytes_eq, str_eq_ignore_ascii_case}
use Rattle.http_uri.specs.Uri.{Spells, uri_path}
use Rattle.http_uri.specs.declared.uri.Uri.{Uri as Target}
use Rattle.httparse.specs.Grammar.{RequestHead}
use Rattle.httparse.specs.Spans.{name_and_value}
use Rattle.page.specs.Sites.{is_allowed, is_ours}
use Rattle.page.specs.declared.request.PagePath.{PagePath}
use Rattle.page.specs.declared.request.PagePath.TheVariants.{Net as NetPath, Records as RecordsPath, Log as LogPath, Metrics as MetricsPath, Style as StylePath}
use Rattle.page.specs.declared.request.PageWant.{PageWant}
use Rattle.page.specs.declared.request.PageWant.TheVariants.{Net, Records, Log, Metrics, Style, Refused}
use Rattle.page.specs.declared.site.PageSite.{PageSite}
use Rattle.page.specs.declared.status.PageStatus.{PageStatus}
use Rattle.page.specs.declared.status.PageStatus.TheVariants.{Fine, BadRequest, NoPassword, NoPage, BadMethod, OtherHost}

-- ---- what a head says

-- the method of a request that only reads
abbrev pub is_reading : List ℕ → Bool
is_reading method = bytes_eq method (codes "GET") || bytes_eq method (codes "HEAD")

-- there is a field of this name, whose case means nothing
abbrev pub is_said : List ℕ → List (List ℕ × List ℕ) → Bool
is_said name [] = false
is_said name (field ∷ fields) = if str_eq_ignore_ascii_case field.0 name then true else is_said name fields

-- the value of the only field of a name, if there is just one
abbrev pub lone : List ℕ → List (List ℕ × List ℕ) → Option (List ℕ)
lone name [] = None
lone name (field ∷ fields) =
    if str_eq_ignore_ascii_case field.0 name then (if is_said name fields then None else Some field.1) else lone name fields

-- ---- why a request is refused

abbrev pub refusal_at : PageSite → Option (List ℕ) → Option (List ℕ) → Option PageStatus
refusal_at site None field = Some BadRequest
refusal_at site (Some host) field =
    if not (is_ours site host) then Some OtherHost else if not (is_allowed site field) then Some NoPassword else None

-- why a request of this method and these fields is refused, whatever it asks for
abbrev pub refusal_of : PageSite → List ℕ → List (List ℕ × List ℕ) → Option PageStatus
refusal_of site method fields =
    if not (is_reading method) then Some BadMethod
    else refusal_at site (lone (codes "host") fields) (lone (codes "authorization") fields)

abbrev pub head_refusal : PageSite → RequestHead → Option PageStatus
head_refusal site head = refusal_of site head.method (map name_and_value head.fields)

-- ---- what it asks for

-- the page at a path
abbrev pub path_of : List ℕ → Option PagePath
path_of path =
    if bytes_eq path (codes "/") then Some NetPath else if bytes_eq path (codes "/records") then Some RecordsPath
    else if bytes_eq path (codes "/log") then Some LogPath else if bytes_eq path (codes "/metrics") then Some MetricsPath
    else if bytes_eq path (codes "/style.css") then Some StylePath else None

-- the path of the page that is to be shown
abbrev pub path_in : PageWant → Option PagePath
path_in (Net from) = Some NetPath
path_in (Records from who) = Some RecordsPath
path_in Log = Some LogPath
path_in Metrics = Some MetricsPath
path_in Style = Some StylePath
path_in (Refused status) = None

abbrev pub status_of : PageWant → PageStatus
status_of (Refused status) = status
status_of (Net from) = Fine
status_of (Records from who) = Fine
status_of Log = Fine
status_of Metrics = Fine
status_of Style = Fine

-- what the path of a target asks for: the page there, or 404 if there is none, or 400 if the query is bad
abbrev pub IsWantAt : List ℕ → PageWant → Type 0
IsWantAt path want =
    (want ≡ Refused BadRequest)
    ⊎ MatchOption (path_of path) (want ≡ Refused NoPage) (λ page. path_in want ≡ Some page)

-- what a target asks for: 400 if it is no URI
abbrev pub IsWantOf : List ℕ → PageWant → Type 0
IsWantOf target want =
    (want ≡ Refused BadRequest)
    ⊎ ((uri : Target) × (Spells target uri × IsWantAt (uri_path uri) want))

-- ---- what it gets

-- what a request of this method, these fields and this target asks for, unless it is refused
abbrev pub IsAsked : PageSite → List ℕ → List (List ℕ × List ℕ) → List ℕ → PageWant → Type 0
IsAsked site method fields target want =
    MatchOption (refusal_of site method fields) (IsWantOf target want) (λ status. want ≡ Refused status)
