-- Who gets a page.
use Rattle.std.proofs.Common.{◌≡◌, ◌≢◌, ◌∙◌, ℕ, Bool, true, false, true≢false, not, if◌then◌else◌, codes, List, map, take, Option, Some, None, MatchOption, IfSome, refl, sym, ap, subst}
use Rattle.httparse.specs.declared.spans.HeaderSpan.{HeaderSpan}
use Rattle.httparse.specs.declared.spans.RequestSpans.{RequestSpans}
use Rattle.httparse.specs.Grammar.{ReadsRequest, RequestHead}
use Rattle.httparse.specs.Spans.{IsRequestAt, IsRequestOf, header_bytes, name_and_value, span_bytes}
use Rattle.httparse.proofs.GrammarLemmas.{request_unique}
use Rattle.page.specs.Requests.{IsAsked, IsWantOf, head_refusal, is_reading, lone, refusal_at, refusal_of, status_of}
use Rattle.page.specs.Sites.{is_allowed, is_ours}
use Rattle.page.specs.declared.request.PageWant.{PageWant}
use Rattle.page.specs.declared.request.PageWant.TheVariants.{Refused}
use Rattle.page.specs.declared.site.PageSite.{PageSite}
use Rattle.page.specs.declared.status.PageStatus.{PageStatus}
use Rattle.page.specs.declared.status.PageStatus.TheVariants.{Fine, BadRequest, NoPassword, NoPage, BadMethod, OtherHost, LongHead, LongPage}

-- ---- a refusal is never 200

abbrev is_fine : PageStatus → Bool
is_fine Fine = true
is_fine BadRequest = false
is_fine NoPassword = false
is_fine NoPage = false
is_fine BadMethod = false
is_fine OtherHost = false
is_fine LongHead = false
is_fine LongPage = false

abbrev is_fine_in : Option PageStatus → Bool
is_fine_in None = false
is_fine_in (Some status) = is_fine status

host_refusal : (ours allowed : Bool)
    → is_fine_in (if not ours then Some OtherHost else if not allowed then Some NoPassword else None) ≡ false
host_refusal true true = refl
host_refusal true false = refl
host_refusal false allowed = refl

at_refusal : (site : PageSite) (host field : Option (List ℕ)) → is_fine_in (refusal_at site host field) ≡ false
at_refusal site None field = refl
at_refusal site (Some host) field = host_refusal (is_ours site host) (is_allowed site field)

method_refusal : (reading : Bool) (site : PageSite) (host field : Option (List ℕ))
    → is_fine_in (if not reading then Some BadMethod else refusal_at site host field) ≡ false
method_refusal true site host field = at_refusal site host field
method_refusal false site host field = refl

no_fine_refusal : (site : PageSite) (method : List ℕ) (fields : List (List ℕ × List ℕ)) → is_fine_in (refusal_of site method fields) ≡ false
no_fine_refusal site method fields =
    method_refusal (is_reading method) site (lone (codes "host") fields) (lone (codes "authorization") fields)

-- a request that gets a page is not refused
fine_asked : (site : PageSite) (method : List ℕ) (fields : List (List ℕ × List ℕ)) (target : List ℕ) (want : PageWant)
    → IsAsked site method fields target want → status_of want ≡ Fine → refusal_of site method fields ≡ None
fine_asked site method fields target want asked fine = by (refusal_of site method fields) refl asked
  where
    by : (refusal : Option PageStatus) → refusal_of site method fields ≡ refusal
        → MatchOption refusal (IsWantOf target want) (λ status. want ≡ Refused status) → refusal_of site method fields ≡ None
    by None e _ = e
    by (Some status) e is =
        absurd (true≢false (ap is_fine (sym (sym (ap status_of is) ∙ fine)) ∙ sym (ap is_fine_in e) ∙ no_fine_refusal site method fields))

-- ---- a head

abbrev is_none_of : Option PageStatus → Bool
is_none_of None = true
is_none_of (Some status) = false

module _ (site : PageSite) (heard : List ℕ) (headers fields : List HeaderSpan) (spans : RequestSpans) (want : PageWant) where
  abbrev Asks : Type 0
  Asks = IsAsked site (span_bytes heard spans.method) (map (header_bytes heard) fields) (span_bytes heard spans.path) want

  abbrev AreTaken : Type 0
  AreTaken = fields ≡ take spans.headers headers

  same_refusal : (head : RequestHead) → IsRequestAt heard headers spans head → AreTaken
      → refusal_of site (span_bytes heard spans.method) (map (header_bytes heard) fields) ≡ head_refusal site head
  same_refusal head at taken =
      ap (λ method. refusal_of site method (map (header_bytes heard) fields)) at.method
      ∙ ap (λ list. refusal_of site head.method list) (ap (map (header_bytes heard)) taken ∙ at.fields)

  pub served_head : IsRequestOf heard headers spans → AreTaken → Asks → status_of want ≡ Fine
      → (head : RequestHead) × (rest : List ℕ) × (ReadsRequest heard head rest × (head_refusal site head ≡ None))
  served_head of taken asks fine =
      (of.0, _, (of.1.reads, sym (same_refusal of.0 of.1 taken) ∙ fine_asked site (span_bytes heard spans.method) (map (header_bytes heard) fields) (span_bytes heard spans.path) want asks fine))

  pub refused_head : (head : RequestHead) → IsRequestAt heard headers spans head → AreTaken → Asks
      → IfSome (head_refusal site head) (λ status. want ≡ Refused status)
  refused_head head at taken asks = by (head_refusal site head)
      (subst (λ refusal. MatchOption refusal (IsWantOf (span_bytes heard spans.path) want) (λ status. want ≡ Refused status)) (same_refusal head at taken) asks)
    where
      by : (refusal : Option PageStatus) → MatchOption refusal (IsWantOf (span_bytes heard spans.path) want) (λ status. want ≡ Refused status)
          → IfSome refusal (λ status. want ≡ Refused status)
      by None _ = tt
      by (Some status) is = is

  -- a method that does not only read gets no page
  pub reads_head : IsRequestOf heard headers spans → AreTaken → Asks
      → (head : RequestHead) (rest : List ℕ) → ReadsRequest heard head rest → is_reading head.method ≡ false → status_of want ≢ Fine
  reads_head of taken asks head rest reads other fine = none (is_reading head.method) other is_none
    where
      same : of.0 ≡ head
      same = (request_unique heard of.0 head _ rest of.1.reads reads).0

      is_none : head_refusal site head ≡ None
      is_none = subst (λ h. head_refusal site h ≡ None) same (sym (same_refusal of.0 of.1 taken) ∙ fine_asked site (span_bytes heard spans.method) (map (header_bytes heard) fields) (span_bytes heard spans.path) want asks fine)

      none : (reading : Bool) → reading ≡ false
          → (if not reading then Some BadMethod else refusal_at site (lone (codes "host") (map name_and_value head.fields)) (lone (codes "authorization") (map name_and_value head.fields))) ≡ None
          → ⊥
      none true e is = true≢false e
      none false e is = true≢false (ap is_none_of (sym is))
