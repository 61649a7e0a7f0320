-- The status of an answer (RFC 9110 section 15, RFC 6585 section 5).
use Rattle.std.specs.Prelude.{ℕ, List, codes}
use Rattle.page.specs.declared.status.PageStatus.{PageStatus}
use Rattle.page.specs.declared.status.PageStatus.TheVariants.{Fine, BadRequest, NoPassword, NoPage, BadMethod, OtherHost, LongHead, LongPage}

abbrev pub code : PageStatus → ℕ
code Fine = 200
code BadRequest = 400
code NoPassword = 401
code NoPage = 404
code BadMethod = 405
code OtherHost = 421
code LongHead = 431
code LongPage = 500

-- the first line of an answer, without its CR LF
abbrev pub status_line : PageStatus → List ℕ
status_line Fine = codes "HTTP/1.1 200 OK"
status_line BadRequest = codes "HTTP/1.1 400 Bad Request"
status_line NoPassword = codes "HTTP/1.1 401 Unauthorized"
status_line NoPage = codes "HTTP/1.1 404 Not Found"
status_line BadMethod = codes "HTTP/1.1 405 Method Not Allowed"
status_line OtherHost = codes "HTTP/1.1 421 Misdirected Request"
status_line LongHead = codes "HTTP/1.1 431 Request Header Fields Too Large"
status_line LongPage = codes "HTTP/1.1 500 Internal Server Error"
