-- What an answer is as bytes: a response of HTTP/1.1, after which the connection is closed.
use Rattle.std.specs.Prelude.{ℕ, List, [], ◌∷◌, ◌++◌, codes, decimal, length, if◌then◌else◌}
use Rattle.node_metrics.specs.declared.page.Page.{Page}
use Rattle.node_metrics.specs.declared.page.Page.TheVariants.{Metrics, Status, Health}
use Rattle.node_metrics.specs.declared.page.Outcome.{Outcome}
use Rattle.node_metrics.specs.declared.page.Outcome.TheVariants.{BadRequest, NotFound, NotAllowed, TooLarge}
use Rattle.node_metrics.specs.declared.page.Outcome.TheVariants as outcomes
use Rattle.node_metrics.specs.declared.page.Answer.{Answer}
use Rattle.node_metrics.specs.declared.report.Report.{Report}
use Rattle.node_metrics.specs.Text.{metrics_text}
use Rattle.node_metrics.specs.Json.{status_json}

abbrev pub code_of : Outcome → ℕ
code_of (outcomes.Page page) = 200
code_of BadRequest = 400
code_of NotFound = 404
code_of NotAllowed = 405
code_of TooLarge = 431

abbrev pub reason_of : Outcome → List ℕ
reason_of (outcomes.Page page) = codes "OK"
reason_of BadRequest = codes "Bad Request"
reason_of NotFound = codes "Not Found"
reason_of NotAllowed = codes "Method Not Allowed"
reason_of TooLarge = codes "Request Header Fields Too Large"

-- the media type of a body
abbrev pub type_of : Outcome → List ℕ
type_of (outcomes.Page Metrics) = codes "text/plain; version=0.0.4; charset=utf-8"
type_of (outcomes.Page Status) = codes "application/json"
type_of other = codes "text/plain; charset=utf-8"

abbrev pub line_end : List ℕ
line_end = 13 ∷ 10 ∷ []

-- which methods there are, where another one was asked
abbrev pub allowed_line : Outcome → List ℕ
allowed_line NotAllowed = codes "Allow: GET, HEAD" ++ line_end
allowed_line other = []

-- what is sent of a body
abbrev pub part_of : Answer → List ℕ → List ℕ
part_of answer body = if answer.has_body then body else []

unfoldable pub status_line : Outcome → List ℕ
status_line outcome = codes "HTTP/1.1 " ++ decimal (code_of outcome) ++ 32 ∷ reason_of outcome ++ line_end

unfoldable pub content_lines : Outcome → ℕ → List ℕ
content_lines outcome len = codes "Content-Type: " ++ type_of outcome ++ line_end ++ codes "Content-Length: " ++ decimal len ++ line_end

unfoldable pub last_lines : List ℕ
last_lines = codes "Connection: close" ++ line_end ++ line_end

unfoldable pub response_text : Answer → List ℕ → List ℕ
response_text answer body = status_line answer.outcome ++ content_lines answer.outcome (length body) ++ allowed_line answer.outcome
    ++ last_lines ++ part_of answer body

abbrev pub page_text : Page → Report → List ℕ
page_text Metrics report = metrics_text report
page_text Status report = status_json report
page_text Health report = codes "ok" ++ 10 ∷ []

abbrev pub body_of : Outcome → Report → List ℕ
body_of (outcomes.Page page) report = page_text page report
body_of outcome report = reason_of outcome ++ 10 ∷ []

abbrev pub response_for : Answer → Report → List ℕ
response_for answer report = response_text answer (body_of answer.outcome report)
