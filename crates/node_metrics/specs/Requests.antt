-- Which requests get which answers.
use Rattle.std.specs.Prelude.{◌≡◌, ℕ, ◌⊎◌, ◌==◌, ◌||◌, not, Bool, true, false, if◌then◌else◌, List, take, codes, Option, Some, None}
use Rattle.std.specs.List.{position}
use Rattle.std.specs.Str.{bytes_eq}
use Rattle.httparse.specs.Grammar.{RequestHead, ReadsRequest, HasNoRequest, NeverHasRequest}
use Rattle.httparse.specs.Spans.{RequestOverflows}
use Rattle.node_metrics.specs.declared.page.Page.{Page}
use Rattle.node_metrics.specs.declared.page.Page.TheVariants.{Metrics, Status, Health}
use Rattle.node_metrics.specs.declared.page.Outcome.{Outcome}
use Rattle.node_metrics.specs.declared.page.Outcome.TheVariants as outcomes
use Rattle.node_metrics.specs.declared.page.Answer.{Answer}
use Rattle.node_metrics.specs.declared.request.Heard.{Heard}
use Rattle.node_metrics.specs.declared.request.Heard.TheVariants as heard

-- a question mark, where a query begins
abbrev pub is_query : ℕ → Bool
is_query byte = byte == 63

abbrev pub before : Option ℕ → List ℕ → List ℕ
before None bytes = bytes
before (Some place) bytes = take place bytes

-- what comes before a query
abbrev pub path_of : List ℕ → List ℕ
path_of target = before (position is_query target) target

abbrev pub page_at : List ℕ → Option Page
page_at path =
    if bytes_eq path (codes "/metrics") then Some Metrics
    else if bytes_eq path (codes "/status") then Some Status
    else if bytes_eq path (codes "/healthz") then Some Health
    else None

abbrev pub outcome_of : Option Page → Bool → Outcome
outcome_of None is_read = outcomes.NotFound
outcome_of (Some page) true = outcomes.Page page
outcome_of (Some page) false = outcomes.NotAllowed

abbrev pub answer_to : List ℕ → List ℕ → Answer
answer_to method target = record {
  outcome = outcome_of (page_at (path_of target)) (bytes_eq method (codes "GET") || bytes_eq method (codes "HEAD"));
  has_body = not (bytes_eq method (codes "HEAD"));
}

abbrev pub with_body : Outcome → Answer
with_body outcome = record { outcome = outcome; has_body = true }

-- ---- what bytes ask for

-- the first bytes are a request that is answered so
pub record Asks (bytes : List ℕ) (answer : Answer) : Type 0 where
  pub head : RequestHead
  pub rest : List ℕ
  pub reads : ReadsRequest bytes head rest
  pub answered : answer ≡ answer_to head.method head.target

-- Of bytes within the limit: no request begins with them; or one that does would have more than 64 fields; or they begin with one.
abbrev pub IsAnswerIn : List ℕ → Answer → Type 0
IsAnswerIn bytes answer = ((answer ≡ with_body outcomes.BadRequest) × NeverHasRequest bytes)
    ⊎ ((answer ≡ with_body outcomes.TooLarge) × RequestOverflows 64 bytes)
    ⊎ Asks bytes answer

abbrev pub IsHeardIn : List ℕ → Heard → Type 0
IsHeardIn bytes heard.Unfinished = HasNoRequest bytes
IsHeardIn bytes (heard.Asked answer) = IsAnswerIn bytes answer

-- the answer to a head that has not ended within the limit
abbrev pub unless_too_large : Heard → Heard
unless_too_large heard.Unfinished = heard.Asked (with_body outcomes.TooLarge)
unless_too_large (heard.Asked answer) = heard.Asked answer

-- Of more bytes than the limit: what the first ones ask for, as many as it allows, or that they are too many.
abbrev pub IsHeardBeyond : List ℕ → Heard → Type 0
IsHeardBeyond bytes asked = (within : Heard) × IsHeardIn bytes within × (asked ≡ unless_too_large within)
