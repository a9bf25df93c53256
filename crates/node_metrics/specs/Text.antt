-- A report in the text form of Prometheus, version 0.0.4.
use Rattle.std.specs.Prelude.{ℕ, List, [], ◌∷◌, ◌++◌, ◌/◌, ◌%◌, codes, decimal, flat_map}
use Rattle.protocol.specs.declared.types.Step.{Step}
use Rattle.protocol.specs.declared.types.Step.TheVariants.{Propose, Prevote, Precommit}
use Rattle.node_meters.specs.declared.sample.Sample.{Sample}
use Rattle.node_meters.specs.declared.sample.Links.{Links}
use Rattle.node_meters.specs.declared.sample.Traffic.{Traffic}
use Rattle.node_meters.specs.declared.sample.Syncs.{Syncs}
use Rattle.node_meters.specs.declared.sample.Refused.{Refused}
use Rattle.node_metrics.specs.declared.report.Report.{Report}
use Rattle.node_metrics.specs.declared.metric.Metric.{Metric}
use Rattle.node_metrics.specs.declared.metric.Metric.TheVariants as of
use Rattle.node_metrics.specs.Metrics.{name_of, head_text}

-- a metric with its only reading
unfoldable pub reading_text : Metric → ℕ → List ℕ
reading_text metric value = head_text metric ++ codes "pomtsjef_" ++ name_of metric ++ 32 ∷ decimal value ++ 10 ∷ []

-- milliseconds as seconds
unfoldable pub seconds_text : ℕ → List ℕ
seconds_text ms = decimal (ms / 1000) ++ codes "." ++ decimal (ms / 100 % 10) ++ decimal (ms / 10 % 10) ++ decimal (ms % 10)

unfoldable pub timed_text : Metric → ℕ → List ℕ
timed_text metric ms = head_text metric ++ codes "pomtsjef_" ++ name_of metric ++ 32 ∷ seconds_text ms ++ 10 ∷ []

-- a reading of a metric with one label
unfoldable pub labelled_text : Metric → List ℕ → List ℕ → ℕ → List ℕ
labelled_text metric label word value = codes "pomtsjef_" ++ name_of metric ++ codes "{" ++ label ++ codes "=\"" ++ word ++ codes "\"} " ++ decimal value ++ 10 ∷ []

-- ---- the parts of a report

unfoldable pub progress_text : Report → List ℕ
progress_text r = head_text of.BuildInfo ++ labelled_text of.BuildInfo (codes "version") r.version.now 1
    ++ reading_text of.Height r.height ++ reading_text of.Delivered r.delivered ++ timed_text of.Undecided r.undecided

unfoldable pub is_at : Step → Step → ℕ
is_at Propose Propose = 1
is_at Prevote Prevote = 1
is_at Precommit Precommit = 1
is_at other step = 0

unfoldable pub steps_text : Step → List ℕ
steps_text step = head_text of.Step
    ++ labelled_text of.Step (codes "step") (codes "propose") (is_at Propose step)
    ++ labelled_text of.Step (codes "step") (codes "prevote") (is_at Prevote step)
    ++ labelled_text of.Step (codes "step") (codes "precommit") (is_at Precommit step)

unfoldable pub round_text : Sample → List ℕ
round_text s = reading_text of.Round s.round ++ steps_text s.step ++ reading_text of.Queued s.queued ++ reading_text of.Kept s.kept

unfoldable pub links_text : Links → List ℕ
links_text links = head_text of.Links
    ++ labelled_text of.Links (codes "kind") (codes "validator") links.validators
    ++ labelled_text of.Links (codes "kind") (codes "client") links.clients
    ++ labelled_text of.Links (codes "kind") (codes "stranger") links.strangers

unfoldable pub traffic_text : Traffic → List ℕ
traffic_text t = reading_text of.ReceivedFrames t.frames_received ++ reading_text of.ReceivedBytes t.bytes_received
    ++ reading_text of.SentFrames t.frames_sent ++ reading_text of.SentBytes t.bytes_sent ++ reading_text of.DroppedFrames t.frames_dropped

unfoldable pub journal_text : Syncs → ℕ → List ℕ
journal_text syncs timeouts = reading_text of.Syncs syncs.count ++ timed_text of.SyncSeconds (syncs.nanoseconds / 1000000) ++ reading_text of.Timeouts timeouts

unfoldable pub refusal_text : Refused → List ℕ
refusal_text refused = codes "pomtsjef_" ++ name_of of.Refusals ++ codes "{number=\"" ++ decimal refused.number ++ codes "\"} " ++ decimal refused.count ++ 10 ∷ []

unfoldable pub refusals_text : List Refused → List ℕ
refusals_text refusals = head_text of.Refusals ++ flat_map refusal_text refusals

unfoldable pub metrics_text : Report → List ℕ
metrics_text r = progress_text r ++ round_text r.sample ++ links_text r.sample.links ++ traffic_text r.sample.traffic
    ++ journal_text r.sample.syncs r.sample.timeouts ++ refusals_text r.sample.refusals
