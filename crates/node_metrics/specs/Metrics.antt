-- The metrics that are reported.
use Rattle.std.specs.Prelude.{ℕ, List, [], ◌∷◌, ◌++◌, codes}
use Rattle.node_metrics.specs.declared.metric.Metric.{Metric}
use Rattle.node_metrics.specs.declared.metric.Metric.TheVariants.{BuildInfo, Height, Delivered, Undecided, Round, Step, Queued, Kept, Links, ReceivedFrames, ReceivedBytes, SentFrames, SentBytes, DroppedFrames, Syncs, SyncSeconds, Timeouts, Refusals}

abbrev pub name_of : Metric → List ℕ
name_of BuildInfo = codes "build_info"
name_of Height = codes "height"
name_of Delivered = codes "delivered_items_total"
name_of Undecided = codes "undecided_seconds"
name_of Round = codes "round"
name_of Step = codes "step"
name_of Queued = codes "queued_transactions"
name_of Kept = codes "kept_frames"
name_of Links = codes "links"
name_of ReceivedFrames = codes "received_frames_total"
name_of ReceivedBytes = codes "received_bytes_total"
name_of SentFrames = codes "sent_frames_total"
name_of SentBytes = codes "sent_bytes_total"
name_of DroppedFrames = codes "dropped_frames_total"
name_of Syncs = codes "journal_syncs_total"
name_of SyncSeconds = codes "journal_sync_seconds_total"
name_of Timeouts = codes "fired_timeouts_total"
name_of Refusals = codes "refusals_total"

abbrev pub help_of : Metric → List ℕ
help_of BuildInfo = codes "The version of the program."
help_of Height = codes "The height that is being decided."
help_of Delivered = codes "Delivered items, of earlier runs too."
help_of Undecided = codes "Seconds since the height began."
help_of Round = codes "The round of the height."
help_of Step = codes "1 for the step of the round."
help_of Queued = codes "Transactions that wait to be proposed."
help_of Kept = codes "Frames of the height that are kept."
help_of Links = codes "Links, by who is behind them."
help_of ReceivedFrames = codes "Whole frames that came."
help_of ReceivedBytes = codes "Bytes that came."
help_of SentFrames = codes "Frames taken from queues to be written."
help_of SentBytes = codes "Bytes that links took."
help_of DroppedFrames = codes "Frames that a queue had no room for."
help_of Syncs = codes "Syncs of the journal."
help_of SyncSeconds = codes "Seconds that these took."
help_of Timeouts = codes "Timeouts that the node took."
help_of Refusals = codes "Refused calls of the node."

abbrev pub kind_of : Metric → List ℕ
kind_of Delivered = codes "counter"
kind_of ReceivedFrames = codes "counter"
kind_of ReceivedBytes = codes "counter"
kind_of SentFrames = codes "counter"
kind_of SentBytes = codes "counter"
kind_of DroppedFrames = codes "counter"
kind_of Syncs = codes "counter"
kind_of SyncSeconds = codes "counter"
kind_of Timeouts = codes "counter"
kind_of Refusals = codes "counter"
kind_of other = codes "gauge"

-- the two lines before the readings of a metric
unfoldable pub head_text : Metric → List ℕ
head_text metric = codes "# HELP pomtsjef_" ++ name_of metric ++ 32 ∷ help_of metric ++ 10 ∷ codes "# TYPE pomtsjef_" ++ name_of metric ++ 32 ∷ kind_of metric ++ 10 ∷ []
