-- A report as JSON (RFC 8259).
use Rattle.std.specs.Prelude.{ℕ, List, ◌∷◌, ◌++◌, codes, decimal}
use Rattle.protocol.specs.declared.types.Step.{Step}
use Rattle.protocol.specs.declared.types.Step.TheVariants.{Propose, Prevote, Precommit}
use Rattle.node_meters.specs.declared.sample.Sample.{Sample}
use Rattle.node_meters.specs.declared.sample.Links.{Links}
use Rattle.node_metrics.specs.declared.report.Report.{Report}
use Rattle.node_metrics.specs.Text.{seconds_text}

unfoldable pub number_field : List ℕ → ℕ → List ℕ
number_field name value = 34 ∷ name ++ codes "\":" ++ decimal value

unfoldable pub word_field : List ℕ → List ℕ → List ℕ
word_field name value = 34 ∷ name ++ codes "\":\"" ++ value ++ codes "\""

-- milliseconds as seconds
unfoldable pub seconds_field : List ℕ → ℕ → List ℕ
seconds_field name ms = 34 ∷ name ++ codes "\":" ++ seconds_text ms

abbrev pub step_word : Step → List ℕ
step_word Propose = codes "propose"
step_word Prevote = codes "prevote"
step_word Precommit = codes "precommit"

unfoldable pub head_fields : Report → List ℕ
head_fields r = word_field (codes "version") r.version.now ++ codes "," ++ number_field (codes "height") r.height ++ codes ","
    ++ seconds_field (codes "undecided_seconds") r.undecided

unfoldable pub place_fields : Sample → List ℕ
place_fields s = number_field (codes "round") s.round ++ codes "," ++ word_field (codes "step") (step_word s.step) ++ codes "," ++ number_field (codes "queued") s.queued

unfoldable pub delivered_fields : Report → List ℕ
delivered_fields r = number_field (codes "delivered") r.delivered ++ codes "," ++ number_field (codes "items_per_second") r.rate

unfoldable pub link_fields : Links → List ℕ
link_fields links = codes "\"links\":{" ++ number_field (codes "validators") links.validators ++ codes "," ++ number_field (codes "clients") links.clients
    ++ codes "," ++ number_field (codes "strangers") links.strangers ++ codes "}"

unfoldable pub status_json : Report → List ℕ
status_json r = codes "{" ++ head_fields r ++ codes "," ++ place_fields r.sample ++ codes "," ++ delivered_fields r ++ codes "," ++ link_fields r.sample.links ++ codes "}\n"
