-- The ends of reports tell one list.
use Rattle.std.proofs.Common.{◌≡◌, inl, inr, ℕ, List, ◌++◌, sym, ap, ◌∙◌, subst, subst₂, append_assoc}
use Rattle.std.proofs.lemmas.List.{map-append}
use Rattle.protocol.specs.Values.{Item}
use Rattle.protocol.specs.Tags.{Setting}
use Rattle.protocol.specs.Messages.{◌∈◌}
use Rattle.protocol.specs.Premises.{Begins}
use Rattle.protocol.specs.Laws.{Comparable}
use Rattle.protocol.proofs.Membership.{in_map}
use Rattle.world_parties.specs.Cast.{setting_of, correct}
use Rattle.world_schedule.specs.Calls.{Call}
use Rattle.world_schedule.specs.Runs.{delivered_after}
use Rattle.world_schedule.specs.Reports.{Made, calls_of, end_of}
use Rattle.world_schedule.specs.Outcome.{OutcomeLaw, AreLater, ReportsLaw}
use Rattle.world_schedule.proofs.Runs.{past_law, delivered_law}
use Rattle.world_schedule.proofs.Ends.{ends_law}

pub outcome_law : OutcomeLaw
outcome_law cast ms brought events report k h fair one other i j okp okq =
    ends_law (setting_of cast) h (correct cast) (ms ++ k.more) fair one other (subst (λ es. one ∈ es) k.ends_are i) (subst (λ es. other ∈ es) k.ends_are j) okp okq

-- ---- two reports

turned : (a b : List Item) → Comparable a b → Comparable b a
turned a b (inl x) = inr x
turned a b (inr x) = inl x

by_numbers : (c : Setting) (early late : List Call) (p q : ℕ) → AreLater c (early ++ late) (end_of c early p) (end_of c (early ++ late) q)
by_numbers c early late p q = record {
  lasts = λ same. subst (λ r. Begins (delivered_after c p early) (delivered_after c r (early ++ late))) same (past_law c early late p);
  one_list = λ h fair okp okq. let k = delivered_law c h early late fair p q okp okq in record {
    begins = turned (delivered_after c p early) (delivered_after c q (early ++ late)) k.begins;
    in_order = k.in_order;
    begins_sent = k.begins_sent;
  };
}

-- the calls of the later report are those of the earlier one, and more
more_calls : (first between more : List Made) → calls_of first ++ calls_of (between ++ more) ≡ calls_of ((first ++ between) ++ more)
more_calls first between more = sym (map-append (λ (m : Made). m.call) first (between ++ more)) ∙ ap calls_of (sym (append_assoc first between more))

pub reports_law : ReportsLaw
reports_law cast ms between brought brought_then events events_then report later k l one other i j =
    let c = setting_of cast in
    let first : List Made = ms ++ k.more in
    let early : List Call = calls_of first in
    let late : List Call = calls_of (between ++ l.more) in
    let whole : early ++ late ≡ calls_of ((first ++ between) ++ l.more) = more_calls first between l.more in
    let p = in_map (end_of c early) one (correct cast) (subst (λ es. one ∈ es) k.ends_are i) in
    let q = in_map (end_of c (calls_of ((first ++ between) ++ l.more))) other (correct cast) (subst (λ es. other ∈ es) l.ends_are j) in
    subst₂ (AreLater c (calls_of ((first ++ between) ++ l.more))) p.2 q.2 (subst (λ calls. AreLater c calls (end_of c early p.0) (end_of c calls q.0)) whole (by_numbers c early late p.0 q.0))
