-- What is answered to a bundle of the own height.
use Rattle.std.proofs.Common.{◌≡◌, ℕ, ◌<◌, ◌^◌, true, ◌&&◌, Err, None, Option, sym, ap, subst, ◌∙◌, option_map, eq-eqb, lt-ltb}
use Rattle.std.specs.Prelude.{◌==◌, nat_lt}
use Rattle.std.proofs.lemmas.Bool.{and_from}
use Rattle.protocol.specs.Tags.{Setting}
use Rattle.protocol.specs.Messages.{Bundle}
use Rattle.protocol.specs.State.{State}
use Rattle.protocol.specs.Refusals.{Refusal, NotDecided, judge_causes, bundle_causes, first_cause}
use Rattle.protocol.specs.declared.refusal.JudgeFault.{JudgeFault}
use Rattle.height_catchup.specs.Judging.{IsVerdict}
use Rattle.protocol.specs.Answers.{IsRefusal, of_judgement}
use Rattle.node_core.proofs.Answering.{first_answering, judge_refused}

of_height : (c : Setting) (p : ℕ) (s : State) (b : Bundle) → b.height ≡ s.height → s.height < 2 ^ 48 → first_cause (bundle_causes c p s b) ≡ option_map NotDecided (first_cause (judge_causes c p s.delivered b))
of_height c p s b same room =
    let here : (b.height == s.height && nat_lt b.height (2 ^ 48)) ≡ true = and_from _ _ (eq-eqb _ _ same) (lt-ltb _ _ (rw same room)) in
    rw here (first_answering NotDecided (judge_causes c p s.delivered b))

pub judged_some : (c : Setting) (p : ℕ) (s : State) (b : Bundle) (fault : JudgeFault) → b.height ≡ s.height → s.height < 2 ^ 48 → IsVerdict (first_cause (judge_causes c p s.delivered b)) (Err fault) → IsRefusal (first_cause (bundle_causes c p s b)) (of_judgement fault)
judged_some c p s b fault same room h = subst (λ (o : Option Refusal). IsRefusal o (of_judgement fault)) (sym (of_height c p s b same room)) (judge_refused (first_cause (judge_causes c p s.delivered b)) fault h)

pub judged_none : (c : Setting) (p : ℕ) (s : State) (b : Bundle) → b.height ≡ s.height → s.height < 2 ^ 48 → first_cause (judge_causes c p s.delivered b) ≡ None → first_cause (bundle_causes c p s b) ≡ None
judged_none c p s b same room h = of_height c p s b same room ∙ ap (option_map NotDecided) h
