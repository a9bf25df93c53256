use Rattle.std.proofs.Common.{◌≡◌, ◌∙◌, ℕ, List, [], ◌∷◌, Some, map, drop, length, sym, ap, subst, arith}
use Rattle.std.specs.Prelude.{◌==◌}
use Rattle.protocol.specs.Messages.{Bundle}
use Rattle.world_schedule.specs.Handed.{told_numbers}
use Rattle.world_schedule.specs.Reports.{decision_of}
use Rattle.world_schedule.specs.Making.{IsMetBy}
use Rattle.world_schedule.specs.Standings.{Holds, Tells, Says}
use Rattle.world_schedule.specs.Validators.{request_of}
use Rattle.world_schedule.specs.declared.report.Answer.{Answer}
use Rattle.world_schedule.specs.declared.report.What.TheVariants.{Answered, Decided}
use Rattle.world_schedule.specs.declared.validator.Validator.{Validator}
use Rattle.world_schedule.proofs.Called.{has_met}
use Rattle.world_schedule.proofs.validator.Validator.call.Goals as goal

pub returns : goal.returns
returns c = λ s scene up holds.
    let old : Validator = c.args.self.now in
    let made : Validator = c.make.new.self in
    let told : Validator = c.tell_decisions.new.self in
    let last : Validator = c.tell_messages.new.self in
    let numbers : ℕ × ℕ = told_numbers c.make.result in
    let named = c.answer_of-answer.ensures in
    let own : made.number ≡ old.number = c.make.ensures.number in
    let counted = c.in_ok-tell_decisions.ensures.new in
    let after = c.tell_messages.ensures.new in
    let held : c.tell_decisions.new.chronicle.messages ≡ c.args.chronicle.now.messages = c.tell_decisions.ensures.messages ∙ c.tell.ensures.messages in
    let begun = subst (λ a. Tells (Some made.number) (Answered a ∷ []) c.args.chronicle.now c.tell.new.self) named c.in_ok-tell.ensures.told in
    let decided = subst (λ i. Tells (Some made.number) (map (λ (b : Bundle). Decided (decision_of b)) (drop i made.core.decisions)) c.tell.new.self c.tell_decisions.new.chronicle) c.make.ensures.told c.in_ok-tell_decisions.ensures.told in
    let met = c.make.ensures.met s (scene.standing.nodes old.number) (scene.health old.number) up.stands (omega (arith, up.number.known, up.number.few)) up.health in
    has_met s scene (request_of c.args.request) numbers old.number old.decisions_told last made.core c.args.chronicle.now c.tell.new.self c.tell_decisions.new.chronicle c.tell_messages.new.chronicle (record {
      known = up.number;
      counted = up.told ∙ ap (λ (l : List Bundle). length l) up.stands.stands.decisions;
      met = subst (λ l. IsMetBy s old.number (scene.standing.nodes old.number) (scene.health old.number) (request_of c.args.request) numbers l made.core) up.released met;
      answer = subst (λ i. Tells (Some i) (Answered (record { number = numbers.0; inner = numbers.1 }) ∷ []) c.args.chronicle.now c.tell.new.self) own begun;
      decisions = subst (λ i. Tells (Some i) (map (λ (b : Bundle). Decided (decision_of b)) (drop old.decisions_told made.core.decisions)) c.tell.new.self c.tell_decisions.new.chronicle) own decided;
      messages = λ bodies e r. subst (λ i. Says s scene.standing.numbered (Some i) bodies c.tell_decisions.new.chronicle c.tell_messages.new.chronicle) (ap (λ (v : Validator). v.number) counted ∙ own)
          (c.in_ok-tell_messages.ensures.told s scene.standing.numbered bodies (subst (λ m. Holds s scene.standing.numbered m) (sym held) holds) (ap (λ (v : Validator). v.core.outgoing) counted ∙ e) r);
      number = ap (λ (v : Validator). v.number) after ∙ ap (λ (v : Validator). v.number) counted ∙ own;
      core = ap (λ (v : Validator). v.core) after ∙ ap (λ (v : Validator). record v.core { outgoing = []; scheduled = [] }) counted;
      told = ap (λ (v : Validator). v.decisions_told) after ∙ ap (λ (v : Validator). v.decisions_told) counted;
      owes = ap (λ (v : Validator). v.owes) after ∙ ap (λ (v : Validator). v.owes) counted ∙ ap (λ (a : Answer). a.number == 16) named;
    })
