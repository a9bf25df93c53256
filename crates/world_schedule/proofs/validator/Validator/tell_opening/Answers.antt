use Rattle.std.proofs.Common.{◌≡◌, ◌∙◌, [], ◌∷◌, Some, map, drop, sym, ap, subst}
use Rattle.protocol.specs.Messages.{Bundle}
use Rattle.world_schedule.specs.Reports.{decision_of}
use Rattle.world_schedule.specs.Making.{Reopens}
use Rattle.world_schedule.specs.Standings.{Holds, Tells, Says}
use Rattle.world_schedule.specs.Validators.{HasMet}
use Rattle.world_schedule.specs.declared.report.What.TheVariants.{Answered, Decided}
use Rattle.world_schedule.specs.declared.seat.Seat.TheVariants as seats
use Rattle.world_schedule.specs.declared.validator.Validator.{Validator}
use Rattle.world_schedule.specs.declared.chronicle.Chronicle.{Chronicle}
use Rattle.world_schedule.proofs.Called.{has_met}
use Rattle.world_schedule.proofs.Reopening.{meets_reopening}
use Rattle.world_schedule.proofs.validator.Validator.tell_opening.Goals as goal

pub returns : goal.returns
returns c = λ s scene p back holds.
    let begun : Validator = c.args.self.now in
    let told : Validator = c.tell_decisions.new.self in
    let last : Validator = c.tell_messages.new.self in
    let first : Chronicle = c.args.chronicle.now in
    let second : Chronicle = c.tell.new.self in
    let third : Chronicle = c.tell_decisions.new.chronicle in
    let counted = c.in_ok-tell_decisions.ensures.new in
    let after = c.tell_messages.ensures.new in
    let held : third.messages ≡ first.messages = c.tell_decisions.ensures.messages ∙ c.tell.ensures.messages in
    let none = ap (λ (v : Validator). v.owes) after ∙ ap (λ (v : Validator). v.owes) counted ∙ back.owes in
    subst (λ b. HasMet s scene Reopens b p (seats.Up last) first c.tell_messages.new.chronicle) none (has_met s scene Reopens (0, 0) p begun.decisions_told last begun.core first second third c.tell_messages.new.chronicle (record {
      known = back.known;
      counted = back.told;
      met = meets_reopening s scene p begun back;
      answer = subst (λ i. Tells (Some i) (Answered (record { number = 0; inner = 0 }) ∷ []) first second) back.number c.in_ok-tell.ensures.told;
      decisions = subst (λ i. Tells (Some i) (map (λ (b : Bundle). Decided (decision_of b)) (drop begun.decisions_told begun.core.decisions)) second third) back.number c.in_ok-tell_decisions.ensures.told;
      messages = λ bodies e r. subst (λ i. Says s scene.standing.numbered (Some i) bodies third c.tell_messages.new.chronicle) (ap (λ (v : Validator). v.number) counted ∙ back.number)
          (c.in_ok-tell_messages.ensures.told s scene.standing.numbered bodies (subst (λ m. Holds s scene.standing.numbered m) (sym held) holds) (ap (λ (v : Validator). v.core.outgoing) counted ∙ e) r);
      number = ap (λ (v : Validator). v.number) after ∙ ap (λ (v : Validator). v.number) counted ∙ back.number;
      core = ap (λ (v : Validator). v.core) after ∙ ap (λ (v : Validator). record v.core { outgoing = []; scheduled = [] }) counted;
      told = ap (λ (v : Validator). v.decisions_told) after ∙ ap (λ (v : Validator). v.decisions_told) counted;
      owes = none;
    }))
