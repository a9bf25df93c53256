use Rattle.std.proofs.Common.{◌≡◌, ◌∙◌, ◌++◌, ℕ, List, length, get_or, take, sym, ap, arith}
use Rattle.std.proofs.lemmas.List.{length-map}
use Rattle.protocol.specs.Messages.{Body}
use Rattle.world_schedule.specs.Cores.{frame_in}
use Rattle.world_schedule.specs.Reports.{newly}
use Rattle.world_schedule.proofs.Saying.{says_none, at_place, no_body, says_more, says_all}
use Rattle.world_schedule.proofs.chronicle.Chronicle.tell_messages.Goals as goal

pub loop-frame-init : goal.loop-frame-init
loop-frame-init c = λ s numbered bodies h e r. says_none s numbered c.args.validator c.args.self.now h

pub loop-frame-preserved : goal.loop-frame-preserved
loop-frame-preserved c = λ s numbered bodies h e r.
    let k = c.loop-frame.invariant s numbered bodies h e r in
    let i = c.loop-frame.frame-index in
    let b : Body = get_or bodies i no_body in
    let at = at_place (λ v. v.items) (frame_in s) c.args.frames.now bodies i c.frame-item.result no_body e c.loop-frame-test.true in
    let framed : c.deref.result.now ≡ frame_in s b = c.deref.ensures.value ∙ ap (λ v. v.items) c.frame-item.is ∙ at.0 in
    says_more s numbered bodies c.args.validator i c.args.self.now c.loop-frame.self c.tell_message.new.self at.1 k (c.in_ok-tell_message.ensures s (numbered ++ newly numbered (take i bodies)) b k.holds framed (r b at.2))

pub returns : goal.returns
returns c = λ s numbered bodies h e r.
    let size : length bodies ≡ length c.args.frames.now = sym (length-map _ _) ∙ ap (λ (l : List (List ℕ)). length l) (sym e) ∙ length-map _ _ in
    says_all s numbered bodies c.args.validator c.loop-frame.frame-index c.args.self.now c.loop-frame.self (omega (arith, size, c.loop-frame-test.false)) (c.loop-frame.invariant s numbered bodies h e r)
