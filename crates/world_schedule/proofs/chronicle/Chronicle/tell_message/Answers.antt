use Rattle.std.proofs.Common.{◌≡◌, Some, None, [], ◌∷◌, subst}
use Rattle.protocol.specs.Messages.{Body, tagged}
use Rattle.world_schedule.specs.Standings.{IsNumbered, Tells}
use Rattle.world_schedule.specs.declared.report.What.TheVariants.{Released}
use Rattle.world_schedule.proofs.Saying.{says_known, says_new, read_again, its_body, its_tags, on_ok_both}
use Rattle.world_schedule.proofs.chronicle.Chronicle.tell_message.Goals as goal

pub returns-in-None : goal.returns-in-None
returns-in-None c = λ s numbered b h e r.
    let m = c.in_ok-message.message in
    let same : m ≡ tagged s b = read_again s b c.args.frame.now m e r c.in_ok-message.ensures.exact in
    let known : IsNumbered s numbered m.body None c.number.new.self = subst (λ n. IsNumbered s numbered m.body n c.number.new.self) c.in-None.is (c.in_ok-number.ensures s numbered h (its_tags s b m same)) in
    says_known s numbered c.args.validator b c.args.self.now c.number.new.self (subst (λ (x : Body). IsNumbered s numbered x None c.number.new.self) (its_body s b m same) known)

pub returns-in-Some : goal.returns-in-Some
returns-in-Some c = λ s numbered b h e r.
    let m = c.in_ok-message.message in
    let number = c.in-Some.number in
    let same : m ≡ tagged s b = read_again s b c.args.frame.now m e r c.in_ok-message.ensures.exact in
    let known : IsNumbered s numbered m.body (Some number) c.number.new.self = subst (λ n. IsNumbered s numbered m.body n c.number.new.self) c.in-Some.is (c.in_ok-number.ensures s numbered h (its_tags s b m same)) in
    let now_known : IsNumbered s numbered b (Some number) c.number.new.self = subst (λ (x : Body). IsNumbered s numbered x (Some number) c.number.new.self) (its_body s b m same) known in
    on_ok_both c.tell_release.result c.tell_release.ensures.told (λ t. says_new s numbered c.args.validator b c.args.self.now c.tell_release.new.self number c.number.new.self now_known
    (subst (λ (x : Body). Tells c.args.validator (Released (record { number = number; body = x }) ∷ []) (record c.args.self.now { messages = c.number.new.self }) c.tell_release.new.self) (its_body s b m same) t)
    c.tell_release.ensures.messages)
