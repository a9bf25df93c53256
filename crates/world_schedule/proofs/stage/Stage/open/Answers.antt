use Rattle.std.proofs.Common.{◌∙◌, ◌++◌, ℕ, map, refl, sym, ap, subst}
use Rattle.protocol.specs.History.{Settle}
use Rattle.protocol.specs.Values.{fresh}
use Rattle.protocol.specs.declared.standing.Standing.{Standing as Reached}
use Rattle.world_parties.specs.Cast.{setting_of}
use Rattle.world_schedule.specs.Reports.{stands_in, told}
use Rattle.world_schedule.specs.Making.{Hands, beginning, scene_after, AreTurns}
use Rattle.world_schedule.specs.Events.{asked_of}
use Rattle.world_schedule.specs.Worlds.{HaveSent}
use Rattle.world_schedule.proofs.Happenings.{sent_same, unsent_turns}
use Rattle.world_schedule.proofs.stage.Stage.open.Goals as goal

pub returns : goal.returns
returns c =
    let cast = c.args.parties in
    let s = setting_of cast in
    let k = c.in_ok-validators.ensures.met.1 in
    let none : ℕ → Reached = λ client. fresh in
    let each = c.in_ok-clients.clients.each.items in
    let sent : HaveSent cast.clients none each = subst (λ n. HaveSent n none each) (sym c.requires) c.in_ok-clients.ensures in record {
      made = k.made;
      settled = subst (λ ps. AreTurns s beginning 0 (map (asked_of (Hands Settle)) ps) k.made) (c.deref.ensures.value ∙ c.in_ok-correct.ensures)
          (subst (λ n. AreTurns s beginning n (map (asked_of (Hands Settle)) c.deref.result.now) k.made) c.new-chronicle.ensures.event k.turn);
      at = record {
        parties = refl;
        correct_are = c.in_ok-correct.ensures;
        up = k.leads.up;
        places_are = c.in_ok-validators.ensures.places;
        holds = k.leads.holds;
        sent = sent_same cast.clients none (stands_in (scene_after s beginning k.made).standing) each (λ client. unsent_turns s beginning c.new-chronicle.result.event _ k.made client k.turn) sent;
        brought = c.new-2.ensures;
      };
      told_is = k.leads.told ∙ ap (λ l. l ++ told s beginning.standing k.made) c.new-chronicle.ensures.told;
      served = c.in_ok-validators.ensures.served;
    }
