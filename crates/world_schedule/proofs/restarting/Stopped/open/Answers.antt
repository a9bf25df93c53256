use Rattle.std.proofs.Common.{refl}
use Rattle.world_parties.specs.Cast.{setting_of}
use Rattle.protocol.specs.Tags.{Setting}
use Rattle.protocol.specs.State.{Node}
use Rattle.protocol.specs.World.{cut_record}
use Rattle.std.specs.Prelude.{◌++◌}
use Rattle.world_schedule.proofs.Cores.{found_own}
use Rattle.world_schedule.proofs.Reopening.{is_found, stopped_again}
use Rattle.world_schedule.proofs.restarting.Stopped.open.Goals as goal

pub returns-in-Ok-clause-back : goal.returns-in-Ok-clause-back
returns-in-Ok-clause-back c = λ s k.
    let d : Setting = setting_of c.args.parties.now in
    let p = c.args.self.number in
    let n : Node = s.standing.nodes p in
    let f = is_found d p n (s.health p) c.args.self.store.store.bytes.items k.left in record {
      known = k.number;
      number = refl;
      told = k.told;
      owes = refl;
      cut = f.cut;
      found = f.found;
      stands = c.in-Ok.ensures.stands (cut_record d p n f.cut ++ n.journal) f.journal (found_own d p n f.cut k.own);
      serves = c.in-Ok.ensures.serves;
      released = c.in-Ok.ensures.released;
    }

pub returns-in-Err-clause-stopped : goal.returns-in-Err-clause-stopped
returns-in-Err-clause-stopped c = λ s k. stopped_again (setting_of c.args.parties.now) s c.args.self _ k refl c.in-Err.ensures.kept
