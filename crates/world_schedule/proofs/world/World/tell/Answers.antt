use Rattle.std.proofs.Common.{◌≡◌, ◌∙◌, ◌++◌, ap}
use Rattle.world_parties.specs.Cast.{setting_of}
use Rattle.world_schedule.specs.Reports.{told}
use Rattle.world_parties.specs.declared.fault.FaultNumber.TheVariants.{OutOfMemory}
use Rattle.world_schedule.proofs.Causes.{cause_from}
use Rattle.world_schedule.proofs.world.World.tell.Goals as goal

pub returns-clause-ok : goal.returns-clause-ok
returns-clause-ok c = λ cast w rests.
    let before = c.args.self.now.told.items in
    let parts : c.append.new.self.items ≡ before ++ c.happen.new.self.chronicle.told.items = c.in_ok-append.ensures.items in
    let k = c.in_ok-happen.ensures.ok cast w rests.0 in record {
      made = k.made;
      happens = k.happens;
      possible = k.possible;
      at = (
        record { parties = k.at.parties; correct_are = k.at.correct_are; up = k.at.up; places_are = k.at.places_are; holds = k.at.holds; sent = k.at.sent; brought = k.at.brought },
        c.in_ok-append.ensures.other_items,
      );
      told_is = parts ∙ ap (λ l. before ++ l) (k.told_is ∙ ap (λ l. l ++ told (setting_of cast) w.scene.standing k.made) rests.1);
    }

pub returns-in_err-append-clause-cause : goal.returns-in_err-append-clause-cause
returns-in_err-append-clause-cause c = λ cast w rests. cause_from _ c.from_residual-in_err-append.result OutOfMemory c.from_residual-in_err-append.ensures.1 tt
