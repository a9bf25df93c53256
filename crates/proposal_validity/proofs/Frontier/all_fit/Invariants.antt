use Rattle.std.proofs.Common.{◌≡◌, true, length, take}
use Rattle.proposal_validity.specs.Standing.{standing}
use Rattle.proposal_validity.specs.Course.{all_fit, items_of}
use Rattle.proposal_validity.proofs.Places.{AreLastPlaces}
use Rattle.proposal_validity.proofs.Frontier.all_fit.Given as goal

abbrev pub invariant-loop-i : goal.invariant-loop-i
invariant-loop-i l = record {
  fits : all_fit (standing l.self) (items_of (take l.i l.txs)) ≡ true;
  places : AreLastPlaces l.txs l.i l.last_places;
  many : length l.last_places ≡ 1024;
}
