use Rattle.std.proofs.Common.{◌≡◌, ◌≤◌, ◌*◌, All, drop, take}
use Rattle.messages.specs.Grammar.{IsPrecommit}
use Rattle.messages.specs.Checking.{precommits_len}
use Rattle.messages.proofs.Lengths.{plus}
use Rattle.messages.proofs.measuring.len_of_precommits.Given as goal

abbrev pub invariant-loop-precommit : goal.invariant-loop-precommit
invariant-loop-precommit l = record {
  rest : plus l.total (precommits_len (drop l.precommit-index l.precommits)) ≡ precommits_len l.precommits;
  small : l.total ≤ 4099 * l.precommit-index;
  fit : All IsPrecommit (take l.precommit-index l.precommits);
}
