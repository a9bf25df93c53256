use Rattle.std.proofs.Common.{[], refl, arith}
use Rattle.vote_journal.proofs.Following.{opened_lawful}
use Rattle.protocol.specs.Restart.{restart}
use Rattle.node_core.specs.Core.{setting}
use Rattle.node_core.proofs.node.NodeCore.new.Goals as goal

pub invariant_of-result : goal.invariant_of-result
unfolding restart setting
invariant_of-result g c = record {
  owner = rw c.new.ensures c.requires.owner;
  count = rw c.new.ensures c.requires.count;
  me = rw c.new.ensures c.requires.me;
  whole = c.count.ensures.whole;
  few = rw c.new.ensures c.count-2.ensures.lawful.few;
  agrees = record { powers = refl; me = refl; genuine = rw c.new.ensures refl };
  room = rw c.new.ensures refl;
  waiting = λ t i. absurd (rw c.new-2.ensures at i);
  stamps = rw c.new.ensures (λ i d lt. absurd (omega (arith, lt)));
  decided = rw (c.new.ensures, c.new-3.ensures) refl;
  joined = rw (c.new.ensures, c.new-3.ensures) refl;
  spelled = rw c.new-3.ensures (λ i d lt. absurd (omega (arith, lt)));
  own = rw c.new-3.ensures (λ i d lt. absurd (omega (arith, lt)));
  said = rw c.new-4.ensures.items (λ i d lt. absurd (omega (arith, lt)));
  journal = rw (c.new-5.ensures, c.new.ensures) c.requires.journal.0;
  kept = λ _. record {
    records = [];
    decisions = rw c.new-3.ensures refl;
    said = rw c.new-4.ensures.items refl;
    whole = rw (c.new-5.ensures, c.new.ensures) c.requires.empty;
    lawful = rw c.new.ensures (let l = opened_lawful (setting c.args.config.powers c.args.config.me c.args.ring) c.args.config.me [] tt tt in record { tied = l.tied; keeps = l.keeps; follows = l.follows; made = l.made });
  };
}
