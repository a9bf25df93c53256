use Rattle.std.proofs.Common.{◌≡◌, sym, ◌∙◌, ap, arith, rules}
use Rattle.authenticators.specs.Keys.{every_key, key_between}
use Rattle.authenticators.specs.declared.party.Party.TheVariants.{Validator}
use Rattle.authenticators.proofs.Files.{every_key-some, key_missing, keys_more}
use Rattle.authenticators.proofs.key_file.validators_to.Goals as goal

pub returns-in_default : goal.returns-in_default
returns-in_default c = key_missing (λ from. key_between c.args.lines.now (Validator from) c.args.to) c.args.validators c.loop-from.from c.loop-from-test.true (search rules)

pub loop-from-preserved : goal.loop-from-preserved
loop-from-preserved c =
    rw c.in_ok-push.ensures.items
    (keys_more (λ from. key_between c.args.lines.now (Validator from) c.args.to) c.loop-from.keys.items c.loop-from.from c.in-Some.key (cc) c.loop-from.invariant)

pub returns : goal.returns
returns c =
    let end : c.loop-from.from ≡ c.args.validators = omega arith in
    rw (← end) (ap every_key (sym c.loop-from.invariant) ∙ every_key-some c.loop-from.keys.items)
