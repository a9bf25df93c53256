use Rattle.std.proofs.Common.{◌≡◌, sym, ◌∙◌, ap, arith, rules}
use Rattle.authenticators.specs.Keys.{every_key, key_between}
use Rattle.authenticators.proofs.Files.{every_key-some, key_missing, keys_more}
use Rattle.authenticators.proofs.key_file.keys_to_validators.Goals as goal

pub returns-in_default : goal.returns-in_default
returns-in_default c = key_missing (λ to. key_between c.args.lines.now c.args.from to) c.args.validators c.loop-to.to c.loop-to-test.true (search rules)

pub loop-to-preserved : goal.loop-to-preserved
loop-to-preserved c =
    rw c.in_ok-push.ensures.items
    (keys_more (λ to. key_between c.args.lines.now c.args.from to) c.loop-to.keys.items c.loop-to.to c.in-Some.key (cc) c.loop-to.invariant)

pub returns : goal.returns
returns c =
    let end : c.loop-to.to ≡ c.args.validators = omega arith in
    rw (← end) (ap every_key (sym c.loop-to.invariant) ∙ every_key-some c.loop-to.keys.items)
