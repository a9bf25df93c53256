use Rattle.std.proofs.Common.{◌≡◌, ◌<◌, ◌∙◌, sym, ap, [], ◌∷◌, ◌++◌, length, arith}
use Rattle.std.specs.List.{flat_map}
use Rattle.std.specs.Option.{option_copied, option_to_list}
use Rattle.std.proofs.lemmas.List.{append-nil}
use Rattle.messages.specs.declared.body.Precommit.{Precommit}
use Rattle.protocol.specs.Messages.{below}
use Rattle.protocol.specs.Refusals.{certified}
use Rattle.height_catchup.proofs.Finding.{grown, right_of}
use Rattle.height_catchup.proofs.vouching.right_precommits.Goals as goal
use Rattle.height_catchup.proofs.vouching.right_precommits.Goals.{in-None, in-Some+in_ok-copy-in-Some+in_ok-push-in-Some}

pub loop-validator-init : goal.loop-validator-init
unfolding below
loop-validator-init c c' p ring = c.new-precommits.ensures.items

pub loop-validator-preserved : goal.loop-validator-preserved
loop-validator-preserved c c' p ring =
    let within : c.loop-validator.validator < length c'.powers = rw (← ring.count) (omega arith) in
    grown (right_of c' p c.args.bundle.now) c.loop-validator.validator c.loop-validator.precommits.items c.match-branch-2.precommits.items (option_copied c.in_ok-right_precommit.field-0)
    (c.loop-validator.invariant c' p ring) (ap option_to_list (c.in_ok-right_precommit.ensures c' p ring within)) (elim c.match-branch-2.branch [
      | in-None w ↦ rw (w.precommits-is, w.in-None.is) (sym (append-nil c.loop-validator.precommits.items))
      | in-Some+in_ok-copy-in-Some+in_ok-push-in-Some w ↦ rw (w.precommits-is, w.in-Some.is) (w.in_ok-push-in-Some.ensures.items ∙ ap (λ (s : Precommit). c.loop-validator.precommits.items ++ s ∷ []) w.in_ok-copy-in-Some.ensures)
    ])

pub returns : goal.returns
unfolding certified
returns c c' p ring =
    let end : c.loop-validator.validator ≡ length c'.powers = rw (← ring.count) (omega arith) in
    c.from_vec.ensures ∙ c.loop-validator.invariant c' p ring ∙ ap (λ n. flat_map (right_of c' p c.args.bundle.now) (below n)) end
