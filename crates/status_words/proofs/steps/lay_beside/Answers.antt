use Rattle.std.proofs.Common.{ap, ◌∙◌, sym, subst}
use Rattle.status_words.specs.Seen.{Seen, IsOf}
use Rattle.status_words.specs.Rule.{Sight}
use Rattle.status_words.proofs.Moves.{beside}
use Rattle.status_words.proofs.steps.lay_beside.Goals as goal

pub returns-clause-of_these : goal.returns-clause-of_these
returns-clause-of_these c =
    let own_of : Sight → Seen = λ v. v.own in
    let pass = ap own_of (c.check_delivered.ensures.same.1 ∙ c.check_height.ensures.same.1 ∙ c.show.ensures.shown.1) in
    let seat = ap own_of c.note-back.ensures.same.1 in
    let of = beside c.args.pass.now.me.0 c.show.new.pass.me.0 c.check_height.new.pass.me.0 c.note-back.result.me.0 c.args.seat.now.me.0.own c.note-back.ensures.note.1 c.show.ensures.shown.1 c.check_height.ensures.same.1 c.check_height.ensures.shown c.check_delivered.ensures.shown in
    subst (λ (q : Seen × Seen). IsOf q.0 q.1) (λ i. (sym pass i, sym seat i)) of
