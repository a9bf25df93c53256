use Rattle.std.proofs.Common.{◌≡◌, ◌∙◌, sym, ap, subst, refl, List, true, false}
use Rattle.std.specs.Prelude.{◌==◌}
use Rattle.std.specs.List.{list_all}
use Rattle.protocol.specs.Messages.{Vote}
use Rattle.vote_tally.specs.Kept.{Kept}
use Rattle.vote_tally.proofs.Told.{of_one_height, one_height}
use Rattle.vote_tally.proofs.Tally.has_vote.Goals as goal

pub returns-then-is_at : goal.returns-then-is_at
returns-then-is_at c =
    let h = c.in-One.height in
    let v = c.args.vote.now in
    let all = subst (λ (vs : List Vote). list_all (λ (w : Vote). w.height == h) vs ≡ true) (ap (λ (k : Kept). k.votes) c.self.view_is) (of_one_height c.self.inside.heights h c.self.inside.votes.items c.in-One.is c.self.invariant.0.heights) in
    let same : (h == v.height) ≡ true = sym c.is_at.ensures ∙ c.if-is_at.true in
    c.has_voted.ensures ∙ sym (one_height h v c.args.self.now.votes all ∙ rw same refl)

pub returns-else-is_at : goal.returns-else-is_at
returns-else-is_at c =
    let h = c.in-One.height in
    let v = c.args.vote.now in
    let all = subst (λ (vs : List Vote). list_all (λ (w : Vote). w.height == h) vs ≡ true) (ap (λ (k : Kept). k.votes) c.self.view_is) (of_one_height c.self.inside.heights h c.self.inside.votes.items c.in-One.is c.self.invariant.0.heights) in
    let other : (h == v.height) ≡ false = sym c.is_at.ensures ∙ c.if-is_at.false in
    c.if-is_at.false ∙ sym (one_height h v c.args.self.now.votes all ∙ rw other refl)
