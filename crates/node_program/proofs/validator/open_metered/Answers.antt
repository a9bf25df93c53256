use Rattle.std.proofs.Common.{◌≡◌, Result, Ok, Err, ◌∙◌}
use Rattle.std.specs.Prelude.{IfOk}
use Rattle.node_program.proofs.validator.open_metered.Goals as goal

both : {T E : Type 0} (r : Result T E) (P Q R : T → Type 0) → ((x : T) → P x → Q x → R x) → IfOk r P → IfOk r Q → IfOk r R
both (Ok x) P Q R f p q = f x p q
both (Err e) P Q R f p q = tt

pub returns : goal.returns
returns g c = record {
  opened = both c.open_core.result _ _ _
      (λ core o failures. record { store = o.read.store; stands = o.was.stands; opened = o.opened; unfailed = failures ∙ c.requires.unfailed }) c.open_core.ensures.opened c.open_core.ensures.counted;
}
