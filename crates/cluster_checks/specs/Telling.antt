-- What a witness knows that a validator said and saved.
use Rattle.std.specs.Prelude.{◌≡◌, ℕ, List, Option, Vec}
use Rattle.std.specs.Option.{option_map}
use Rattle.std.specs.BTreeMap as tree
use Rattle.std.specs.BTreeMap.{BTreeMap}
use Rattle.std.specs.declared.cmp.Ordering.{Ordering}
use Rattle.std.specs.declared.cmp.Ordering.TheVariants.{Equal}
use Rattle.cluster_checks.specs.declared.kinds.Heading.{Heading}
use Rattle.cluster_checks.specs.declared.witness.Saying.{Saying}
use Rattle.cluster_checks.specs.contracts.witness.SayingOrd.TheImpl as saying_ord

-- the step in which a message is said
abbrev pub saying_of : Heading → Saying
saying_of heading = record { height = heading.height; round = heading.round; kind = heading.kind }

abbrev pub saying_cmp : Saying → Saying → Ordering
saying_cmp = (saying_ord.ghosts).cmp

-- the body that is kept of a step
abbrev pub body_at : {Z : Type 0} → BTreeMap Saying (Vec ℕ Z) → Saying → Option (List ℕ)
body_at bodies saying = option_map (λ body. body.items) (tree.get saying_cmp bodies saying)

-- what is kept of other steps than this one is the same
abbrev pub KeepsOthers : {Z : Type 0} → Saying → BTreeMap Saying (Vec ℕ Z) → BTreeMap Saying (Vec ℕ Z) → Type 0
KeepsOthers saying before after = (other : Saying) → ¬ (saying_cmp saying other ≡ Equal) → body_at after other ≡ body_at before other
