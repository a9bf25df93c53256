-- On which links a validator replies.
use Rattle.std.specs.Prelude.{Bool, false, ◌==◌, if◌then◌else◌, List, [], ◌∷◌, Option, Some, None}
use Rattle.edge_frames.specs.declared.early.LinkId.{LinkId}
use Rattle.cluster_actors.specs.declared.engine.Out.{Out}
use Rattle.cluster_actors.specs.declared.engine.Out.TheVariants.{Reply}
use Rattle.cluster_actors.specs.declared.engine.Deed.{Deed}
use Rattle.cluster_actors.specs.declared.engine.Deed.TheVariants.{Hear}

-- the link on which frames came, if any did
abbrev pub heard_on : Deed → Option LinkId
heard_on (Hear link frames) = Some link
heard_on _ = None

abbrev pub is_heard : Option LinkId → LinkId → Bool
is_heard None link = false
is_heard (Some heard) link = heard.0 == link.0

-- the link of a reply on which nothing was heard
abbrev pub astray_of : Option LinkId → Out → List LinkId
astray_of heard (Reply link bytes) = if is_heard heard link then [] else link ∷ []
astray_of heard _ = []
