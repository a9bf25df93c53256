use Rattle.std.proofs.lemmas.Result.{IfErr-weaker}
use Rattle.schedule_text.proofs.following.follow_text.Goals as goal

-- nothing that the run writes is refused by its text
pub returns : goal.returns
returns g c = IfErr-weaker c.write_followed-followed.result _ _ (λ failure other same. absurd (other same)) c.write_followed-followed.ensures
