-- The events of a schedule that speaks for nobody bring nothing but what is its sender's.
use Rattle.std.proofs.Common.{◌≡◌, ℕ, suc, Bool, true, List, [], ◌∷◌, sym, ap, ◌∙◌, subst}
use Rattle.std.proofs.Math.Path.{fun_ext}
use Rattle.protocol.specs.Values.{Item}
use Rattle.protocol.specs.World.{World}
use Rattle.world_parties.specs.Cast.{Cast, setting_of, is_correct}
use Rattle.world_schedule.specs.Reports.{Made}
use Rattle.world_schedule.specs.Events.{Course, HaveHappened, course_after}
use Rattle.world_schedule.specs.declared.event.Event.{Event}
use Rattle.fair_worlds.specs.Laws.{honesty}
use Rattle.unforged_worlds.specs.Laws.{SpeaksForNobody, SpeakForNobody, sent_after}
use Rattle.unforged_worlds.proofs.Leading.{IsAnyCall, Fits, Leads, leads_both}
use Rattle.unforged_worlds.proofs.Events.{AreFew, of_event}

module _ (cast : Cast) (honest : ℕ → Bool) (few : (p : ℕ) → is_correct cast p ≡ true → AreFew cast) where
  pub of_events : (course : Course) (w : World) → Fits (setting_of cast) (honesty cast honest) course.scene w → (sent : ℕ → List Item) → course.scene.standing.sent ≡ sent → (k : ℕ) (events : List Event) → SpeakForNobody honest sent events
      → (made : List Made) (last : Course) → HaveHappened cast course k events made last → Leads (setting_of cast) (honesty cast honest) IsAnyCall course.scene w made
  of_events course w f sent e k [] s made last happened = subst (λ (l : List Made). Leads (setting_of cast) (honesty cast honest) IsAnyCall course.scene w l) (sym happened.0) f
  of_events course w f sent e k (event ∷ more) s made last happened =
      let now : SpeaksForNobody honest w.sent event = subst (λ given. SpeaksForNobody honest given event) (sym e ∙ fun_ext f.sent) s.0 in
      let led = of_event cast honest few course w f (suc k) event now happened.3 happened.0 happened.4 in
      subst (λ (l : List Made). Leads (setting_of cast) (honesty cast honest) IsAnyCall course.scene w l) (sym happened.2)
      (leads_both (setting_of cast) (honesty cast honest) IsAnyCall course.scene w happened.0 happened.1 led.leads
      (λ v l g. of_events (course_after cast course event happened.0) v g (sent_after sent event) (led.sent ∙ ap (λ given. sent_after given event) e) (suc k) more s.1 happened.1 last happened.5))
