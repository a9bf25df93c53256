-- What each event of a schedule brings, where it speaks for nobody, is its sender's.
use Rattle.std.proofs.Common.{◌≡◌, ℕ, zero, suc, ◌≤◌, inl, inr, Bool, true, false, cond, List, [], ◌∷◌, map, filter, length, refl, sym, ◌∙◌, ap, subst, Option, Some, None, Ok, option_to_list}
use Rattle.std.specs.Prelude.{slice_get}
use Rattle.std.specs.List.{list_all}
use Rattle.std.proofs.lemmas.Bool.{and_parts}
use Rattle.messages.specs.Grammar.{IsBody}
use Rattle.messages.specs.Framing.{frame_spelling, IsMessage}
use Rattle.messages.proofs.MessageFormats.{frame_again}
use Rattle.protocol.specs.Values.{Tx, Value, item}
use Rattle.protocol.specs.Tags.{Setting, Validator}
use Rattle.protocol.specs.Messages.{◌∈◌, Signed, Body, OfTx, OfProposal, OfVote, OfBundle, Message, precommit, tagged}
use Rattle.protocol.specs.World.{World, next_item}
use Rattle.protocol.specs.History.{Given, Due}
use Rattle.protocol.specs.Premises.{Honesty, FromSender}
use Rattle.protocol.proofs.Membership.{in_append, in_map, map_in, in_filter, all_in}
use Rattle.protocol.proofs.Tagging.{tagged_law}
use Rattle.world_parties.specs.Cast.{Cast, setting_of, is_correct, is_liar, correct}
use Rattle.world_parties.specs.Sending.{proposed, voted, bundled, submitted, precommit_by, bare_tx}
use Rattle.world_parties.specs.declared.fault.FaultNumber.{FaultNumber}
use Rattle.world_parties.specs.declared.fault.FaultNumber.TheVariants.{NoSuchMessage, NoSuchParty}
use Rattle.world_parties.specs.declared.lines.Tagged.{Tagged}
use Rattle.world_parties.specs.declared.lines.Proposing.{Proposing}
use Rattle.world_parties.specs.declared.lines.Voting.{Voting}
use Rattle.world_parties.specs.declared.lines.Bundling.{Bundling}
use Rattle.world_schedule.specs.Calls.{Sent, Began}
use Rattle.world_schedule.specs.Health.{Serving}
use Rattle.world_schedule.specs.Cores.{frame_in}
use Rattle.world_schedule.specs.Standings.{sayer}
use Rattle.world_schedule.specs.Reports.{Made, said_as}
use Rattle.world_schedule.specs.Making.{Request, Hands, Asks, Resends, scene_after, AreTurns}
use Rattle.world_schedule.specs.Events.{Course, Happens, CanHappen, asked_of, is_wanting, passes, turns, unless}
use Rattle.world_schedule.specs.declared.event.Event.{Event}
use Rattle.world_schedule.specs.declared.event.Event.TheVariants as events
use Rattle.world_schedule.proofs.Saying.{tagged_body, read_again, its_body}
use Rattle.fair_worlds.specs.Laws.{honesty}
use Rattle.unforged_worlds.specs.Laws.{IsSent, AreSent, SpeaksForNobody, sent_after}
use Rattle.unforged_worlds.proofs.Held.{AreCast}
use Rattle.unforged_worlds.proofs.Genuine.{IsSentIn, IsCastIn, IsTheirs, BytesTheirs}
use Rattle.unforged_worlds.proofs.Leading.{IsAnyCall, SendsNothing, Fits, Leads, leads_one, leads_any, leads_sent}
use Rattle.unforged_worlds.proofs.Turns.{RequestTheirs, RequestsTheirs, LeadOn, of_turns, of_restart}

holds_first : (holds : Bool) (fault : FaultNumber) (more : Option FaultNumber) → unless holds fault more ≡ None → holds ≡ true
holds_first true fault more e = refl
holds_first false fault more e = absurd (let f : Some fault ≡ None = e in cc)

holds_then : (holds : Bool) (fault : FaultNumber) (more : Option FaultNumber) → unless holds fault more ≡ None → more ≡ None
holds_then true fault more e = e
holds_then false fault more e = absurd (let f : Some fault ≡ None = e in cc)

got_in : {X : Type 0} (xs : List X) (i : ℕ) (x : X) → x ∈ option_to_list (slice_get xs i) → x ∈ xs
got_in [] i x k = absurd k
got_in (y ∷ ys) zero x (inl e) = inl e
got_in (y ∷ ys) zero x (inr none) = absurd none
got_in (y ∷ ys) (suc i) x k = inr (got_in ys i x k)

passed : (test : ℕ → Bool) (x : ℕ) (xs : List ℕ) → x ∈ filter test xs → test x ≡ true
passed test x [] k = absurd k
passed test x (y ∷ ys) k = at_test (test y) refl (passed test x ys) k
  where
    at_test : (b : Bool) → test y ≡ b → (x ∈ filter test ys → test x ≡ true) → x ∈ cond b (y ∷ filter test ys) (filter test ys) → test x ≡ true
    at_test true e rest (inl i) = ap test i ∙ e
    at_test true e rest (inr i) = rest i
    at_test false e rest i = rest i

-- one to 128 validators
abbrev pub AreFew : Cast → Type 0
AreFew cast = (1 ≤ length cast.powers) × (length cast.powers ≤ 128)

-- The number of validators is known where one of them is correct.
module _ (cast : Cast) (honest : ℕ → Bool) (few : (p : ℕ) → is_correct cast p ≡ true → AreFew cast) where
  abbrev c : Setting
  c = setting_of cast

  abbrev h : Honesty
  h = honesty cast honest

  -- ---- frames

  frame_theirs : (w : World) (b : Body) → AreFew cast → IsBody b → IsTheirs c h w b → BytesTheirs c h w (frame_in c b)
  frame_theirs w b n fits k m e = subst (IsTheirs c h w) (sym (its_body c b m (read_again c b (frame_in c b) m refl (tagged_law c b n.0 n.1 fits).1 e))) k

  message_theirs : (w : World) (m : Message) → IsMessage m → IsTheirs c h w m.body → BytesTheirs c h w (frame_spelling m)
  message_theirs w m fits k n e = let same : m ≡ n = (let f : Ok m ≡ Ok n = sym (frame_again m fits) ∙ e in cc) in subst (λ (x : Message). IsTheirs c h w x.body) same k

  tagged_theirs : (w : World) (b : Body) → IsMessage (tagged c b) → IsTheirs c h w b → BytesTheirs c h w (frame_in c b)
  tagged_theirs w b fits k = message_theirs w (tagged c b) fits (subst (IsTheirs c h w) (sym (tagged_body c b)) k)

  -- ---- what is said in a liar's name

  by_liar : (w : World) (b : Body) (i : ℕ) → is_liar cast i ≡ true → FromSender c h w b (Validator i)
  by_liar w b i e = λ known true_to. absurd (let f : true ≡ false = sym e ∙ true_to in cc)

  value_theirs : (w : World) (v : Value) → AreSent honest w.sent v → (t : Tx) → t ∈ v.txs → IsSentIn c h w (item t)
  value_theirs w v k t i known correct = k (item t) (map_in item t v.txs i) correct

  submitted_theirs : (w : World) (line : Tagged) → IsSent honest w.sent line.item → IsTheirs c h w (OfTx (bare_tx line))
  submitted_theirs w line k = record { whose = λ known correct. k correct; holds = λ known correct. k correct }

  proposed_theirs : (w : World) (line : Proposing) → is_liar cast line.sender ≡ true → AreSent honest w.sent line.value → IsTheirs c h w (OfProposal (proposed line))
  proposed_theirs w line lies k = record { whose = by_liar w (OfProposal (proposed line)) line.sender lies; holds = value_theirs w line.value k }

  voted_theirs : (w : World) (line : Voting) → is_liar cast line.sender ≡ true → IsTheirs c h w (OfVote (voted line))
  voted_theirs w line lies = record { whose = by_liar w (OfVote (voted line)) line.sender lies; holds = by_liar w (OfVote (voted line)) line.sender lies }

  signed_theirs : (w : World) (line : Bundling) → list_all (is_liar cast) line.signers ≡ true → AreCast (IsSentIn c h w) (IsCastIn c h w) line.height line.round (bundled c line).id (bundled c line).precommits
  signed_theirs w line lie s i =
      let f = in_map (precommit_by c line.height line.round (bundled c line).id) s line.signers i in
      subst (λ (z : Signed). IsCastIn c h w (precommit line.height line.round z.sender (Some (bundled c line).id))) f.2 (by_liar w _ f.0 (all_in (is_liar cast) f.0 line.signers f.1 lie))

  bundled_theirs : (w : World) (line : Bundling) → list_all (is_liar cast) (line.sender ∷ line.signers) ≡ true → AreSent honest w.sent line.value → IsTheirs c h w (OfBundle (bundled c line))
  bundled_theirs w line lie k =
      let l = and_parts (is_liar cast line.sender) (list_all (is_liar cast) line.signers) lie in
      record { whose = by_liar w (OfBundle (bundled c line)) line.sender l.0; holds = (value_theirs w line.value k, signed_theirs w line l.1) }

  -- ---- what is asked

  one_asked : (w : World) (p : ℕ) (request : Request) → RequestTheirs c h w request → RequestsTheirs c h w ((p, request) ∷ [])
  one_asked w p request k r (inl e) = subst (λ (q : ℕ × Request). RequestTheirs c h w q.1) (sym e) k
  one_asked w p request k r (inr none) = absurd none

  delivered_asked : (w : World) (numbered : List Body) → ((b : Body) → b ∈ numbered → IsBody b × IsTheirs c h w b) → AreFew cast → (p : ℕ) (found : List Body) → ((b : Body) → b ∈ found → b ∈ numbered) → RequestsTheirs c h w (map (λ b. (p, Hands (Given (frame_in c b)))) found)
  delivered_asked w numbered each n p found within r i =
      let f = in_map (λ (b : Body). let q : ℕ × Request = (p, Hands (Given (frame_in c b))) in q) r found i in
      let k = each f.0 (within f.0 f.1) in
      subst (λ (q : ℕ × Request). RequestTheirs c h w q.1) f.2 (frame_theirs w f.0 n k.0 k.1)

  passes_asked : (w : World) (brought : ℕ → ℕ → Bool) (number : ℕ) (bs : List Body) → ((b : Body) → b ∈ bs → IsBody b × IsTheirs c h w b) → RequestsTheirs c h w (passes c brought (correct cast) number bs)
  passes_asked w brought number [] each r i = absurd i
  passes_asked w brought number (b ∷ bs) each r i =
      elim (in_append r (map (asked_of (Hands (Given (frame_in c b)))) (filter (is_wanting brought number (sayer b)) (correct cast))) (passes c brought (correct cast) (suc number) bs) i) [
        | inl j ↦ (
            let f = in_map (asked_of (Hands (Given (frame_in c b)))) r (filter (is_wanting brought number (sayer b)) (correct cast)) j in
            let ok : is_correct cast f.0 ≡ true = passed (is_correct cast) f.0 _ (in_filter (is_wanting brought number (sayer b)) f.0 (correct cast) f.1) in
            let k = each b (inl refl) in
            subst (λ (q : ℕ × Request). RequestTheirs c h w q.1) f.2 (frame_theirs w b (few f.0 ok) k.0 k.1))
        | inr j ↦ passes_asked w brought (suc number) bs (λ a l. each a (inr l)) r j
      ]

  turns_asked : (course : Course) (w : World) → Fits c h course.scene w → (event : Event) → SpeaksForNobody honest w.sent event → CanHappen cast course.scene.standing event → RequestsTheirs c h w (turns cast course event)
  turns_asked course w f (events.Send client op) s k = λ r i. absurd i
  turns_asked course w f (events.Open client) s k = λ r i. absurd i
  turns_asked course w f (events.Deliver number p) s k =
      let ok : is_correct cast p ≡ true = holds_first (is_correct cast p) NoSuchParty None (holds_then _ NoSuchMessage _ k.no_cause) in
      delivered_asked w course.scene.standing.numbered f.numbered (few p ok) p (option_to_list (slice_get course.scene.standing.numbered number)) (λ b i. got_in course.scene.standing.numbered number b i)
  turns_asked course w f events.Pass s k = passes_asked w course.brought 0 course.scene.standing.numbered f.numbered
  turns_asked course w f (events.Timeout p t) s k = one_asked w p (Hands (Due t)) tt
  turns_asked course w f (events.Ask p) s k = one_asked w p Asks tt
  turns_asked course w f (events.Resend p) s k = one_asked w p Resends tt
  turns_asked course w f (events.Restart p) s k = λ r i. absurd i
  turns_asked course w f (events.Fail p failing) s k = λ r i. absurd i
  turns_asked course w f (events.Submit p line) s k = one_asked w p (Hands (Given (frame_spelling (submitted (length cast.powers) line)))) (message_theirs w (submitted (length cast.powers) line) k.encodable (submitted_theirs w line s))
  turns_asked course w f (events.Propose p line) s k =
      let lies : is_liar cast line.sender ≡ true = holds_first (is_liar cast line.sender) NoSuchParty None (holds_then (is_correct cast p) NoSuchParty _ k.no_cause) in
      one_asked w p (Hands (Given (frame_in c (OfProposal (proposed line))))) (tagged_theirs w (OfProposal (proposed line)) k.encodable (proposed_theirs w line lies s))
  turns_asked course w f (events.Vote p line) s k =
      let lies : is_liar cast line.sender ≡ true = holds_first (is_liar cast line.sender) NoSuchParty None (holds_then (is_correct cast p) NoSuchParty _ k.no_cause) in
      one_asked w p (Hands (Given (frame_in c (OfVote (voted line))))) (tagged_theirs w (OfVote (voted line)) k.encodable.1 (voted_theirs w line lies))
  turns_asked course w f (events.Bundle p line) s k =
      let lie : list_all (is_liar cast) (line.sender ∷ line.signers) ≡ true = holds_first (list_all (is_liar cast) (line.sender ∷ line.signers)) NoSuchParty None (holds_then (is_correct cast p) NoSuchParty _ k.no_cause) in
      one_asked w p (Hands (Given (frame_in c (OfBundle (bundled c line))))) (tagged_theirs w (OfBundle (bundled c line)) k.encodable.1 (bundled_theirs w line lie s))
  turns_asked course w f (events.Frame p bytes) s k = absurd s

  -- ---- the calls of an event

  -- they bring nothing but what is its sender's, and what clients have sent is as the schedule tells
  pub record LedBy (course : Course) (w : World) (event : Event) (made : List Made) : Type 0 where
    pub leads : Leads c h IsAnyCall course.scene w made
    pub sent : (scene_after c course.scene made).standing.sent ≡ sent_after course.scene.standing.sent event

  of_calls : (course : Course) (w : World) (event : Event) (made : List Made) → sent_after course.scene.standing.sent event ≡ course.scene.standing.sent → LeadOn c h course.scene w made → LedBy course w event made
  of_calls course w event made same l = record { leads = leads_any c h SendsNothing course.scene w made l; sent = leads_sent c h course.scene w made l ∙ sym same }

  of_turning : (course : Course) (w : World) → Fits c h course.scene w → (k : ℕ) (event : Event) → SpeaksForNobody honest w.sent event → CanHappen cast course.scene.standing event → (made : List Made) → sent_after course.scene.standing.sent event ≡ course.scene.standing.sent
      → AreTurns c course.scene k (turns cast course event) made → LedBy course w event made
  of_turning course w f k event s can made same t = of_calls course w event made same (of_turns c h course.scene w f k (turns cast course event) (turns_asked course w f event s can) made t)

  one_call : (course : Course) (w : World) (event : Event) (m : Made) (made : List Made) → made ≡ m ∷ [] → LedBy course w event (m ∷ []) → LedBy course w event made
  one_call course w event m made e l = subst (LedBy course w event) (sym e) l

  pub of_event : (course : Course) (w : World) → Fits c h course.scene w → (k : ℕ) (event : Event) → SpeaksForNobody honest w.sent event → CanHappen cast course.scene.standing event → (made : List Made) → Happens cast course k event made → LedBy course w event made
  of_event course w f k (events.Send client op) s can made t =
      let m : Made = record { event = k; call = Sent client op; answer = (0, 0); health = Serving } in
      let is : IsBody (said_as (next_item client op (course.scene.standing.sent client))) = subst IsBody (tagged_body c (said_as (next_item client op (course.scene.standing.sent client)))) can.encodable.body in
      one_call course w (events.Send client op) m made t (record {
        leads = leads_one c h IsAnyCall course.scene w f m tt tt tt (λ b i. elim i [ inl e ↦ subst IsBody (sym e) is | inr none ↦ absurd none ]);
        sent = refl;
      })
  of_event course w f k (events.Open client) s can made t =
      let m : Made = record { event = k; call = Began client; answer = (0, 0); health = Serving } in
      one_call course w (events.Open client) m made t (record { leads = leads_one c h IsAnyCall course.scene w f m tt tt tt (λ b i. absurd i); sent = refl })
  of_event course w f k (events.Restart p) s can made t = of_calls course w (events.Restart p) made refl (of_restart c h course.scene w f k p made t)
  of_event course w f k (events.Deliver number p) s can made t = of_turning course w f k (events.Deliver number p) s can made refl t
  of_event course w f k events.Pass s can made t = of_turning course w f k events.Pass s can made refl t
  of_event course w f k (events.Timeout p due) s can made t = of_turning course w f k (events.Timeout p due) s can made refl t
  of_event course w f k (events.Ask p) s can made t = of_turning course w f k (events.Ask p) s can made refl t
  of_event course w f k (events.Resend p) s can made t = of_turning course w f k (events.Resend p) s can made refl t
  of_event course w f k (events.Fail p failing) s can made t = of_turning course w f k (events.Fail p failing) s can made refl t
  of_event course w f k (events.Submit p line) s can made t = of_turning course w f k (events.Submit p line) s can made refl t
  of_event course w f k (events.Propose p line) s can made t = of_turning course w f k (events.Propose p line) s can made refl t
  of_event course w f k (events.Vote p line) s can made t = of_turning course w f k (events.Vote p line) s can made refl t
  of_event course w f k (events.Bundle p line) s can made t = of_turning course w f k (events.Bundle p line) s can made refl t
  of_event course w f k (events.Frame p bytes) s can made t = absurd s
