-- What is its sender's, with all that it holds of others, whatever tags it bears. It stays so, and what comes so is unforged.
use Rattle.std.proofs.Common.{◌≡◌, ℕ, true, inl, inr, List, [], ◌∷◌, refl, sym, subst, Option, Some, None, Result, Ok, Err}
use Rattle.transactions.specs.declared.fault.Fault.{Fault}
use Rattle.messages.specs.Framing.{message_of}
use Rattle.protocol.specs.Values.{Value, Item}
use Rattle.protocol.specs.Tags.{Setting, Party, Validator, Client}
use Rattle.protocol.specs.Messages.{◌∈◌, Vote, Bundle, Body, OfTx, OfProposal, OfVote, OfAsk, OfBundle, Message, Record, Act, Proposing, Prevoting, Precommitting, sender_of, body_of}
use Rattle.protocol.specs.State.{Node}
use Rattle.protocol.specs.Restart.{own_since}
use Rattle.protocol.specs.Arrivals.{arrival}
use Rattle.protocol.specs.World.{World, Cut, InArrival, InFiring, Event, Sends, Comes, Fires, Asks, Resends, Restarts, happens, run, with_node, tried}
use Rattle.protocol.specs.Premises.{Honesty, FromSender, Genuine, MessageUnforged, EventUnforged, held, held_txs, held_votes}
use Rattle.protocol.proofs.Membership.{in_append, in_map, in_right}
use Rattle.protocol.proofs.Growth.{Longer, longer_at, record_stays, happens_longer, happens_sent}
use Rattle.unforged_worlds.proofs.Held.{AreSent, AreCast, IsHeld, held_more}
use Rattle.unforged_worlds.proofs.Taken.{IsOwnOf}

-- ---- a later world

-- what was released, sent or saved is so still
pub record Later (w v : World) : Type 0 where
  pub released : (b : Body) → b ∈ w.released → b ∈ v.released
  pub sent : (client : ℕ) (t : Item) → t ∈ w.sent client → t ∈ v.sent client
  pub saved : (p : ℕ) (r : Record) → r ∈ (w.nodes p).journal → r ∈ (v.nodes p).journal

pub later_same : (w : World) → Later w w
later_same w = record { released = λ b i. i; sent = λ client t i. i; saved = λ p r i. i }

pub later_then : (w v u : World) → Later w v → Later v u → Later w u
later_then w v u a b = record { released = λ x i. b.released x (a.released x i); sent = λ client t i. b.sent client t (a.sent client t i); saved = λ p r i. b.saved p r (a.saved p r i) }

pub moved_later : (w : World) (p : ℕ) (n : Node) (bodies : List Body) → Longer (w.nodes p).journal n.journal → Later w (with_node w p n bodies)
moved_later w p n bodies l = record {
  released = λ b i. in_right b bodies w.released i;
  sent = λ client t i. i;
  saved = λ q r i. record_stays _ _ (longer_at p q w.nodes n l) r i;
}

still_released : (c : Setting) (w : World) (e : Event) (b : Body) → b ∈ w.released → b ∈ (happens c w e).released
still_released c w (Sends client op) b i = i
still_released c w (Comes p bytes) b i = in_right b (arrival c p (w.nodes p) bytes).out w.released i
still_released c w (Fires p k) b i = in_right b (tried c p (w.nodes p) k).out w.released i
still_released c w (Asks p) b i = inr i
still_released c w (Resends p) b i = in_right b (own_since p (w.nodes p).journal) w.released i
still_released c w (Restarts p cut) b i = in_right b [] w.released i

pub happens_later : (c : Setting) (w : World) (e : Event) → Later w (happens c w e)
happens_later c w e = record {
  released = still_released c w e;
  sent = happens_sent c w e;
  saved = λ p r i. record_stays (w.nodes p).journal ((happens c w e).nodes p).journal (happens_longer c w e p) r i;
}

pub run_later : (c : Setting) (w : World) (es : List Event) → Later w (run c w es)
run_later c w [] = later_same w
run_later c w (e ∷ es) = later_then w (happens c w e) (run c (happens c w e) es) (happens_later c w e) (run_later c (happens c w e) es)

module _ (c : Setting) (h : Honesty) where
  -- ---- whose a body is

  -- a correct client sent it
  abbrev pub IsSentIn : World → Item → Type 0
  IsSentIn w t = c.clients t.client ≡ true → h.clients t.client ≡ true → t ∈ w.sent t.client

  -- a correct validator released it, or may
  abbrev pub IsCastIn : World → Vote → Type 0
  IsCastIn w v = FromSender c h w (OfVote v) (Validator v.sender)

  -- the body is its sender's, and what it holds is theirs
  pub record IsTheirs (w : World) (b : Body) : Type 0 where
    pub whose : FromSender c h w b (sender_of b)
    pub holds : IsHeld (IsSentIn w) (IsCastIn w) b

  from_later : (w v : World) → Later w v → (b : Body) (from : Party) → FromSender c h w b from → FromSender c h v b from
  from_later w v l b (Validator i) k = λ few true_to. elim (k few true_to) [ inl j ↦ inl (l.released b j) | inr j ↦ inr (j.0, l.saved i j.0 j.1, j.2) ]
  from_later w v l (OfTx t) (Client i) k = λ known correct. l.sent i _ (k known correct)
  from_later w v l (OfProposal q) (Client i) k = tt
  from_later w v l (OfVote u) (Client i) k = tt
  from_later w v l (OfAsk a) (Client i) k = tt
  from_later w v l (OfBundle b) (Client i) k = tt

  pub sent_later : (w v : World) → Later w v → (t : Item) → IsSentIn w t → IsSentIn v t
  sent_later w v l t k known correct = l.sent t.client t (k known correct)

  pub cast_later : (w v : World) → Later w v → (u : Vote) → IsCastIn w u → IsCastIn v u
  cast_later w v l u k = from_later w v l (OfVote u) (Validator u.sender) k

  pub theirs_later : (w v : World) → Later w v → (b : Body) → IsTheirs w b → IsTheirs v b
  theirs_later w v l b k = record {
    whose = from_later w v l b (sender_of b) k.whose;
    holds = held_more (IsSentIn w) (IsSentIn v) (IsCastIn w) (IsCastIn v) (sent_later w v l) (cast_later w v l) b k.holds;
  }

  -- an own message that was released is its sender's
  pub own_theirs : (w : World) (p : ℕ) (j : List Record) (b : Body) → IsOwnOf p j b → b ∈ w.released → IsHeld (IsSentIn w) (IsCastIn w) b → IsTheirs w b
  own_theirs w p j b k i all = record { whose = subst (λ (a : Body). FromSender c h w a (sender_of a)) (sym k.is) (by_act k.act (subst (λ (a : Body). a ∈ w.released) k.is i)); holds = all }
    where
      by_act : (act : Act) → body_of p k.height k.round act ∈ w.released → FromSender c h w (body_of p k.height k.round act) (sender_of (body_of p k.height k.round act))
      by_act (Proposing r v) there = λ few true_to. inl there
      by_act (Prevoting x) there = λ few true_to. inl there
      by_act (Precommitting v) there = λ few true_to. inl there

  -- and so a bundle
  pub bundle_theirs : (w : World) (d : Bundle) (b : Body) → b ≡ OfBundle d → b ∈ w.released → IsHeld (IsSentIn w) (IsCastIn w) (OfBundle d) → IsTheirs w b
  bundle_theirs w d b e i all = subst (IsTheirs w) (sym e) (record { whose = λ few true_to. inl (subst (λ (a : Body). a ∈ w.released) e i); holds = all })

  -- ---- what comes

  abbrev pub BytesTheirs : World → List ℕ → Type 0
  BytesTheirs w bytes = (m : Message) → message_of bytes ≡ Ok m → IsTheirs w m.body

  abbrev pub CutTheirs : World → Option Cut → Type 0
  CutTheirs w None = Unit {0}
  CutTheirs w (Some (InArrival bytes)) = BytesTheirs w bytes
  CutTheirs w (Some (InFiring k)) = Unit {0}

  abbrev pub EventTheirs : World → Event → Type 0
  EventTheirs w (Comes p bytes) = BytesTheirs w bytes
  EventTheirs w (Restarts p cut) = CutTheirs w cut
  EventTheirs w _ = Unit {0}

  pub cut_later : (w v : World) → Later w v → (cut : Option Cut) → CutTheirs w cut → CutTheirs v cut
  cut_later w v l None k = tt
  cut_later w v l (Some (InArrival bytes)) k = λ m e. theirs_later w v l m.body (k m e)
  cut_later w v l (Some (InFiring rule)) k = tt

  txs_from : (w : World) (v : Value) → AreSent (IsSentIn w) (IsCastIn w) v.txs → (m : Message) → m ∈ held_txs v → FromSender c h w m.body (sender_of m.body)
  txs_from w v k m i = let f = in_map _ m v.txs i in subst (λ (a : Message). FromSender c h w a.body (sender_of a.body)) f.2 (k f.0 f.1)

  votes_from : (w : World) (b : Bundle) → AreCast (IsSentIn w) (IsCastIn w) b.height b.round b.id b.precommits → (m : Message) → m ∈ held_votes b → FromSender c h w m.body (sender_of m.body)
  votes_from w b k m i = let f = in_map _ m b.precommits i in subst (λ (a : Message). FromSender c h w a.body (sender_of a.body)) f.2 (k f.0 f.1)

  held_from : (w : World) (b : Body) → IsHeld (IsSentIn w) (IsCastIn w) b → (m : Message) → m ∈ held b → FromSender c h w m.body (sender_of m.body)
  held_from w (OfProposal q) k m i = txs_from w q.value k m i
  held_from w (OfBundle b) k m i = elim (in_append m (held_votes b) (held_txs b.value) i) [ inl j ↦ votes_from w b k.1 m j | inr j ↦ txs_from w b.value k.0 m j ]
  held_from w (OfTx t) k m i = absurd i
  held_from w (OfVote v) k m i = absurd i
  held_from w (OfAsk a) k m i = absurd i

  genuine_if_theirs : (w : World) (p : ℕ) (m : Message) → IsTheirs w m.body → Genuine c h w p (m ∷ held m.body)
  genuine_if_theirs w p m k n (inl e) right = subst (λ (a : Message). FromSender c h w a.body (sender_of a.body)) (sym e) k.whose
  genuine_if_theirs w p m k n (inr i) right = held_from w m.body k.holds n i

  unforged_bytes : (w : World) (p : ℕ) (bytes : List ℕ) → BytesTheirs w bytes → (r : Result Message Fault) → message_of bytes ≡ r → MessageUnforged c h w p r
  unforged_bytes w p bytes k (Ok m) e = genuine_if_theirs w p m (k m e)
  unforged_bytes w p bytes k (Err fault) e = tt

  unforged_cut : (w : World) (p : ℕ) (cut : Option Cut) → CutTheirs w cut → EventUnforged c h w (Restarts p cut)
  unforged_cut w p None k = tt
  unforged_cut w p (Some (InArrival bytes)) k = unforged_bytes w p bytes k (message_of bytes) refl
  unforged_cut w p (Some (InFiring rule)) k = tt

  pub unforged_event : (w : World) (e : Event) → EventTheirs w e → EventUnforged c h w e
  unforged_event w (Sends client op) k = tt
  unforged_event w (Comes p bytes) k = unforged_bytes w p bytes k (message_of bytes) refl
  unforged_event w (Fires p rule) k = tt
  unforged_event w (Asks p) k = tt
  unforged_event w (Resends p) k = tt
  unforged_event w (Restarts p cut) k = unforged_cut w p cut k

  -- each event's, as it happens
  abbrev pub AllTheirs : World → List Event → Type 0
  AllTheirs w [] = Unit {0}
  AllTheirs w (e ∷ es) = EventTheirs w e × AllTheirs (happens c w e) es
