-- What a correct validator releases is heard, over every event.
use Rattle.std.proofs.Common.{◌≡◌, ℕ, ◌^◌, ◌<◌, ◌≤◌, inl, inr, true, false, cond, not, Option, Some, None, List, [], ◌∷◌, ◌++◌, length, refl, sym, ap, subst, arith, eqb-true, option_to_list, Result, Ok, Err}
use Rattle.std.specs.Prelude.{◌==◌, is_none, nat_lt}
use Rattle.std.specs.List.{AllByRecursion}
use Rattle.std.proofs.lemmas.Bool.{and_parts, and_from, cond_both, not-false, ltb-false}
use Rattle.transactions.specs.Grammar.{AreTags}
use Rattle.transactions.specs.declared.fault.Fault.{Fault}
use Rattle.messages.specs.Grammar.{IsBundle, IsBody}
use Rattle.messages.specs.Framing.{message_of, IsMessage}
use Rattle.protocol.specs.Tags.{Setting}
use Rattle.protocol.specs.Messages.{◌∈◌, Bundle, Body, OfTx, OfProposal, OfVote, OfAsk, OfBundle, Message, Record}
use Rattle.protocol.specs.State.{Node, Rule, Start, PrevoteFresh, PrevoteAgain, AwaitPrevotes, Lock, PrecommitNil, AwaitPrecommits, Decide, SkipRound, TimedOut, DecideByBundle}
use Rattle.protocol.specs.Rules.{holds, saved}
use Rattle.protocol.specs.Restart.{opened, height_of, own_since}
use Rattle.protocol.specs.Queues.{pick}
use Rattle.protocol.specs.Refusals.{context, causes, accepts, first_cause}
use Rattle.protocol.specs.Arrivals.{Outcome, nothing, arrival_of, received, taken_in, firing}
use Rattle.protocol.specs.World.{World, Event, Sends, Comes, Fires, Asks, Resends, Restarts, Cut, InArrival, InFiring, happens, run, beginning, is_bundles, tried, cut_record, moved}
use Rattle.protocol.specs.Laws.{Grows}
use Rattle.protocol.specs.Premises.{Honesty, AtCorrect, at_validator}
use Rattle.protocol.proofs.Arrivals.{none_stand, try_cases}
use Rattle.protocol.proofs.Frames.{frame_law}
use Rattle.protocol.proofs.Membership.{in_append}
use Rattle.protocol.proofs.Tagging.{tagged_law}
use Rattle.message_laws.specs.Heard.{AreBytes, HasBytes, IsHeard, HeardLaw}
use Rattle.message_laws.proofs.InRange.{If, RecordFits, NodeFits, RuleFits, IsWithin, released_fits, since_fits, opened_fits, replies_fit, taken_fits, wrote_fits, fired_fits}

others_fit : (k : Rule) → is_bundles k ≡ false → RuleFits k
others_fit (DecideByBundle b) e = absurd (let f : true ≡ false = e in cc)
others_fit Start e = tt
others_fit (PrevoteFresh v) e = tt
others_fit (PrevoteAgain r v) e = tt
others_fit AwaitPrevotes e = tt
others_fit (Lock v) e = tt
others_fit PrecommitNil e = tt
others_fit AwaitPrecommits e = tt
others_fit (Decide r v) e = tt
others_fit (SkipRound r) e = tt
others_fit (TimedOut t) e = tt

-- the node and what it released
pub record OutcomeFits (o : Outcome) : Type 0 where
  pub node : NodeFits o.node
  pub out : (b : Body) → b ∈ o.out → IsBody b

-- a journal with what a stop's cut added
pub record JournalFits (j : List Record) : Type 0 where
  pub each : (r : Record) → r ∈ j → RecordFits r
  pub height : height_of j ≤ 2 ^ 48
  pub grows : Grows j

journal_of : (n : Node) → NodeFits n → JournalFits n.journal
journal_of n f = record { each = f.journal; height = subst (λ h. h ≤ 2 ^ 48) f.tied.height f.state.height; grows = f.tied.grows }

module _ (c : Setting) (one : 1 ≤ length c.powers) (few : length c.powers ≤ 128) where
  module _ (p : ℕ) (l : p < length c.powers) (n : Node) (f : NodeFits n) where
    -- the ways in which bytes that are read move a node
    come_cases : (r : Result Message Fault) → ((m : Message) → r ≡ Ok m → IsMessage m) → (P : Outcome → Type 0) → P (nothing n)
        → ((m : Message) (b : Body) → IsBody b → AreTags m.tags → IsWithin b → P (taken_in n m b))
        → ((b : Bundle) → IsBundle b → holds (context c p) n.state (DecideByBundle b) ≡ true → P (firing c p n (DecideByBundle b)))
        → P (arrival_of c p n r)
    come_cases (Err fault) read P none taken bundle = none
    come_cases (Ok m) read P none taken bundle =
        cond_both (accepts c p n m) (received c p n m m.body) (nothing n) P (by_body m.body (read m refl).body) (λ _. none)
      where
        tags : AreTags m.tags
        tags = (read m refl).tags

        by_body : (b : Body) → IsBody b → is_none (first_cause (causes c p n m b)) ≡ true → P (received c p n m b)
        by_body (OfTx t) h e = taken m (OfTx t) h tags tt
        by_body (OfProposal q) h e = let k = none_stand (causes c p n m (OfProposal q)) e in taken m (OfProposal q) h tags (ltb-false _ _ k.1.1.1.0)
        by_body (OfVote v) h e = let k = none_stand (causes c p n m (OfVote v)) e in taken m (OfVote v) h tags (ltb-false _ _ k.1.1.1.0)
        by_body (OfAsk a) h e = taken m (OfAsk a) h tags tt
        by_body (OfBundle b) h e =
            let k = none_stand (causes c p n m (OfBundle b)) e in
            let a = and_parts _ _ (not-false _ k.1.1.0) in
            let room : nat_lt n.state.height (2 ^ 48) ≡ true = subst (λ x. nat_lt x (2 ^ 48) ≡ true) (eqb-true _ _ a.0) a.1 in
            bundle b h (and_from _ _ (and_from _ _ (and_from _ _ (and_from _ _ room a.0) (not-false _ k.1.1.1.0)) (not-false _ k.1.1.1.1.1.0)) (not-false _ k.1.1.1.1.1.1.0))

    small : p < 2 ^ 16
    small = omega (arith, l, few)

    fired : (k : Rule) → RuleFits k → holds (context c p) n.state k ≡ true → OutcomeFits (firing c p n k)
    fired k u h = record {
      node = fired_fits c one few p l n f k u h;
      out = released_fits p small (saved (context c p) (pick n.queues) n.state k) (wrote_fits c one few p l n f k u h);
    }

    pub comes_fits : (bytes : List ℕ) → AreBytes bytes → OutcomeFits (arrival_of c p n (message_of bytes))
    comes_fits bytes fits = come_cases (message_of bytes) (λ m e. ((frame_law bytes m fits).0 e).lawful) OutcomeFits
        (record { node = f; out = λ b i. absurd i })
        (λ m b h tags w. record { node = taken_fits n m b f h tags w; out = replies_fit n f b })
        (λ b h e. fired (DecideByBundle b) h e)

    pub tried_fits : (k : Rule) → OutcomeFits (tried c p n k)
    tried_fits k = try_cases c p n k OutcomeFits (record { node = f; out = λ b i. absurd i }) (λ nb h. fired k (others_fit k nb) h)

    cut_fits : (cut : Option Cut) → HasBytes (Restarts p cut) → JournalFits (cut_record c p n cut ++ n.journal)
    cut_fits None fits = journal_of n f
    cut_fits (Some (InArrival bytes)) fits = come_cases (message_of bytes) (λ m e. ((frame_law bytes m fits).0 e).lawful) (λ o. JournalFits (option_to_list o.wrote ++ n.journal))
        (journal_of n f) (λ m b _ _ _. journal_of n f) (λ b h e. journal_of (firing c p n (DecideByBundle b)).node (fired (DecideByBundle b) h e).node)
    cut_fits (Some (InFiring k)) fits = try_cases c p n k (λ o. JournalFits (option_to_list o.wrote ++ n.journal)) (journal_of n f)
        (λ nb h. journal_of (firing c p n k).node (fired k (others_fit k nb) h).node)

    pub restarted_fits : (cut : Option Cut) → HasBytes (Restarts p cut) → NodeFits (opened p (cut_record c p n cut ++ n.journal))
    restarted_fits cut fits = let j = cut_fits cut fits in opened_fits p small (cut_record c p n cut ++ n.journal) j.each j.height j.grows

  -- ---- worlds

  record WorldFits (w : World) : Type 0 where
    nodes : (p : ℕ) → p < length c.powers → NodeFits (w.nodes p)
    released : (b : Body) → b ∈ w.released → IsBody b

  moves : (w : World) (p : ℕ) (o : Outcome) → WorldFits w → OutcomeFits o → WorldFits (moved w p o)
  moves w p o f t = record {
    nodes = λ q l. cond_both (q == p) o.node (w.nodes q) NodeFits (λ _. t.node) (λ _. f.nodes q l);
    released = λ b i. elim (in_append b o.out w.released i) [ inl k ↦ t.out b k | inr k ↦ f.released b k ];
  }

  -- the same node, or another, and these bodies
  releases : (n : Node) (out : List Body) → NodeFits n → ((b : Body) → b ∈ out → IsBody b) → OutcomeFits (record { node = n; wrote = None; out = out })
  releases n out f each = record { node = f; out = each }

  module _ (h : Honesty) where
    happens_fits : (w : World) (e : Event) → WorldFits w → AtCorrect c h (at_validator e) → HasBytes e → WorldFits (happens c w e)
    happens_fits w (Sends client op) f at fits = record { nodes = f.nodes; released = f.released }
    happens_fits w (Comes p bytes) f at fits = moves w p _ f (comes_fits p at.0 (w.nodes p) (f.nodes p at.0) bytes fits)
    happens_fits w (Fires p k) f at fits = moves w p _ f (tried_fits p at.0 (w.nodes p) (f.nodes p at.0) k)
    happens_fits w (Asks p) f at fits = moves w p _ f (releases (w.nodes p) (OfAsk (record { height = (w.nodes p).state.height; sender = p }) ∷ []) (f.nodes p at.0) asked)
      where
        height : (w.nodes p).state.height ≤ 2 ^ 48
        height = (f.nodes p at.0).state.height

        asked : (b : Body) → b ∈ (OfAsk (record { height = (w.nodes p).state.height; sender = p }) ∷ []) → IsBody b
        asked b (inl e) = subst IsBody (sym e) (record { height = omega (arith, height); sender = small p at.0 (w.nodes p) (f.nodes p at.0) })
        asked b (inr none) = absurd none
    happens_fits w (Resends p) f at fits = moves w p _ f (releases (w.nodes p) (own_since p (w.nodes p).journal) (f.nodes p at.0) (since_fits p (small p at.0 (w.nodes p) (f.nodes p at.0)) (w.nodes p).journal (f.nodes p at.0).journal))
    happens_fits w (Restarts p cut) f at fits = moves w p _ f (releases (opened p (cut_record c p (w.nodes p) cut ++ (w.nodes p).journal)) [] (restarted_fits p at.0 (w.nodes p) (f.nodes p at.0) cut fits) (λ b i. absurd i))

    run_fits : (w : World) (es : List Event) → WorldFits w → AllByRecursion (λ e. AtCorrect c h (at_validator e) × HasBytes e) es → WorldFits (run c w es)
    run_fits w [] f fits = f
    run_fits w (e ∷ es) f fits = run_fits (happens c w e) es (happens_fits w e f fits.0.0 fits.0.1) fits.1

  begins_fit : WorldFits (beginning c)
  begins_fit = record {
    nodes = λ p l. opened_fits p (omega (arith, l, few)) [] (λ r i. absurd i) (omega arith) tt;
    released = λ b i. absurd i;
  }

  heard : (b : Body) → IsBody b → IsHeard c b
  heard b h = let k = tagged_law c b one few h in record { read = k.1; tags = k.2 }

pub heard_law : HeardLaw
heard_law c one few = (
  λ h events fits b i. heard c one few b ((run_fits c one few h (beginning c) events (begins_fit c one few) fits).released b i),
  λ t h none. heard c one few (OfTx t) (h, none),
)
