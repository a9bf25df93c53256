-- Calls keep a node's journal lawful, so each of its decisions has a certificate.
use Rattle.std.proofs.Common.{◌≡◌, ℕ, zero, suc, ◌+◌, ◌*◌, ◌^◌, ◌<◌, ◌≤◌, inl, inr, true, false, List, [], ◌∷◌, ◌++◌, length, reverse, Option, Some, None, option_map, refl, sym, ap, ◌∙◌, subst, arith, append-nil, length-append, eqb-true, ltb-true, leb-true}
use Rattle.std.specs.Prelude.{unwrap_or, nat_lt, nat_le, ◌==◌, ◌&&◌}
use Rattle.std.proofs.lemmas.Bool.{and_parts}
use Rattle.std.proofs.lemmas.List.{length-map, reverse-reverse}
use Rattle.transactions.specs.Grammar.{value_spelling}
use Rattle.messages.specs.Framing.{message_of}
use Rattle.protocol.specs.Values.{Item, Value, item, items, fifo, keeps_limits, valid}
use Rattle.protocol.specs.Tags.{Setting}
use Rattle.protocol.specs.Messages.{Bundle, Record, Own, Decided}
use Rattle.protocol.specs.State.{Node, Rule, DecideByBundle, TimedOut}
use Rattle.protocol.specs.Order.{enabled}
use Rattle.protocol.specs.Refusals.{context}
use Rattle.protocol.specs.Restart.{opened, delivered_of, height_of}
use Rattle.protocol.specs.Arrivals.{firing}
use Rattle.protocol.specs.Effects.{bundles_in}
use Rattle.protocol.specs.History.{Input, Settle, Given, Due, first, firsts, taken, replay}
use Rattle.protocol.proofs.Arrivals.{come_cases, try_cases}
use Rattle.protocol.proofs.Order.{enabled_named}
use Rattle.vote_journal.specs.Order.{may_follow}
use Rattle.vote_journal.specs.Laws.{EachFollows, EachMade, IsLawful}
use Rattle.vote_journal.proofs.Following.{fired_lawful, taken_lawful}
use Rattle.vote_journal.proofs.Kept.{lawful_opened}
use Rattle.vote_journal.proofs.Stops.{whole_lawful}
use Rattle.node_core.specs.Core.{Core, Stands, setting, setting_of, delivered_in}
use Rattle.locked_node.specs.Locked.{Locked, IsLocked}
use Rattle.locked_node.specs.Certified.{IsCertified, AreCertified, WasOpened, IsKnown, CertificatesLaw, CountLaw}
use Rattle.locked_node.proofs.Feeds.{delivered_append}

-- ---- what a lawful journal's decisions are

one_more : (powers : List ℕ) (at : ℕ) (ds : List Bundle) (b : Bundle) → AreCertified powers at ds → IsCertified powers (at + length ds) b → AreCertified powers at (ds ++ b ∷ [])
one_more powers at [] b c last = (subst (λ k. IsCertified powers k b) (omega arith) last, tt)
one_more powers at (d ∷ ds) b c last = (c.0, one_more powers (at + 1) ds b c.1 (subst (λ k. IsCertified powers k b) (omega arith) last))

heights : (j : List Record) → length (bundles_in j) ≡ height_of j
heights [] = refl
heights (Own h r act ∷ j) = heights j
heights (Decided b ∷ j) = omega (arith, length-append (bundles_in j) (b ∷ []), heights j)

each_certified : (powers : List ℕ) (me : ℕ) (j : List Record) → EachFollows powers j → EachMade me j → AreCertified powers 0 (bundles_in j)
unfolding may_follow
each_certified powers me [] f m = tt
each_certified powers me (Own h r act ∷ j) f m = each_certified powers me j f.1 m
each_certified powers me (Decided b ∷ j) f m =
    let before = and_parts (b.height == height_of j && nat_lt b.height (2 ^ 48)) _ (and_parts _ _ f.0).0 in
    let height : b.height ≡ height_of j = eqb-true _ _ (and_parts (b.height == height_of j) _ before.0).0 in
    one_more powers 0 (bundles_in j) b (each_certified powers me j f.1 m.1) (record { height = omega (arith, height, heights j); name = m.0.name; distinct = m.0.order; quorum = before.1 })

few_heights : (powers : List ℕ) (j : List Record) → EachFollows powers j → height_of j ≤ 2 ^ 48
unfolding may_follow
few_heights powers [] f = omega arith
few_heights powers (Own h r act ∷ j) f = few_heights powers j f.1
few_heights powers (Decided b ∷ j) f =
    let here = and_parts (b.height == height_of j) (nat_lt b.height (2 ^ 48)) (and_parts _ _ (and_parts _ _ f.0).0).0 in
    let same : b.height ≡ height_of j = eqb-true _ _ here.0 in
    let less : b.height < 2 ^ 48 = ltb-true _ _ here.1 in
    omega (arith, same, less)

few_txs : (d : List Item) (v : Value) → valid d v ≡ true → length (items v) ≤ 256
unfolding valid
few_txs d v e =
    let limits : keeps_limits v ≡ true = (and_parts (fifo (d ++ items v)) (keeps_limits v) e).1 in
    let within : length v.txs ≤ 256 = leb-true (length v.txs) 256 (and_parts (nat_le (length v.txs) 256) (nat_le (length (value_spelling v)) 500000) limits).0 in
    omega (arith, within, length-map v.txs item)

few_items : (powers : List ℕ) (j : List Record) → EachFollows powers j → length (delivered_in (bundles_in j)) ≤ 256 * height_of j
unfolding may_follow
few_items powers [] f = omega arith
few_items powers (Own h r act ∷ j) f = few_items powers j f.1
few_items powers (Decided b ∷ j) f =
    let here : length (items b.value) ≤ 256 = few_txs (delivered_of j) b.value (and_parts _ (valid (delivered_of j) b.value) f.0).1 in
    let all : length (delivered_in (bundles_in j ++ b ∷ [])) ≡ length (delivered_in (bundles_in j)) + length (items b.value) = ap length (delivered_append (bundles_in j) (b ∷ [])) ∙ length-append (delivered_in (bundles_in j)) (delivered_in (b ∷ []))
    ∙ ap (λ l. length (delivered_in (bundles_in j)) + length l) (append-nil (items b.value)) in
    omega (arith, all, here, few_items powers j f.1)

-- ---- calls keep it lawful

module _ (c : Setting) (p : ℕ) where
  lawful_taken : (n : Node) (input : Input) → IsLawful c p n → IsLawful c p (taken c p n input)
  lawful_taken n Settle l = l
  lawful_taken n (Given bytes) l = come_cases c p n (message_of bytes) (λ o. IsLawful c p o.node) l (λ m b _ _ t. taken_lawful c p n m b l t) (λ m b _ _ h. fired_lawful c p n (DecideByBundle b) l h)
  lawful_taken n (Due t) l = try_cases c p n (TimedOut t) (λ o. IsLawful c p o.node) l (λ _ h. fired_lawful c p n (TimedOut t) l h)

  lawful_first : (n : Node) → IsLawful c p n → IsLawful c p (first c p n)
  lawful_first n l = by_rule (enabled c.powers n.state) refl
    where
      by_rule : (o : Option Rule) → enabled c.powers n.state ≡ o → IsLawful c p (unwrap_or (option_map (λ k. (firing c p n k).node) o) n)
      by_rule None e = l
      by_rule (Some k) e = fired_lawful c p n k l (enabled_named (context c p) n.state k e).0

  lawful_firsts : (times : ℕ) (n : Node) → IsLawful c p n → IsLawful c p (firsts c p times n)
  lawful_firsts zero n l = l
  lawful_firsts (suc times) n l = lawful_firsts times (first c p n) (lawful_first n l)

  lawful_replay : (n : Node) (calls : List (Input × ℕ)) → IsLawful c p n → IsLawful c p (replay c p n calls)
  lawful_replay n [] l = l
  lawful_replay n (e ∷ earlier) l = lawful_firsts e.1 _ (lawful_taken _ e.0 (lawful_replay n earlier l))

-- ---- of a core

-- its decisions are those of lawful records
record OfLawful (core : Core) : Type 0 where
  records : List Record
  decisions : core.decisions ≡ bundles_in records
  follows : EachFollows core.machine.powers records
  made : EachMade core.machine.me records

running_lawful : (core : Core) (n : Node) → Stands n core → core.journal.failed ≡ false → OfLawful core
unfolding setting
running_lawful core n s running =
    let l = lawful_opened (setting_of core) core.machine.me (reverse n.journal) (whole_lawful core.machine.powers core.machine.me _ (reverse n.journal) (s.journal running)) in record {
      records = n.journal;
      decisions = s.decisions;
      follows = subst (EachFollows core.machine.powers) (reverse-reverse n.journal) l.follows;
      made = subst (EachMade core.machine.me) (reverse-reverse n.journal) l.made;
    }

opened_is_lawful : (base : Core) (w : WasOpened base) → IsLawful (setting_of base) base.machine.me (opened base.machine.me w.records)
unfolding setting
opened_is_lawful base w =
    subst (λ j. IsLawful (setting_of base) base.machine.me (opened base.machine.me j)) (reverse-reverse w.records) (lawful_opened (setting_of base) base.machine.me (reverse w.records) (whole_lawful base.machine.powers base.machine.me _ (reverse w.records) (w.stands.journal w.running)))

replayed_lawful : (l : Locked) → IsLocked l → WasOpened l.base → OfLawful l.core
unfolding setting
replayed_lawful l h w =
    let r = h.replay.replayed (opened l.base.machine.me w.records) w.stands in
    let n : Node = replay (setting_of l.base) l.base.machine.me (opened l.base.machine.me w.records) r.events in
    let k = lawful_replay (setting_of l.base) l.base.machine.me (opened l.base.machine.me w.records) r.events (opened_is_lawful l.base w) in record {
      records = n.journal;
      decisions = r.stands.decisions;
      follows = subst (λ powers. EachFollows powers n.journal) (sym h.replay.same.powers) k.follows;
      made = subst (λ me. EachMade me n.journal) (sym h.replay.same.me) k.made;
    }

of_lawful : (l : Locked) → IsLocked l → IsKnown l → OfLawful l.core
of_lawful l h (inl running) = let o = h.replay.opened in running_lawful l.core _ (h.replay.replayed o.0 o.1).stands running
of_lawful l h (inr w) = replayed_lawful l h w

pub certificates : CertificatesLaw
certificates l h k = let o = of_lawful l h k in subst (AreCertified l.core.machine.powers 0) (sym o.decisions) (each_certified l.core.machine.powers l.core.machine.me o.records o.follows o.made)

pub counts : CountLaw
counts l h k =
    let o = of_lawful l h k in
    let items : length (delivered_in l.core.decisions) ≤ 256 * height_of o.records = subst (λ d. length (delivered_in d) ≤ 256 * height_of o.records) (sym o.decisions) (few_items l.core.machine.powers o.records o.follows) in
    let heights : height_of o.records ≤ 2 ^ 48 = few_heights l.core.machine.powers o.records o.follows in
    omega (arith, items, heights)
