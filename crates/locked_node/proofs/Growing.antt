-- Calls add to the decisions of a node, and take none away.
use Rattle.std.proofs.Common.{◌≡◌, ℕ, zero, suc, List, [], ◌∷◌, ◌++◌, Option, Some, None, option_map, option_to_list, refl, sym, ap, ◌∙◌, append-nil, append_assoc}
use Rattle.std.specs.Prelude.{unwrap_or}
use Rattle.messages.specs.Framing.{message_of}
use Rattle.protocol.specs.Tags.{Setting}
use Rattle.protocol.specs.Messages.{Bundle, Record, Own, Decided}
use Rattle.protocol.specs.State.{Node, Rule, DecideByBundle, TimedOut}
use Rattle.protocol.specs.Rules.{saved}
use Rattle.protocol.specs.Order.{enabled}
use Rattle.protocol.specs.Queues.{pick}
use Rattle.protocol.specs.Refusals.{context}
use Rattle.protocol.specs.Arrivals.{firing}
use Rattle.protocol.specs.World.{tried}
use Rattle.protocol.specs.History.{Input, Settle, Given, Due, first, firsts, taken, after}
use Rattle.protocol.specs.Effects.{bundles_in}
use Rattle.protocol.proofs.Arrivals.{come_cases, try_cases}

-- a journal goes on: its newest record is first
abbrev Grows : List Record → List Record → Type 0
Grows j k = (more : List Record) × (k ≡ more ++ j)

still : (j : List Record) → Grows j j
still j = ([], refl)

grows_on : (i j k : List Record) → Grows i j → Grows j k → Grows i k
grows_on i j k a b = (b.0 ++ a.0, b.1 ∙ ap (λ l. b.0 ++ l) a.1 ∙ sym (append_assoc b.0 a.0 i))

firing_grows : (c : Setting) (p : ℕ) (n : Node) (k : Rule) → Grows n.journal (firing c p n k).node.journal
firing_grows c p n k = (option_to_list (saved (context c p) (pick n.queues) n.state k), refl)

tried_grows : (c : Setting) (p : ℕ) (n : Node) (k : Rule) → Grows n.journal (tried c p n k).node.journal
tried_grows c p n k = try_cases c p n k (λ o. Grows n.journal o.node.journal) (still n.journal) (λ _ _. firing_grows c p n k)

taken_grows : (c : Setting) (p : ℕ) (n : Node) (input : Input) → Grows n.journal (taken c p n input).journal
taken_grows c p n Settle = still n.journal
taken_grows c p n (Given bytes) = come_cases c p n (message_of bytes) (λ o. Grows n.journal o.node.journal) (still n.journal) (λ m b _ _ _. still n.journal) (λ m b _ _ _. firing_grows c p n (DecideByBundle b))
taken_grows c p n (Due t) = tried_grows c p n (TimedOut t)

first_grows : (c : Setting) (p : ℕ) (n : Node) → Grows n.journal (first c p n).journal
first_grows c p n = by_rule (enabled c.powers n.state)
  where
    by_rule : (o : Option Rule) → Grows n.journal (unwrap_or (option_map (λ k. (firing c p n k).node) o) n).journal
    by_rule None = still n.journal
    by_rule (Some k) = firing_grows c p n k

firsts_grow : (c : Setting) (p times : ℕ) (n : Node) → Grows n.journal (firsts c p times n).journal
firsts_grow c p zero n = still n.journal
firsts_grow c p (suc times) n = grows_on _ _ _ (first_grows c p n) (firsts_grow c p times (first c p n))

after_grows : (c : Setting) (p : ℕ) (n : Node) (input : Input) (times : ℕ) → Grows n.journal (after c p n input times).journal
after_grows c p n input times = grows_on _ _ _ (taken_grows c p n input) (firsts_grow c p times (taken c p n input))

bundles_append : (more j : List Record) → bundles_in (more ++ j) ≡ bundles_in j ++ bundles_in more
bundles_append [] j = sym (append-nil (bundles_in j))
bundles_append (Decided b ∷ more) j = ap (λ l. l ++ b ∷ []) (bundles_append more j) ∙ append_assoc (bundles_in j) (bundles_in more) (b ∷ [])
bundles_append (Own h r act ∷ more) j = bundles_append more j

-- decisions, in order of height, go on
abbrev pub GoesOn : List Bundle → List Bundle → Type 0
GoesOn before after = (more : List Bundle) × (after ≡ before ++ more)

pub goes_nowhere : (before after : List Bundle) → after ≡ before → GoesOn before after
goes_nowhere before after e = ([], e ∙ sym (append-nil before))

pub decisions_go_on : (c : Setting) (p : ℕ) (n : Node) (input : Input) (times : ℕ) → GoesOn (bundles_in n.journal) (bundles_in (after c p n input times).journal)
decisions_go_on c p n input times = let g = after_grows c p n input times in (bundles_in g.0, ap bundles_in g.1 ∙ bundles_append g.0 n.journal)
