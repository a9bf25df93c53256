-- A rule that is named holds, and where none is named no internal rule holds.
use Rattle.std.proofs.Common.{◌≡◌, ◌<◌, List, [], ℕ, true, false, Option, Some, None, IfSome, option_map, sym}
use Rattle.std.specs.Prelude.{IfNone}
use Rattle.protocol.specs.State.{Context, State, Rule}
use Rattle.protocol.specs.Rules.{holds}
use Rattle.protocol.specs.Order.{enabled, row}
use Rattle.protocol.proofs.Order.{enabled_law, quiet_law}
use Rattle.round_machine.specs.Naming.{rule_of}
use Rattle.round_machine.specs.declared.rule.Rule.{Rule as Name}

pub named_holds : (powers : List ℕ) (s : State) (o : Option Name) → option_map (rule_of s) o ≡ enabled powers s → IfSome o (λ rule. (g : Context) → g.powers ≡ powers → holds g s (rule_of s rule) ≡ true)
named_holds powers s None e = tt
named_holds powers s (Some rule) e = λ g same. (enabled_law g s (rule_of s rule) (rw same (sym e))).1

-- the law asks a context for its powers alone
abbrev of_powers : List ℕ → Context
of_powers powers = record { powers = powers; me = 0; genuine = λ _. false; vouches = λ _ _. false; certified = λ _. []; own_tags = λ _ _ _. [] }

pub named_internal : (powers : List ℕ) (s : State) (o : Option Name) → option_map (rule_of s) o ≡ enabled powers s → IfSome o (λ rule. row (rule_of s rule) < 9)
named_internal powers s None e = tt
named_internal powers s (Some rule) e = (enabled_law (of_powers powers) s (rule_of s rule) (sym e)).0

pub named_quiet : (powers : List ℕ) (s : State) (o : Option Name) → option_map (rule_of s) o ≡ enabled powers s → IfNone o ((g : Context) → g.powers ≡ powers → (rule : Rule) → row rule < 9 → holds g s rule ≡ false)
named_quiet powers s (Some rule) e = tt
named_quiet powers s None e = λ g same rule i. quiet_law g s (rw same (sym e)) rule i
