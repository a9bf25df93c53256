-- The subcommands as the parser of words takes them.
use Rattle.std.proofs.Common.{◌≡◌, ◌<◌, ◌+◌, ℕ, true, List, length, map, drop, get_or, refl, sym, ap, ◌∙◌}
use Rattle.std.proofs.lemmas.List.{at_drop_more}
use Rattle.clap.specs.Words.{App, Rule, with_rule}
use Rattle.node_settings.specs.Commands.{with_rules, run_rules, run_app, send_rules, send_flags, send_app, keys_rules, keys_app, journal_rules, journal_flags, journal_app}

-- one rule more of a list
pub with_more : {X : Type 0} (rule : X → Rule) (xs : List X) (i : ℕ) (d : X) (app made : App) → i < length xs → made ≡ with_rule app (rule (get_or xs i d))
    → with_rules made (map rule (drop (i + 1) xs)) ≡ with_rules app (map rule (drop i xs))
with_more rule xs i d app made h e =
    ap (λ a. with_rules a (map rule (drop (i + 1) xs))) e ∙ sym (at_drop_more (λ left. with_rules app (map rule left)) xs i d h)

pub run_is_plain : run_app.top.is_plain ≡ true
unfolding run_rules
run_is_plain = refl

pub send_is_plain : send_app.top.is_plain ≡ true
unfolding send_rules send_flags
send_is_plain = refl

pub keys_is_plain : keys_app.top.is_plain ≡ true
unfolding keys_rules
keys_is_plain = refl

pub journal_is_plain : journal_app.top.is_plain ≡ true
unfolding journal_rules journal_flags
journal_is_plain = refl
