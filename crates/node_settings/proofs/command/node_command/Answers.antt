use Rattle.std.proofs.Common.{◌∙◌, ap, ap₂}
use Rattle.std.proofs.lemmas.Bool.{and_parts, not-true}
use Rattle.std.proofs.lemmas.Result.{IfOk-weaker}
use Rattle.clap.specs.Words.{App, Shape, with_subcommand}
use Rattle.node_settings.proofs.Commands.{run_is_plain, send_is_plain, keys_is_plain, journal_is_plain}
use Rattle.node_settings.proofs.command.node_command.Goals as goal

pub returns : goal.returns
returns c =
    let run_is = ap (λ (a : App). a.top) c.in_ok-run.ensures in
    let send_is = ap (λ (a : App). a.top) c.in_ok-send.ensures in
    let keys_is = ap (λ (a : App). a.top) c.in_ok-keys.ensures in
    let journal_is = ap (λ (a : App). a.top) c.in_ok-journal.ensures in
    let run_plain = and_parts _ _ (and_parts _ _ (and_parts _ _ (ap (λ (s : Shape). s.is_plain) run_is ∙ run_is_plain)).1).1 in
    let send_plain = and_parts _ _ (and_parts _ _ (and_parts _ _ (ap (λ (s : Shape). s.is_plain) send_is ∙ send_is_plain)).1).1 in
    let keys_plain = and_parts _ _ (and_parts _ _ (and_parts _ _ (ap (λ (s : Shape). s.is_plain) keys_is ∙ keys_is_plain)).1).1 in
    let journal_plain = and_parts _ _ (and_parts _ _ (and_parts _ _ (ap (λ (s : Shape). s.is_plain) journal_is ∙ journal_is_plain)).1).1 in
    let first_is = c.in_ok-subcommand.ensures.shape (not-true _ run_plain.0) ∙ ap₂ with_subcommand c.top_command.ensures run_is in
    let second_is = c.in_ok-subcommand-2.ensures.shape (not-true _ send_plain.0) ∙ ap₂ with_subcommand first_is send_is in
    let third_is = c.in_ok-subcommand-3.ensures.shape (not-true _ keys_plain.0) ∙ ap₂ with_subcommand second_is keys_is in
    IfOk-weaker c.subcommand-4.result _ _ (λ made added. added.shape (not-true _ journal_plain.0) ∙ ap₂ with_subcommand third_is journal_is) c.subcommand-4.ensures
