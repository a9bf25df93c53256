-- What a parse of the command line tells.
use Rattle.std.proofs.Common.{◌≡◌, true, refl, sym, ap, ◌∙◌, List, [], ◌∷◌, Result, Ok, Err, inl, inr, subst}
use Rattle.clap.specs.Words.{App, Text, is_simple, is_simple_and_free, built, fault_of, subcommand_of, subcommand_rows_of, HasKind, IsAmong, HasMatchesOf, Kinds, kind_of}
use Rattle.clap.specs.declared.ArgMatches.{ArgMatches}
use Rattle.clap.specs.declared.Error.{Error}
use Rattle.clap.specs.declared.error.ErrorKind.{ErrorKind}
use Rattle.clap.specs.Walk.{nothing_held}
use Rattle.clap.specs.Simple.{argument_words}
use Rattle.clap.proofs.OnLiterals.{clap_on_literals}
use Rattle.node_settings.specs.Commands.{run_rules, send_rules, send_flags, keys_rules, journal_rules, journal_flags, node_app}
use Rattle.node_settings.specs.Words.{Gives}
use Rattle.node_settings.specs.Settings.{Asked, asked_by, by_faults, entered_of, settings_of}
use Rattle.node_settings.specs.declared.invocation.SettingsFault.{SettingsFault}
use Rattle.node_settings.specs.declared.invocation.SettingsFault.TheVariants.{Usage, OutOfMemory}
use Rattle.node_settings.proofs.Agreeing.{Agrees, built_agrees}

node_is_simple : is_simple node_app ≡ true
unfolding clap_on_literals run_rules send_rules send_flags keys_rules journal_rules journal_flags
node_is_simple = refl

node_is_free : is_simple_and_free node_app ≡ true
unfolding clap_on_literals run_rules send_rules send_flags keys_rules journal_rules journal_flags
node_is_free = refl

faults_agree : (words : List Text) → Agrees (fault_of node_app words)
faults_agree words = built_agrees (built node_app) nothing_held (argument_words node_app words) refl

told : (faults : Kinds) (asked : Result Asked SettingsFault) (k : ErrorKind) → Agrees faults → IsAmong k faults → by_faults faults asked ≡ asked_by k
told [] asked k agrees among = absurd among
told (fault ∷ faults) asked k agrees among = agrees.same fault k (inl refl) among

-- words without a fault
settings_ok : (words : List Text) → fault_of node_app words ≡ [] → settings_of words ≡ entered_of (subcommand_of node_app words)
unfolding settings_of
settings_ok words e = ap (λ faults. by_faults faults (entered_of (subcommand_of node_app words))) e

-- and words with one
settings_err : (words : List Text) (k : ErrorKind) → IsAmong k (fault_of node_app words) → settings_of words ≡ asked_by k
unfolding settings_of
settings_err words k among = told (fault_of node_app words) (entered_of (subcommand_of node_app words)) k (faults_agree words) among

-- a parse that succeeds
pub ok_gives : (app : App) (words : List Text) (found : ArgMatches) → app ≡ node_app
    → (is_simple_and_free app ≡ true → fault_of app words ≡ []) → HasMatchesOf app words found
    → settings_of words ≡ entered_of (subcommand_rows_of found)
ok_gives app words found e none matches =
    let no_fault = subst (λ a. is_simple_and_free a ≡ true → fault_of a words ≡ []) e none node_is_free in
    let rows = (subst (λ a. HasMatchesOf a words found) e matches node_is_simple).1 in
    settings_ok words no_fault ∙ ap entered_of (sym rows)

-- want of memory comes in place of anything
memory_gives : {X Y : Type 0} (view : X → Y) (answer : Result X SettingsFault) (asked : Result Y SettingsFault) → Gives view answer (Err OutOfMemory) → Gives view answer asked
memory_gives view (Ok x) asked h = cc
memory_gives view (Err Usage) asked h = cc
memory_gives view (Err OutOfMemory) asked h = tt

-- a parse that fails
pub err_gives : {X : Type 0} (view : X → Asked) (answer : Result X SettingsFault) (app : App) (words : List Text) (error : Error) → app ≡ node_app
    → (is_simple_and_free app ≡ true → HasKind (fault_of app words) error) → Gives view answer (asked_by (kind_of error))
    → Gives view answer (settings_of words)
err_gives view answer app words error e has given = go (subst (λ a. is_simple_and_free a ≡ true → HasKind (fault_of a words) error) e has node_is_free)
  where
    go : HasKind (fault_of node_app words) error → Gives view answer (settings_of words)
    go (inl memory) = memory_gives view answer (settings_of words) (subst (λ k. Gives view answer (asked_by k)) memory given)
    go (inr among) = subst (λ asked. Gives view answer asked) (sym (settings_err words (kind_of error) among)) given
