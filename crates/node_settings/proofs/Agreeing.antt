-- Faults of a parse of which either may be told ask for one thing.
use Rattle.std.proofs.Common.{◌≡◌, refl, ℕ, zero, suc, Bool, true, false, cond, not, ◌&&◌, List, [], ◌∷◌, Option, Some, None, inl, inr, sym, ap, ◌∙◌, length}
use Rattle.std.specs.Prelude.{◌+◌, min, codes, is_some, drop, encode_utf8, find}
use Rattle.std.specs.Str.{bytes_eq}
use Rattle.std.proofs.lemmas.Bool.{and_right}
use Rattle.std.specs.Option.{option_map_or}
use Rattle.clap.specs.Kinds.{Kinds, IsAmong, or_else, range_kinds, request_kinds, value_kinds, values_kinds}
use Rattle.clap.specs.Walk.{Held, Names, Row, Rule, Step, Text, Waiting, Walk, subcommand_met, walked, word_met}
use Rattle.clap.specs.Walk.{next, trailing, subcommand, value, idle, option, positional}
use Rattle.clap.specs.Walk.{count_of, with_default, most_values, action_of, values_or_missing, arg_by_short, arg_by_id, arg_by_index, arg_by_long, answers_to, walk, walk_from, settled, finished, nothing_held}
use Rattle.clap.specs.Lexer.{short_of}
use Rattle.clap.specs.Matches.{count_text}
use Rattle.clap.specs.Facts.{parser_of_value, unwrap_or_range}
use Rattle.clap.specs.Simple.{App, Shape, entered, label_of, names_of}
use Rattle.clap.specs.Faults.{count_fault, set_fault, action_fault, use_fault, settle_fault, react_fault, option_fault, long_fault, short_fault, bundle_step_fault, flags_fault, flag_word_fault, other_fault, word_fault, positional_fault, stray_fault, step_fault, turn_fault, walk_fault, default_fault, defaults_fault, check_fault, level_fault, entered_fault, built_fault}
use Rattle.clap.specs.declared.builder.ArgAction.{ArgAction}
use Rattle.clap.specs.declared.builder.ArgAction.TheVariants.{Set, Append, SetTrue, SetFalse, Count, Help, HelpShort, HelpLong, Version}
use Rattle.clap.specs.declared.error.ErrorKind.{ErrorKind}
use Rattle.clap.specs.declared.error.ErrorKind.TheVariants as kind
use Rattle.node_settings.specs.Settings.{asked_by}

pub record Agrees (faults : Kinds) : Type 0 where
  pub same : (j k : ErrorKind) → IsAmong j faults → IsAmong k faults → asked_by j ≡ asked_by k

agree_none : Agrees []
agree_none = record { same = λ j k a b. absurd a }

is_only : (j k : ErrorKind) → IsAmong j (k ∷ []) → j ≡ k
is_only j k (inl e) = e
is_only j k (inr none) = absurd none

agree_one : (k : ErrorKind) → Agrees (k ∷ [])
agree_one k = record { same = λ i j a b. ap asked_by (is_only i k a ∙ sym (is_only j k b)) }

agree_or : (a b : Kinds) → Agrees a → Agrees b → Agrees (or_else a b)
agree_or [] b p q = q
agree_or (k ∷ ks) b p q = p

agree_if : (b : Bool) (x y : Kinds) → Agrees x → Agrees y → Agrees (cond b x y)
agree_if true x y p q = p
agree_if false x y p q = q

agree_map : {A : Type 0} (f : A → Kinds) (o : Option A) → ((x : A) → Agrees (f x)) → Agrees (option_map_or f o [])
agree_map f None p = agree_none
agree_map f (Some x) p = p x

-- ---- one use of an argument

value_agrees : (i : Bool) (parser : _) (text : List ℕ) → Agrees (value_kinds i parser text)
value_agrees i parser text = agree_if _ _ _ agree_none (agree_one _)

values_agree : (i : Bool) (parser : _) (texts : List (List ℕ)) → Agrees (values_kinds i parser texts)
values_agree i parser [] = agree_none
values_agree i parser (v ∷ vs) = agree_or _ _ (value_agrees i parser v) (values_agree i parser vs)

range_agrees : (least most n : ℕ) → Agrees (range_kinds least most n)
range_agrees least most n = search (agree_if, agree_one, agree_none)

request_agrees : (a : ArgAction) → Agrees (request_kinds a)
request_agrees Set = agree_none
request_agrees Append = agree_none
request_agrees SetTrue = agree_none
request_agrees SetFalse = agree_none
request_agrees Count = agree_none
request_agrees Help = agree_one _
request_agrees HelpShort = agree_one _
request_agrees HelpLong = agree_one _
request_agrees Version = agree_one _

set_agrees : (again : Bool) (a : Rule) (values : List Text) (rows : List Row) → Agrees (set_fault again a values rows)
set_agrees again a values rows = agree_or _ _ (agree_if _ _ _ (agree_one _) agree_none) (values_agree _ _ values)

count_agrees : (a : Rule) (values : List Text) (rows : List Row) → Agrees (count_fault a values rows)
count_agrees a [] rows = value_agrees a.ignore_case (parser_of_value a.parser) (count_text (min (count_of a.id rows + 1) 255))
count_agrees a (v ∷ vs) rows = values_agree _ _ (v ∷ vs)

action_agrees : (x : ArgAction) (again : Bool) (a : Rule) (values : List Text) (rows : List Row) → Agrees (action_fault x again a values rows)
action_agrees Set again a values rows = set_agrees again a values rows
action_agrees SetTrue again a values rows = set_agrees again a values rows
action_agrees SetFalse again a values rows = set_agrees again a values rows
action_agrees Append again a values rows = values_agree _ _ values
action_agrees Count again a values rows = count_agrees a values rows
action_agrees Help again a values rows = request_agrees Help
action_agrees HelpShort again a values rows = request_agrees HelpShort
action_agrees HelpLong again a values rows = request_agrees HelpLong
action_agrees Version again a values rows = request_agrees Version

use_agrees : (again : Bool) (a : Rule) (values : List Text) (rows : List Row) → Agrees (use_fault again a values rows)
use_agrees again a values rows =
    agree_or _ _ (range_agrees (unwrap_or_range a.range).start_inclusive (most_values a) (length values)) (action_agrees (action_of a) again a (values_or_missing a values) rows)

-- ---- the walk

settle_agrees : (c : List Rule) (again : Bool) (h : Held) → Agrees (settle_fault c again h)
settle_agrees c again h = agree_map _ h.pending (λ (p : Text × List Text). agree_map _ (arg_by_id c p.0) (λ (a : Rule). use_agrees again a p.1 h.rows))

react_agrees : (c : List Rule) (again : Bool) (a : Rule) (values : List Text) (h : Held) → Agrees (react_fault c again a values h)
react_agrees c again a values h = agree_or _ _ (settle_agrees c again h) (use_agrees again a values _)

option_agrees : (c : List Rule) (again : Bool) (a : Rule) (v : Option Text) (h : Held) → Agrees (option_fault c again a v h)
option_agrees c again a (Some v) h = react_agrees c again a (v ∷ []) h
option_agrees c again a None h = settle_agrees c again h

long_agrees : (c : List Rule) (again : Bool) (a : Option Rule) (v : Option Text) (h : Held) → Agrees (long_fault c again a v h)
long_agrees c again None v h = agree_one _
long_agrees c again (Some a) v h = agree_if _ _ _ (option_agrees c again a v h) (agree_if _ _ _ (agree_one _) (react_agrees c again a [] h))

short_agrees : (c : List Rule) (again : Bool) (a : Option Rule) (rest : Text) (h : Held) (more : Held → Kinds) → ((g : Held) → Agrees (more g)) → Agrees (short_fault c again a rest h more)
short_agrees c again None rest h more p = agree_one _
short_agrees c again (Some a) rest h more p = agree_if _ _ _ (option_agrees c again a _ h) (agree_or _ _ (react_agrees c again a [] h) (p _))

step_agrees : (c : List Rule) (again : Bool) (o : Option ℕ) (flags : Text) (skip : ℕ) (h : Held) (more : Text → ℕ → Held → Kinds)
    → ((t : Text) (n : ℕ) (g : Held) → Agrees (more t n g)) → Agrees (bundle_step_fault c again o flags skip h more)
step_agrees c again None flags skip h more p = agree_none
step_agrees c again (Some x) flags zero h more p =
    let rest = drop (length (encode_utf8 x)) flags in
    short_agrees c again (arg_by_short c x) rest h (more rest 0) (λ g. p rest 0 g)
step_agrees c again (Some x) flags (suc skip) h more p = p _ skip h

flags_agree : (c : List Rule) (again : Bool) (n : ℕ) (flags : Text) (skip : ℕ) (h : Held) → Agrees (flags_fault c again n flags skip h)
unfolding flags_fault
flags_agree c again zero flags skip h = agree_none
flags_agree c again (suc n) flags skip h = step_agrees c again _ flags skip h _ (λ t m g. flags_agree c again n t m g)

flag_word_agrees : (c : List Rule) (again : Bool) (o : Option (Text × Option Text)) (word : Text) (h : Held) → Agrees (flag_word_fault c again o word h)
flag_word_agrees c again (Some p) word h = long_agrees c again (arg_by_long c p.0) p.1 h
flag_word_agrees c again None word h = agree_map _ (short_of word) (λ flags. flags_agree c again _ flags _ _)

-- no word is the subcommand `help`
abbrev pub HasNoHelp : Shape → Names → Type 0
HasNoHelp s names = (waiting : Waiting) (word name : Text) → subcommand_met names waiting word ≡ Some name → s.disable_help_subcommand ≡ true

other_agrees : (s : Shape) (o : Option Text) (word : Text) (h : Held) → ((name : Text) → o ≡ Some name → s.disable_help_subcommand ≡ true) → Agrees (other_fault s o word h)
other_agrees s (Some name) word h p =
    let off : not s.disable_help_subcommand ≡ false = rw (p name refl) refl in
    let none : (bytes_eq name (codes "help") && not s.disable_help_subcommand) ≡ false = and_right (bytes_eq name (codes "help")) (not s.disable_help_subcommand) off in
    rw none agree_none
other_agrees s None word h p = agree_if _ _ _ agree_none (flag_word_agrees s.rules _ _ word h)

word_agrees : (s : Shape) (names : Names) (t : Bool) (waiting : Waiting) (word : Text) (h : Held) → HasNoHelp s names → Agrees (word_fault s names t waiting word h)
word_agrees s names t waiting word h p = agree_if _ _ _ agree_none (other_agrees s (subcommand_met names waiting word) word h (λ name e. p waiting word name e))

agree_two : (j k : ErrorKind) → asked_by j ≡ asked_by k → Agrees (j ∷ k ∷ [])
agree_two j k e = record { same = either }
  where
    as_first : (i : ErrorKind) → IsAmong i (j ∷ k ∷ []) → asked_by i ≡ asked_by j
    as_first i (inl h) = ap asked_by h
    as_first i (inr h) = ap asked_by (is_only i k h) ∙ sym e

    either : (a b : ErrorKind) → IsAmong a (j ∷ k ∷ []) → IsAmong b (j ∷ k ∷ []) → asked_by a ≡ asked_by b
    either a b p q = as_first a p ∙ sym (as_first b q)

stray_agrees : (s : Shape) → Agrees (stray_fault s)
stray_agrees s = agree_if s.is_leaf _ _ (agree_one kind.UnknownArgument) (agree_two kind.UnknownArgument kind.InvalidSubcommand refl)

positional_agrees : (c : List Rule) (again : Bool) (a : Rule) (h : Held) → Agrees (positional_fault c again a h)
positional_agrees c again a h = agree_if _ _ _ agree_none (settle_agrees c again h)

agree_map_else : {A : Type 0} (f : A → Kinds) (o : Option A) (rest : Kinds) → Agrees rest → ((x : A) → Agrees (f x)) → Agrees (option_map_or f o rest)
agree_map_else f None rest q p = q
agree_map_else f (Some x) rest q p = p x

value_step_agrees : (s : Shape) (position : ℕ) (h : Held) (step : Step) → Agrees (step_fault s position h step)
value_step_agrees s position h (next w) = agree_none
value_step_agrees s position h (trailing p) = agree_none
value_step_agrees s position h (subcommand name) = agree_none
value_step_agrees s position h value = agree_map_else _ (arg_by_index s.rules position) _ (stray_agrees s) (λ a. positional_agrees s.rules _ a h)

turn_agrees : (s : Shape) (names : Names) (w : Walk) (word : Text) → HasNoHelp s names → Agrees (turn_fault s names w word)
turn_agrees s names w word p =
    let met = word_met s.rules names w.is_trailing w.waiting w.position word w.held in
    agree_if _ _ _ agree_none (agree_or _ _ (word_agrees s names w.is_trailing w.waiting word w.held p) (value_step_agrees s w.position met.0 met.1))

walk_agrees : (s : Shape) (names : Names) (w : Walk) (words : List Text) → HasNoHelp s names → Agrees (walk_fault s names w words)
unfolding walk_fault
walk_agrees s names w [] p = agree_none
walk_agrees s names w (word ∷ rest) p = agree_or _ _ (turn_agrees s names w word p) (walk_agrees s names (walked s.rules names w word) rest p)

-- ---- after the walk

default_agrees : (rows : List Row) (a : Rule) → Agrees (default_fault rows a)
default_agrees rows a = agree_if _ _ _ agree_none (agree_or _ _ (request_agrees _) (values_agree _ _ a.defaults))

defaults_agree : (rows : List Row) (rules : List Rule) → Agrees (defaults_fault rows rules)
unfolding defaults_fault
defaults_agree rows [] = agree_none
defaults_agree rows (a ∷ rest) = agree_or _ _ (default_agrees rows a) (defaults_agree (with_default rows a) rest)

check_agrees : (s : Shape) (rows : List Row) (t : Bool) → Agrees (check_fault s rows t)
check_agrees s rows t = search (agree_if, agree_one, agree_none)

level_agrees : (s : Shape) (names : Names) (h : Held) (words : List Text) (t : Bool) (below : Kinds) → HasNoHelp s names → Agrees below → Agrees (level_fault s names h words t below)
level_agrees s names h words t below p q =
    let end = (walk s.rules names h words).held in
    agree_or _ _ (walk_agrees s names (walk_from h) words p)
    (agree_or _ _ q (agree_or _ _ (settle_agrees s.rules s.args_override_self end)
    (agree_or _ _ (defaults_agree (settled s.rules end).rows s.rules) (check_agrees s (finished s.rules end) t))))

nothing_met : (s : Shape) → HasNoHelp s []
nothing_met s idle word name e = cc
nothing_met s (option id) word name e = cc
nothing_met s positional word name e = cc

entered_agrees : (a : App) (stop : Option (Text × List Text)) → Agrees (entered_fault a stop)
entered_agrees a stop = agree_map _ stop (λ (p : Text × List Text). agree_map _ (find (λ s. answers_to p.0 (label_of s)) a.subs) (λ (s : Shape). level_agrees s [] nothing_held p.1 false [] (nothing_met s) agree_none))

pub built_agrees : (a : App) (h : Held) (words : List Text) → a.top.disable_help_subcommand ≡ true → Agrees (built_fault a h words)
built_agrees a h words off =
    let stop = (walk a.top.rules (names_of a) h words).stopped in
    level_agrees a.top (names_of a) h words (is_some (entered a stop)) (entered_fault a stop) (λ waiting word name e. off) (entered_agrees a stop)
