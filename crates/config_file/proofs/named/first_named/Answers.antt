use Rattle.std.proofs.Common.{◌≡◌, ◌∙◌, ◌+◌, ◌-◌, sym, ap, arith, rules, map, drop, length, get_or, Bor, option_map}
use Rattle.std.proofs.lemmas.List.{take_all, length-drop}
use Rattle.clap.specs.Lexer.{name_and_value}
use Rattle.config_file.specs.Named.{Text, value_of}
use Rattle.config_file.proofs.Walking.{named_here, named_later, named_end}
use Rattle.config_file.proofs.named.first_named.Goals as goal

pub returns-then-eq : goal.returns-then-eq
returns-then-eq g c =
    let here = named_here g.T.AsStr.text c.args.words.now c.loop-place.place c.index-words-place.result (omega arith) (search rules) in
    let same : c.as_str.result.now ≡ g.T.AsStr.text (get_or c.args.words.now c.loop-place.place c.index-words-place.result) = search rules in
    let rest = drop (c.loop-place.place + 1) c.args.words.now in
    let whole = take_all (length c.args.words.now - (c.loop-place.place + 1)) rest (omega (arith, length-drop (c.loop-place.place + 1) c.args.words.now)) in
    c.value_of.ensures
    ∙ ap (λ ws. value_of (option_map (λ (text : Bor Text). text.now) c.split_value.result.1) (map g.T.AsStr.text ws)) whole
    ∙ ap (λ v. value_of v (map g.T.AsStr.text rest)) (ap (λ p. p.1) c.split_value.ensures ∙ ap (λ t. (name_and_value t).1) same)
    ∙ sym here ∙ c.loop-place.invariant

pub loop-place-preserved : goal.loop-place-preserved
loop-place-preserved g c =
    sym (named_later g.T.AsStr.text c.args.words.now c.loop-place.place c.index-words-place.result (omega arith) (search rules)) ∙ c.loop-place.invariant

pub returns : goal.returns
returns g c = sym (named_end g.T.AsStr.text c.args.words.now c.loop-place.place (omega arith)) ∙ c.loop-place.invariant
