use Rattle.std.proofs.Common.{ℕ, List, ◌++◌, flat_map, sym, ap, ◌∙◌, rules, append_assoc}
use Rattle.std.proofs.Output.{has_written_append}
use Rattle.std.proofs.lemmas.Grind.{flat_map-append}
use Rattle.std.specs.Slice.Iter.{chunks_rest}
use Rattle.printed_lines.specs.Items.{hex_of}
use Rattle.printed_lines.proofs.hexadecimal.HexDisplay.fmt.Goals as goal

pub loop-part-preserved : goal.loop-part-preserved
loop-part-preserved g c =
    let part = c.in-Some.part.now in
    let steps = c.in-Some.ensures.steps in
    let size = c.loop-part.invariant.2 in (
      search rules,
      tt,
      steps.0 ∙ size,
      λ plain.
          let so_far = c.loop-part.invariant.3 plain in (
            so_far.0 ++ flat_map hex_of part,
            has_written_append _ _ _ _ _ _ so_far.1 (search rules),
            append_assoc so_far.0 _ _
                ∙ ap (λ (t : List ℕ). so_far.0 ++ t) (sym (flat_map-append hex_of part (chunks_rest c.next.new.self)) ∙ ap (flat_map hex_of) (sym steps.1.0))
                ∙ so_far.2,
          ),
    )
