use Rattle.std.proofs.Common.{◌∙◌, arith}
use Rattle.std.proofs.lemmas.Str.{IsUtf8-from_ascii}
use Rattle.hex.specs.Hex.{lower_digits}
use Rattle.hex.proofs.HexLemmas.{IsAscii-encode_with}
use Rattle.printed_lines.proofs.Digits.{spelled, digits_are_ascii}
use Rattle.printed_lines.proofs.hexadecimal.digits_of.Goals as goal

pub unreachable-requires-in_default-from_utf8 : goal.unreachable-requires-in_default-from_utf8
unreachable-requires-in_default-from_utf8 c =
    let ascii = IsAscii-encode_with lower_digits c.args.bytes.now digits_are_ascii in
    c.in_default-from_utf8.ensures.cases.0 (IsUtf8-from_ascii _ (rw c.in-Ok.ensures.written ascii))

pub returns : goal.returns
returns c = c.in-Ok-from_utf8.ensures.cases.0 ∙ c.in-Ok.ensures.written ∙ spelled c.args.bytes.now (λ i. omega (arith, c.type_inv.bytes i))
