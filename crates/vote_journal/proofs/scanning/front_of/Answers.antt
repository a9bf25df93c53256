use Rattle.std.proofs.Common.{◌≡◌, ◌++◌, ◌≤◌, ◌&&◌, ℕ, List, true, false, length, take, drop, arith, sym, ap, subst, ◌∙◌, leb}
use Rattle.std.proofs.lemmas.List.{length-take-le}
use Rattle.byteorder.specs.Endian.{big_number}
use Rattle.vote_journal.specs.Grammar.{framed}
use Rattle.vote_journal.specs.Layout.{IsContent}
use Rattle.vote_journal.proofs.Layouts.{whole_front, lawful_length, outside_length}
use Rattle.vote_journal.proofs.scanning.front_of.Goals as goal

pub returns-then-not-is_lawful : goal.returns-then-not-is_lawful
returns-then-not-is_lawful c =
    let long : 4 ≤ length c.args.bytes.now = omega arith in
    let n : c.read_u32-len.result ≡ big_number 4 c.args.bytes.now = c.read_u32-len.ensures in
    let unlawful : leb 1 c.read_u32-len.result && leb c.read_u32-len.result 1100000 ≡ false = cc in
    (long, λ low high. outside_length c.read_u32-len.result unlawful (omega (arith, n, low)) (omega (arith, n, high)))

pub returns : goal.returns
returns c =
    let bytes = c.args.bytes.now in
    let len = c.read_u32-len.result in
    let long : 4 ≤ length c.args.bytes.now = omega arith in
    let n : c.read_u32-len.result ≡ big_number 4 c.args.bytes.now = c.read_u32-len.ensures in
    let lawful : leb 1 c.read_u32-len.result && leb c.read_u32-len.result 1100000 ≡ true = cc in
    let size = lawful_length c.read_u32-len.result lawful in
    let behind : c.split_at.result.1.now ≡ drop 4 c.args.bytes.now = c.split_at.ensures.back in
    let front : c.split_at-2.result.0.now ≡ take c.read_u32-len.result (drop 4 c.args.bytes.now) = c.split_at-2.ensures.front ∙ ap (take c.read_u32-len.result) behind in
    let back : c.split_at-2.result.1.now ≡ drop c.read_u32-len.result (drop 4 c.args.bytes.now) = c.split_at-2.ensures.back ∙ ap (drop c.read_u32-len.result) behind in
    let room : c.read_u32-len.result ≤ length (drop 4 c.args.bytes.now) = omega (arith, ap length behind) in
    let cut : length (take c.read_u32-len.result (drop 4 c.args.bytes.now)) ≡ c.read_u32-len.result = length-take-le c.read_u32-len.result (drop 4 c.args.bytes.now) room in
    let whole = whole_front c.args.bytes.now c.read_u32-len.result (λ i. omega (arith, c.type_inv.bytes i)) long n room in
    let content : IsContent (take c.read_u32-len.result (drop 4 c.args.bytes.now)) = (omega (arith, cut, size.0), omega (arith, cut, size.1)) in
    subst (λ (p : List ℕ × List ℕ). IsContent p.0 × (c.args.bytes.now ≡ framed p.0 ++ p.1)) (λ i. (sym front i, sym back i)) (content, whole)
