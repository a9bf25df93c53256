use Rattle.std.proofs.Common.{◌≡◌, ℕ, ◌+◌, ◌-◌, ◌≤◌, List, length, Err, subst, ◌++◌, take, drop, refl, sym, ap, ◌∙◌, arith}
use Rattle.std.proofs.lemmas.List.{take-append-drop, drop-drop}
use Rattle.std.proofs.lemmas.Option.{MatchOption-at_some}
use Rattle.transactions.specs.declared.fault.Fault.TheVariants.{Truncated}
use Rattle.messages.specs.Framing.{content_of}
use Rattle.messages.specs.Pieces.{Held, IsFrame}
use Rattle.messages.proofs.frame_reader.FrameReader.next_frame.Goals as goal

-- the front that is given, and what follows it
parts : (bytes : List ℕ) (from len : ℕ) → drop from bytes ≡ take len (drop from bytes) ++ drop (from + len) bytes
parts bytes from len = sym (ap (λ (after : List ℕ). take len (drop from bytes) ++ after) (sym (drop-drop len from bytes)) ∙ take-append-drop len (drop from bytes))

pub returns-in-Ok-Some : goal.returns-in-Ok-Some
returns-in-Ok-Some c =
    let fields = c.self.inside in
    let bytes = fields.bytes.items in
    let len = c.in-Ok-Some.len in
    let size : fields.given + len - fields.given ≡ len = omega arith in
    let seen = c.rest.result.now in
    let rest : seen ≡ drop fields.given bytes = c.rest.ensures in
    let front = MatchOption-at_some (content_of seen ≡ Err Truncated) (λ n. (n ≤ length seen) × IsFrame (take n seen)) len c.in-Ok-Some.field-0-is c.in-Ok-Some.ensures in
    let whole : IsFrame (take len (drop fields.given bytes)) = subst (λ (b : List ℕ). IsFrame (take len b)) rest front.1 in
    let left : Held = record { rest = drop (fields.given + len) bytes; refused = fields.refused } in
    let held : c.args.self.now ≡ record left { rest = take len (drop fields.given bytes) ++ left.rest } = sym c.self.view_is ∙ ap (λ (rest : List ℕ). record left { rest = rest }) (parts bytes fields.given len) in
    rw (size, c.deref.ensures.value) ((refl, λ _. tt, (whole, held)), record { after = tt; answer = (left, (whole, held)) })
