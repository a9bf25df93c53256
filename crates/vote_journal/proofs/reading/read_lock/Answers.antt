use Rattle.std.proofs.Common.{ℕ, List, ◌∷◌, take, drop, Err, sym, subst, arith}
use Rattle.std.proofs.lemmas.List.{take-append-drop}
use Rattle.std.proofs.lemmas.Result.{err_from_is_err_and}
use Rattle.transactions.specs.Grammar.{SpellsValue}
use Rattle.messages.specs.Grammar.{SpellsBody}
use Rattle.protocol.specs.Records.{record_of}
use Rattle.vote_journal.specs.Grammar.{Spells}
use Rattle.vote_journal.specs.Parts.{IsReadingOf}
use Rattle.vote_journal.proofs.RecordFormats.{lock_parts, lock_no_body, lock_no_value, lock_only, lock_spells}
use Rattle.vote_journal.proofs.reading.read_lock.Goals as goal

pub returns-then-bytes-lt-VOTE_LEN : goal.returns-then-bytes-lt-VOTE_LEN
returns-then-bytes-lt-VOTE_LEN c = λ r h. let p = lock_parts c.args.me c.args.bytes.now r h in omega (arith, p.long)

pub returns-in_err-body : goal.returns-in_err-body
returns-in_err-body c =
    let p = err_from_is_err_and c.from_residual.result c.from_residual.ensures.1 in
    rw (p.1, p.2) (lock_no_body c.args.me c.args.bytes.now c.in_err-body.field-0.0 (subst (λ (x : List ℕ). IsReadingOf (SpellsBody x) (Err c.in_err-body.field-0.0)) c.split_at.ensures.front c.in_err-body.ensures))

pub returns-in_err-value : goal.returns-in_err-value
returns-in_err-value c =
    let p = err_from_is_err_and c.from_residual-in_err-value.result c.from_residual-in_err-value.ensures.1 in
    rw (p.1, p.2) (lock_no_value c.args.me c.args.bytes.now c.in_err-value.field-0.0 (subst (λ (x : List ℕ). IsReadingOf (SpellsValue x) (Err c.in_err-value.field-0.0)) c.split_at.ensures.back c.in_err-value.ensures))

pub returns-in-Some : goal.returns-in-Some
returns-in-Some c =
    let bytes = c.args.bytes.now in
    let body = subst (λ (x : List ℕ). SpellsBody x c.in_ok-body.body) c.split_at.ensures.front c.in_ok-body.ensures in
    let lock = subst (λ (x : List ℕ). SpellsValue x c.in_ok-value.value) c.split_at.ensures.back c.in_ok-value.ensures in
    let named = subst (SpellsValue (drop 48 bytes)) (sym c.in_ok-named.ensures.ok) lock in
    let spells = lock_spells c.args.me c.in_ok-body.body c.in_ok-named.named (take 48 bytes) (drop 48 bytes) body named (record_of c.in-Some.entry) (sym c.in-Some.ensures) in
    subst (λ (x : List ℕ). Spells c.args.me (2 ∷ x) (record_of c.in-Some.entry)) (take-append-drop 48 bytes) spells

pub returns : goal.returns
returns c = λ r h.
    let bytes = c.args.bytes.now in
    let body = subst (λ (x : List ℕ). SpellsBody x c.in_ok-body.body) c.split_at.ensures.front c.in_ok-body.ensures in
    let lock = subst (λ (x : List ℕ). SpellsValue x c.in_ok-value.value) c.split_at.ensures.back c.in_ok-value.ensures in
    let named = subst (SpellsValue (drop 48 bytes)) (sym c.in_ok-named.ensures.ok) lock in
    lock_only c.args.me bytes c.in_ok-body.body c.in_ok-named.named body named (sym c.in-None.ensures) r h
