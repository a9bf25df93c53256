-- Bytes that are read while they come.
use Rattle.std.proofs.Common.{◌≡◌, ℕ, ◌+◌, ◌-◌, List, ◌++◌, length, take, drop, Ok, Err, arith, sym, ap, subst, ◌∙◌, append_assoc, length-append}
use Rattle.std.proofs.lemmas.List.{take_at, drop_at}
use Rattle.vote_journal.specs.declared.fault.JournalFault.{JournalFault}
use Rattle.vote_journal.specs.declared.fault.JournalFault.TheVariants.{Failed, OutOfMemory, BadRecord}
use Rattle.vote_journal.specs.declared.keeping.Kept.{Kept}
use Rattle.vote_journal.specs.declared.scanning.Scan.{Scan}
use Rattle.vote_journal.specs.declared.stages.Behind.{Behind}
use Rattle.vote_journal.specs.declared.standing.Standing.{Standing}
use Rattle.vote_journal.specs.Grammar.{entries_spelling}
use Rattle.vote_journal.specs.Layout.{IsTorn, IsJournal}
use Rattle.vote_journal.specs.Planning.{Read, IsScan, IsBehind, Comes}
use Rattle.vote_journal.proofs.Layouts.{whole_more}

-- the first of the last bytes are read too
pub record ReadOn (powers : List ℕ) (me : ℕ) (all last : List ℕ) (kept : Kept) (standing : Standing) (rest : List ℕ) : Type 0 where
  pub whole : List ℕ
  pub split : last ≡ whole ++ rest
  pub is : Read powers me all kept standing rest

-- what follows stands behind the rest
pub read_more : (powers : List ℕ) (me : ℕ) (before piece : List ℕ) (kept : Kept) (standing : Standing) (rest : List ℕ) → Read powers me before kept standing rest → Read powers me (before ++ piece) kept standing (rest ++ piece)
read_more powers me before piece kept standing rest r = record {
  entries = r.entries;
  whole = whole_more before (entries_spelling me r.entries) rest piece r.whole;
  lawful = r.lawful;
  remembers = r.remembers;
  keeps = r.keeps;
}

-- what was at hand and what came, as it is scanned
pub behind_more : (powers : List ℕ) (me : ℕ) (before piece bytes : List ℕ) (b : Behind) → IsBehind powers me before b → bytes ≡ b.left.items ++ piece → Read powers me (before ++ piece) b.kept b.standing bytes
behind_more powers me before piece bytes b h is = subst (λ (x : List ℕ). Read powers me (before ++ piece) b.kept b.standing x) (sym is) (read_more powers me before piece b.kept b.standing b.left.items h.2)

-- and what is left of it then
pub record LeftOf (powers : List ℕ) (me : ℕ) (bytes : List ℕ) (read : ℕ) (scan : Scan) (rest : List ℕ) : Type 0 where
  pub torn : IsTorn rest
  pub count : read + length rest ≡ 4 + length bytes
  pub is : Read powers me bytes scan.kept scan.standing rest

pub left_of : (powers : List ℕ) (me : ℕ) (before piece bytes : List ℕ) (b : Behind) (scan : Scan) (read : ℕ) → IsBehind powers me before b → bytes ≡ b.left.items ++ piece → IsScan powers me (before ++ piece) bytes (Ok scan)
    → read ≡ b.read + length (take (length bytes - scan.torn) bytes) → LeftOf powers me (before ++ piece) read scan (drop (length bytes - scan.torn) bytes)
left_of powers me before piece bytes b scan read h is (whole, rest, split, torn, len, r) e =
    let size : length bytes ≡ length whole + length rest = ap length split ∙ length-append whole rest in
    let at : length whole ≡ length bytes - scan.torn = omega (arith, size, len) in
    let front : take (length bytes - scan.torn) bytes ≡ whole = ap (take (length bytes - scan.torn)) split ∙ take_at whole rest (length bytes - scan.torn) at in
    let back : drop (length bytes - scan.torn) bytes ≡ rest = ap (drop (length bytes - scan.torn)) split ∙ drop_at whole rest (length bytes - scan.torn) at in
    record {
      torn = subst IsTorn (sym back) torn;
      count = omega (arith, e, ap length front, ap length back, size, ap length is, length-append b.left.items piece, length-append before piece, h.1);
      is = subst (λ (x : List ℕ). Read powers me (before ++ piece) scan.kept scan.standing x) (sym back) r;
    }

-- what begins no journal begins none with more behind it
pub comes_more : (powers : List ℕ) (me : ℕ) (before piece : List ℕ) (e : JournalFault) → Comes powers me before (Err e) → Comes powers me (before ++ piece) (Err e)
comes_more powers me before piece Failed h = h
comes_more powers me before piece OutOfMemory h = tt
comes_more powers me before piece BadRecord h = λ more rs j. h (piece ++ more) rs (subst (λ (x : List ℕ). IsJournal powers me x rs) (append_assoc before piece more) j)
