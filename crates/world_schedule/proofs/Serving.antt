-- Which answers tell that a node had halted, and that the device failed.
use Rattle.std.proofs.Common.{◌≡◌, ◌≢◌, ◌⊎◌, inl, inr, Bool, true, false, Option, Result, Ok, Err, refl, ap, arith}
use Rattle.protocol.specs.Refusals.{Refusal}
use Rattle.protocol.specs.declared.refusal.SubmitFault.TheVariants as submits
use Rattle.protocol.specs.declared.refusal.JudgeFault.TheVariants as judges
use Rattle.protocol.specs.Answers.{Answers, IsRefusal}
use Rattle.protocol.specs.Answers.{numbers_of}
use Rattle.protocol.specs.declared.refusal.Refusal.{Refusal as Node}
use Rattle.protocol.specs.declared.refusal.Refusal.TheVariants as answers
use Rattle.world_schedule.specs.Handed.{told_numbers}

-- ---- a node that serves has not halted

refusal_runs : (cause : Option Refusal) (r : Node) → IsRefusal cause r → (numbers_of r).0 ≢ 15
refusal_runs cause answers.Truncated a e = let f : 1 ≡ 15 = e in omega (arith, f)
refusal_runs cause answers.TooLong a e = let f : 2 ≡ 15 = e in omega (arith, f)
refusal_runs cause answers.BadKind a e = let f : 3 ≡ 15 = e in omega (arith, f)
refusal_runs cause answers.BadSpelling a e = let f : 4 ≡ 15 = e in omega (arith, f)
refusal_runs cause answers.UnknownSender a e = let f : 5 ≡ 15 = e in omega (arith, f)
refusal_runs cause answers.BadTag a e = let f : 6 ≡ 15 = e in omega (arith, f)
refusal_runs cause answers.OtherHeight a e = let f : 7 ≡ 15 = e in omega (arith, f)
refusal_runs cause answers.VoterFull a e = let f : 8 ≡ 15 = e in omega (arith, f)
refusal_runs cause answers.Repeat a e = let f : 9 ≡ 15 = e in omega (arith, f)
refusal_runs cause answers.RoundLimit a e = let f : 10 ≡ 15 = e in omega (arith, f)
refusal_runs cause answers.RoundAhead a e = let f : 11 ≡ 15 = e in omega (arith, f)
refusal_runs cause answers.WrongProposer a e = let f : 12 ≡ 15 = e in omega (arith, f)
refusal_runs cause (answers.Submit submits.UnknownClient) a e = let f : 13 ≡ 15 = e in omega (arith, f)
refusal_runs cause (answers.Submit submits.BadTag) a e = let f : 13 ≡ 15 = e in omega (arith, f)
refusal_runs cause (answers.Submit submits.OldNumber) a e = let f : 13 ≡ 15 = e in omega (arith, f)
refusal_runs cause (answers.Submit submits.SessionAhead) a e = let f : 13 ≡ 15 = e in omega (arith, f)
refusal_runs cause (answers.Submit submits.Gap) a e = let f : 13 ≡ 15 = e in omega (arith, f)
refusal_runs cause (answers.Submit submits.Closed) a e = let f : 13 ≡ 15 = e in omega (arith, f)
refusal_runs cause (answers.Submit submits.QueueFull) a e = let f : 13 ≡ 15 = e in omega (arith, f)
refusal_runs cause (answers.Submit submits.TooLong) a e = let f : 13 ≡ 15 = e in omega (arith, f)
refusal_runs cause (answers.Submit submits.OutOfMemory) a e = a
refusal_runs cause (answers.Bundle judges.NoQuorum) a e = let f : 14 ≡ 15 = e in omega (arith, f)
refusal_runs cause (answers.Bundle judges.WrongDigest) a e = let f : 14 ≡ 15 = e in omega (arith, f)
refusal_runs cause (answers.Bundle judges.BadTag) a e = let f : 14 ≡ 15 = e in omega (arith, f)
refusal_runs cause (answers.Bundle judges.NotValid) a e = let f : 14 ≡ 15 = e in omega (arith, f)
refusal_runs cause (answers.Bundle judges.OutOfMemory) a e = a
refusal_runs cause answers.Halted a e = a
refusal_runs cause answers.OutOfMemory a e = let f : 16 ≡ 15 = e in omega (arith, f)
refusal_runs cause answers.JournalFailed a e = let f : 17 ≡ 15 = e in omega (arith, f)

pub not_halted : (halted : Bool) (cause : Option Refusal) (result : Result (Unit {0}) Node) → halted ≡ false → Answers halted cause result → (told_numbers result).0 ≢ 15
not_halted true cause result e a f = let g : true ≡ false = e in cc
not_halted false cause (Ok done) e a f = let g : 0 ≡ 15 = f in omega (arith, g)
not_halted false cause (Err r) e a f = refusal_runs cause r a f

-- ---- whether the device failed

refusal_serves : (r : Node) → (r ≡ answers.JournalFailed) ⊎ ((numbers_of r).0 ≢ 17)
refusal_serves answers.Truncated = inr (λ e. let f : 1 ≡ 17 = e in omega (arith, f))
refusal_serves answers.TooLong = inr (λ e. let f : 2 ≡ 17 = e in omega (arith, f))
refusal_serves answers.BadKind = inr (λ e. let f : 3 ≡ 17 = e in omega (arith, f))
refusal_serves answers.BadSpelling = inr (λ e. let f : 4 ≡ 17 = e in omega (arith, f))
refusal_serves answers.UnknownSender = inr (λ e. let f : 5 ≡ 17 = e in omega (arith, f))
refusal_serves answers.BadTag = inr (λ e. let f : 6 ≡ 17 = e in omega (arith, f))
refusal_serves answers.OtherHeight = inr (λ e. let f : 7 ≡ 17 = e in omega (arith, f))
refusal_serves answers.VoterFull = inr (λ e. let f : 8 ≡ 17 = e in omega (arith, f))
refusal_serves answers.Repeat = inr (λ e. let f : 9 ≡ 17 = e in omega (arith, f))
refusal_serves answers.RoundLimit = inr (λ e. let f : 10 ≡ 17 = e in omega (arith, f))
refusal_serves answers.RoundAhead = inr (λ e. let f : 11 ≡ 17 = e in omega (arith, f))
refusal_serves answers.WrongProposer = inr (λ e. let f : 12 ≡ 17 = e in omega (arith, f))
refusal_serves (answers.Submit submits.UnknownClient) = inr (λ e. let f : 13 ≡ 17 = e in omega (arith, f))
refusal_serves (answers.Submit submits.BadTag) = inr (λ e. let f : 13 ≡ 17 = e in omega (arith, f))
refusal_serves (answers.Submit submits.OldNumber) = inr (λ e. let f : 13 ≡ 17 = e in omega (arith, f))
refusal_serves (answers.Submit submits.SessionAhead) = inr (λ e. let f : 13 ≡ 17 = e in omega (arith, f))
refusal_serves (answers.Submit submits.Gap) = inr (λ e. let f : 13 ≡ 17 = e in omega (arith, f))
refusal_serves (answers.Submit submits.Closed) = inr (λ e. let f : 13 ≡ 17 = e in omega (arith, f))
refusal_serves (answers.Submit submits.QueueFull) = inr (λ e. let f : 13 ≡ 17 = e in omega (arith, f))
refusal_serves (answers.Submit submits.TooLong) = inr (λ e. let f : 13 ≡ 17 = e in omega (arith, f))
refusal_serves (answers.Submit submits.OutOfMemory) = inr (λ e. let f : 13 ≡ 17 = e in omega (arith, f))
refusal_serves (answers.Bundle judges.NoQuorum) = inr (λ e. let f : 14 ≡ 17 = e in omega (arith, f))
refusal_serves (answers.Bundle judges.WrongDigest) = inr (λ e. let f : 14 ≡ 17 = e in omega (arith, f))
refusal_serves (answers.Bundle judges.BadTag) = inr (λ e. let f : 14 ≡ 17 = e in omega (arith, f))
refusal_serves (answers.Bundle judges.NotValid) = inr (λ e. let f : 14 ≡ 17 = e in omega (arith, f))
refusal_serves (answers.Bundle judges.OutOfMemory) = inr (λ e. let f : 14 ≡ 17 = e in omega (arith, f))
refusal_serves answers.Halted = inr (λ e. let f : 15 ≡ 17 = e in omega (arith, f))
refusal_serves answers.OutOfMemory = inr (λ e. let f : 16 ≡ 17 = e in omega (arith, f))
refusal_serves answers.JournalFailed = inl refl

pub is_broken : (result : Result (Unit {0}) Node) → (result ≡ Err answers.JournalFailed) ⊎ ((told_numbers result).0 ≢ 17)
is_broken (Ok done) = inr (λ e. let f : 0 ≡ 17 = e in omega (arith, f))
is_broken (Err r) = elim (refusal_serves r) [ inl e ↦ inl (ap Err e) | inr other ↦ inr other ]
