-- A plan that was not carried out: what is left of the core and of its journal.
use Rattle.std.proofs.Common.{◌≡◌, true, false, Option, Some, None, Err, refl, sym, ap, subst, ◌∙◌}
use Rattle.protocol.specs.Messages.{Record}
use Rattle.node_core.specs.Core.{Core, JournalSeen, IsSound}
use Rattle.state_journal.specs.Saving.{IsUnwritten, of_unfired}
use Rattle.node_core.specs.Calls.{Serves, TellsJournal, IsUnfired}
use Rattle.state_journal.specs.declared.journal.Unfired.{Unfired}
use Rattle.state_journal.specs.declared.journal.Unfired.TheVariants as unfired

served : (old new : JournalSeen) → new ≡ old → Serves old new
served old new e = record { failed = ap (λ (j : JournalSeen). j.failed) e; failures = ap (λ (j : JournalSeen). j.failures) e }

pub unfired_tells : (wrote : Option Record) (e : Unfired) (old new : JournalSeen) → old.failed ≡ false → IsUnwritten e wrote old new → TellsJournal (Err (of_unfired e)) old new
unfired_tells wrote unfired.OutOfMemory old new running u = served old new u
unfired_tells None unfired.JournalFailed old new running u = absurd u
unfired_tells (Some r) unfired.JournalFailed old new running u = record { before = running; now = u.failed; grew = u.grew running }

pub unfired_core : (wrote : Option Record) (e : Unfired) (old : Core) (journal : JournalSeen) → IsUnwritten e wrote old.journal journal → IsUnfired (of_unfired e) old (record old { journal = journal })
unfired_core wrote unfired.OutOfMemory old journal u = (refl, ap (λ j. record old { journal = j }) u)
unfired_core None unfired.JournalFailed old journal u = absurd u
unfired_core (Some r) unfired.JournalFailed old journal u = refl

failed_sound : (core : Core) (journal : JournalSeen) → IsSound core → journal.me ≡ core.journal.me → journal.failed ≡ true → IsSound (record core { journal = journal })
failed_sound core journal s me failed = record {
  owner = s.owner;
  count = s.count;
  me = s.me;
  whole = s.whole;
  few = s.few;
  agrees = s.agrees;
  room = s.room;
  waiting = s.waiting;
  stamps = s.stamps;
  decided = s.decided;
  joined = s.joined;
  spelled = s.spelled;
  own = s.own;
  said = s.said;
  journal = me ∙ s.journal;
  kept = λ still. absurd (let e : true ≡ false = sym failed ∙ still in cc);
}

pub unfired_sound : (wrote : Option Record) (e : Unfired) (old : Core) (journal : JournalSeen) → IsSound old → IsUnwritten e wrote old.journal journal → IsSound (record old { journal = journal })
unfired_sound wrote unfired.OutOfMemory old journal s u = subst (λ j. IsSound (record old { journal = j })) (sym u) s
unfired_sound None unfired.JournalFailed old journal s u = absurd u
unfired_sound (Some r) unfired.JournalFailed old journal s u = failed_sound old journal s u.me u.failed
