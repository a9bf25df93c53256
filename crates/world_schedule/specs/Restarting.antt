-- A validator that is opened again over its journal.
use Rattle.std.specs.Prelude.{◌≡◌, ◌⊎◌, ℕ, false, Option, None, List, [], ◌++◌, length}
use Rattle.vote_journal.specs.Saving.{KeepsRecords}
use Rattle.protocol.specs.Tags.{Setting}
use Rattle.round_states.specs.Seen.{delivered_by}
use Rattle.protocol.specs.Restart.{opened}
use Rattle.protocol.specs.World.{Cut, cut_record}
use Rattle.protocol.specs.Effects.{bundles_in}
use Rattle.world_schedule.specs.Health.{doubt}
use Rattle.world_schedule.specs.Cores.{StandsIn}
use Rattle.world_schedule.specs.Reports.{Made, told}
use Rattle.world_schedule.specs.Making.{Scene, IsReopened, IsRestart, scene_after}
use Rattle.world_schedule.specs.Standings.{Holds}
use Rattle.world_schedule.specs.Validators.{IsNumber, LeadsTo, AreUp, places}
use Rattle.world_schedule.specs.declared.validator.Validator.{Validator}
use Rattle.world_schedule.specs.declared.seat.Seat.{Seat}
use Rattle.world_schedule.specs.declared.seat.Seat.TheVariants as seats
use Rattle.world_schedule.specs.declared.restarting.Stopped.{Stopped}
use Rattle.world_schedule.specs.declared.chronicle.Chronicle.{Chronicle}

-- The validator has ended: it is known where it stood, and its store has the records that it had.
pub record HasStopped (powers : List ℕ) (old : Validator) (stopped : Stopped) : Type 0 where
  pub number : stopped.number ≡ old.number
  pub told : stopped.decisions_told ≡ old.decisions_told
  pub height : stopped.height ≡ old.core.machine.state.height
  pub round : stopped.round ≡ old.core.machine.state.round
  pub delivered : delivered_by stopped.delivered.items ≡ old.core.machine.state.delivered
  pub kept : KeepsRecords powers old.number old.core.journal.bytes stopped.store.store.bytes.items

-- What stood there has ended: a validator, or one that had ended before.
abbrev pub HasLeft : List ℕ → Seat → Stopped → Type 0
HasLeft powers seats.Liar stopped = ⊥
HasLeft powers (seats.Up old) stopped = HasStopped powers old stopped
HasLeft powers (seats.Closed old) stopped = stopped ≡ old

-- It stands again where its journal tells, which may have got what was being saved as the device failed; it has released nothing since, and its journal serves.
pub record IsBack (c : Setting) (s : Scene) (p : ℕ) (new : Validator) : Type 0 where
  pub known : IsNumber c p
  pub number : new.number ≡ p
  pub told : new.decisions_told ≡ length (bundles_in (s.standing.nodes p).journal)
  pub owes : new.owes ≡ false
  pub cut : Option Cut
  pub found : (cut ≡ None) ⊎ (cut ≡ doubt (s.health p))
  pub stands : StandsIn c p (opened p (cut_record c p (s.standing.nodes p) cut ++ (s.standing.nodes p).journal)) new.core
  pub serves : new.core.journal.failed ≡ false
  pub released : new.core.outgoing ≡ []

-- The calls by which a validator was opened again, and those of a whole restart.
abbrev pub HasReopened : Setting → Scene → ℕ → Seat → Chronicle → Chronicle → Type 0
HasReopened c s p new before after = (made : List Made) × IsReopened c s before.event p made × LeadsTo c s made p new before after

abbrev pub HasRestarted : Setting → Scene → ℕ → Seat → Chronicle → Chronicle → Type 0
HasRestarted c s p new before after = (made : List Made) × IsRestart c s before.event p made × LeadsTo c s made p new before after

-- A validator was restarted: all stand for their nodes after its calls, and these are told as the report has them.
pub record HaveRestarted (c : Setting) (s : Scene) (p : ℕ) (old new : List Seat) (before after : Chronicle) : Type 0 where
  pub made : List Made
  pub restart : IsRestart c s before.event p made
  pub up : AreUp c (scene_after c s made) new
  pub holds : Holds c (scene_after c s made).standing.numbered after.messages
  pub told : after.told.items ≡ before.told.items ++ told c s.standing made
  pub event : after.event ≡ before.event
  pub places_are : places new ≡ places old
