-- Why an event can't happen.
use Rattle.std.proofs.Common.{◌≡◌, ◌≢◌, ◌⊎◌, inl, inr, Bool, Result, true, false, Option, Some, None, sym, ◌∙◌, subst, ℕ, refl}
use Rattle.std.specs.Prelude.{IfErr, IsErrAnd, is_some}
use Rattle.std.proofs.lemmas.Result.{err_from_is_err_and}
use Rattle.world_parties.specs.Cast.{Cast, is_correct}
use Rattle.world_parties.specs.Faults.{IsUnencoded}
use Rattle.world_parties.specs.declared.fault.FaultNumber.{FaultNumber}
use Rattle.world_parties.specs.declared.fault.FaultNumber.TheVariants.{NoSuchMessage, NoSuchParty, ClientClosed, TooLong, OutOfMemory, NotClosed}
use Rattle.world_schedule.specs.Reports.{Standing}
use Rattle.world_schedule.specs.Events.{unless, cause_of, IsEncodable, CannotHappen, IsUnknown}
use Rattle.world_schedule.specs.declared.event.Event.{Event}

pub stopped_by : (holds : Bool) (fault : FaultNumber) (more : Option FaultNumber) → holds ≡ false → unless holds fault more ≡ Some fault
stopped_by holds fault more e = rw e refl

pub starved_cause : (cast : Cast) (s : Standing) (event : Event) (fault : FaultNumber) → fault ≡ OutOfMemory → CannotHappen fault cast s event
starved_cause cast s event fault is = subst (λ f. CannotHappen f cast s event) (sym is) tt

pub unknown_cause : (cast : Cast) (s : Standing) (event : Event) (p : ℕ) (more : Option FaultNumber) (fault : FaultNumber) → cause_of cast s event ≡ unless (is_correct cast p) NoSuchParty more → IsUnknown cast p fault → CannotHappen fault cast s event
unknown_cause cast s event p more fault e (inl is) = starved_cause cast s event fault is
unknown_cause cast s event p more fault e (inr k) = subst (λ f. CannotHappen f cast s event) (sym k.0) (e ∙ stopped_by (is_correct cast p) NoSuchParty more k.1)

-- what has to be encoded has no encoding
pub unencoded_cause : (cast : Cast) (s : Standing) (event : Event) (E : Type 0) (fault : FaultNumber) → cause_of cast s event ≡ None → (IsEncodable cast s event → E) → IsUnencoded E fault → CannotHappen fault cast s event
unencoded_cause cast s event E fault none needs (inl k) = subst (λ f. CannotHappen f cast s event) (sym k.0) (none, λ e. k.1 (needs e))
unencoded_cause cast s event E fault none needs (inr is) = starved_cause cast s event fault is

-- what a `?` hands on
pub cause_from : {T : Type 0} (P : FaultNumber → Type 0) (r : Result T FaultNumber) (fault : FaultNumber) → IsErrAnd r (λ y. y ≡ fault) → P fault → IfErr r P
cause_from P r fault i p = let k = err_from_is_err_and r i in subst (λ x. IfErr x P) (sym k.1) (subst P (sym k.2) p)

pub party_cause : (cast : Cast) (s : Standing) (event : Event) (holds : Bool) (more : Option FaultNumber) (fault : FaultNumber) → cause_of cast s event ≡ unless holds NoSuchParty more → fault ≡ NoSuchParty → holds ≡ false → CannotHappen fault cast s event
party_cause cast s event holds more fault e is not_so = subst (λ f. CannotHappen f cast s event) (sym is) (e ∙ stopped_by holds NoSuchParty more not_so)

pub unknown_at : (old cast : Cast) (s : Standing) (event : Event) (p : ℕ) (more : Option FaultNumber) (fault : FaultNumber) → old ≡ cast → cause_of cast s event ≡ unless (is_correct cast p) NoSuchParty more → (fault ≡ NoSuchParty) × (is_correct old p ≡ false) → CannotHappen fault cast s event
unknown_at old cast s event p more fault same e k = party_cause cast s event (is_correct cast p) more fault e k.0 (subst (λ (x : Cast). is_correct x p ≡ false) same k.1)

-- of what a liar is to send
pub frame_cause : (cast : Cast) (s : Standing) (event : Event) (holds : Bool) (E : Type 0) (fault : FaultNumber) → cause_of cast s event ≡ unless holds NoSuchParty None → (IsEncodable cast s event → E) → (fault ≡ NoSuchParty → holds ≡ false) → (fault ≡ TooLong → holds ≡ true)
    → (fault ≡ NoSuchParty) ⊎ IsUnencoded E fault → CannotHappen fault cast s event
frame_cause cast s event holds E fault e needs unknown order (inl is) = party_cause cast s event holds None fault e is (unknown is)
frame_cause cast s event holds E fault e needs unknown order (inr (inl k)) = unencoded_cause cast s event E fault (e ∙ passed_on holds (order k.0)) needs (inl k)
  where
    passed_on : (b : Bool) → b ≡ true → unless b NoSuchParty None ≡ None
    passed_on b so = rw so refl
frame_cause cast s event holds E fault e needs unknown order (inr (inr is)) = starved_cause cast s event fault is

pub no_some : {X : Type 0} (o : Option X) → ((x : X) → o ≡ Some x → ⊥) → is_some o ≡ false
no_some None none = refl
no_some (Some x) none = absurd (none x refl)

-- whether memory was refused
pub is_starved : (fault : FaultNumber) → (fault ≡ OutOfMemory) ⊎ (fault ≢ OutOfMemory)
is_starved OutOfMemory = inl refl
is_starved NoSuchMessage = inr (λ e. absurd (let f : NoSuchMessage ≡ OutOfMemory = e in cc))
is_starved NoSuchParty = inr (λ e. absurd (let f : NoSuchParty ≡ OutOfMemory = e in cc))
is_starved ClientClosed = inr (λ e. absurd (let f : ClientClosed ≡ OutOfMemory = e in cc))
is_starved TooLong = inr (λ e. absurd (let f : TooLong ≡ OutOfMemory = e in cc))
is_starved NotClosed = inr (λ e. absurd (let f : NotClosed ≡ OutOfMemory = e in cc))
