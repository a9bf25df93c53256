-- What has an encoding is refused for want of memory alone.
use Rattle.std.proofs.Common.{◌≡◌, ◌≤◌, inl, inr, refl, sym, subst, length, Result, Ok, Err}
use Rattle.std.specs.Prelude.{IfErr, IsErrAnd}
use Rattle.std.proofs.lemmas.List.{length-map}
use Rattle.std.proofs.lemmas.Result.{err_from_is_err_and}
use Rattle.transactions.specs.declared.fault.Fault.{Fault}
use Rattle.transactions.specs.declared.fault.Fault.TheVariants as spelling
use Rattle.transactions.specs.Fields.{Fails}
use Rattle.transactions.specs.Grammar.{IsValue}
use Rattle.messages.specs.Grammar.{IsBody}
use Rattle.messages.specs.Framing.{IsMessage}
use Rattle.protocol.specs.Tags.{Setting}
use Rattle.protocol.specs.Messages.{Body, OfBundle, tagged}
use Rattle.world_parties.specs.Faults.{of_spelling, IsUnencoded}
use Rattle.world_parties.specs.Sending.{bundled, FitsBundle}
use Rattle.world_parties.specs.declared.lines.Bundling.{Bundling}
use Rattle.world_parties.specs.declared.fault.FaultNumber.{FaultNumber}

-- a fault of encoding what gives this, where it has an encoding
pub unencoded : {Y : Type 0} (E : Type 0) (fault : Fault) (given : Y) → (E → Fails fault (Ok given)) → IsUnencoded E (of_spelling fault)
unencoded E spelling.OutOfMemory given told = inr refl
unencoded E spelling.Truncated given told = inl (refl, λ e. absurd (let no : Ok given ≡ Err spelling.Truncated = told e in cc))
unencoded E spelling.TooLong given told = inl (refl, λ e. absurd (let no : Ok given ≡ Err spelling.TooLong = told e in cc))
unencoded E spelling.BadSpelling given told = inl (refl, λ e. absurd (let no : Ok given ≡ Err spelling.BadSpelling = told e in cc))
unencoded E spelling.BadKind given told = inl (refl, λ e. absurd (let no : Ok given ≡ Err spelling.BadKind = told e in cc))

-- what needs more of an encoding
pub less : (A B : Type 0) (fault : FaultNumber) → (B → A) → IsUnencoded A fault → IsUnencoded B fault
less A B fault f (inl k) = inl (k.0, λ b. k.1 (f b))
less A B fault f (inr is) = inr is

-- what a `?` hands on
pub handed_on : {T : Type 0} (P : FaultNumber → Type 0) (r : Result T FaultNumber) (fault : FaultNumber) → IsErrAnd r (λ y. y ≡ fault) → P fault → IfErr r P
handed_on P r fault i p = let k = err_from_is_err_and r i in subst (λ x. IfErr x P) (sym k.1) (subst P (sym k.2) p)

-- ---- what a message needs

pub body_of_tagged : (c : Setting) (body : Body) → IsMessage (tagged c body) → IsBody body
unfolding tagged
body_of_tagged c body m = m.body

pub few_signers : (c : Setting) (line : Bundling) → FitsBundle c line → IsValue line.named × (length line.signers ≤ 128)
few_signers c line fits =
    let few = (body_of_tagged c (OfBundle (bundled c line)) fits.1).few in
    (fits.0, rw length-map at few)
