-- What the calls of a store do, and what a stop may leave between two syncs.
use Rattle.std.specs.Prelude.{◌≡◌, ◌⊎◌, ℕ, ◌<◌, ◌≤◌, List, ◌++◌, take, Result, Ok, Err}
use Rattle.vote_journal.specs.declared.store.StoreFault.{StoreFault}
use Rattle.vote_journal.specs.declared.store.StoreFault.TheVariants.{Device, OutOfMemory}
use Rattle.vote_journal.specs.declared.store.DeviceFailed.{DeviceFailed}

-- a stop leaves this and nothing else
abbrev pub Only : List ℕ → (List ℕ → Type 0) → Type 0
Only bytes outcomes = (c : List ℕ) → outcomes c → c ≡ bytes

-- a stop leaves just this
abbrev pub Just : List ℕ → (List ℕ → Type 0) → Type 0
Just bytes outcomes = outcomes bytes × Only bytes outcomes

-- a stop leaves nothing that it might not have left before
abbrev pub NoMore : (List ℕ → Type 0) → (List ℕ → Type 0) → Type 0
NoMore old new = (c : List ℕ) → new c → old c

-- a stop leaves what it might have left before, or what the call began
abbrev pub Adds : (List ℕ → Type 0) → (List ℕ → Type 0) → (List ℕ → Type 0) → Type 0
Adds more old new = (c : List ℕ) → new c → old c ⊎ more c

-- what stood, and then a beginning of the bytes
abbrev pub Begun : List ℕ → List ℕ → List ℕ → Type 0
Begun stood bytes c = (k : ℕ) × (c ≡ stood ++ take k bytes)

-- a beginning of what stood, of this many bytes or more
abbrev pub Shortened : ℕ → List ℕ → List ℕ → Type 0
Shortened len stood c = (k : ℕ) × (len ≤ k) × (c ≡ take k stood)

-- failures that were counted grew, or stood at the greatest number
abbrev pub Grew : ℕ → ℕ → Type 0
Grew before now = (before < now) ⊎ (before ≡ 18446744073709551615)

-- the device's failures are counted, and nothing else is
abbrev pub Counts : {T : Type 0} → Result T StoreFault → ℕ → ℕ → Type 0
Counts (Ok x) before now = now ≡ before
Counts (Err Device) before now = Grew before now
Counts (Err OutOfMemory) before now = now ≡ before

abbrev pub CountsDevice : {T : Type 0} → Result T DeviceFailed → ℕ → ℕ → Type 0
CountsDevice (Ok x) before now = now ≡ before
CountsDevice (Err e) before now = Grew before now

-- why a call failed: the device did, and this holds; or memory was short, and that does
abbrev pub FailsBy : {T : Type 0} → Result T StoreFault → Type 0 → Type 0 → Type 0
FailsBy (Ok x) device memory = Unit {0}
FailsBy (Err Device) device memory = device
FailsBy (Err OutOfMemory) device memory = memory
