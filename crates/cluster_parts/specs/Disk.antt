-- What a simulated disk holds, and what a stop leaves of it.
use Rattle.std.specs.Prelude.{◌≡◌, ◌⊎◌, ℕ, ◌≤◌, List, take}
use Rattle.cluster_parts.specs.declared.disk.DiskStore.{DiskStore}

-- a stop leaves all bytes, or a beginning of them with all that is synced
abbrev pub MayLeave : DiskStore → List ℕ → Type 0
MayLeave d c = (c ≡ d.bytes.items) ⊎ ((k : ℕ) × (d.floor ≤ k) × (c ≡ take k d.bytes.items))
