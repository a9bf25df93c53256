-- The ring of a sound core is that of its setting.
use Rattle.std.proofs.Common.{◌≡◌, ◌≤◌, length, refl}
use Rattle.protocol.specs.Rings.{IsRingOf}
use Rattle.node_core.specs.Core.{Core, IsSound, setting, setting_of}
use Rattle.node_core.proofs.Keys.{is_ring_of}

pub known : (core : Core) → IsSound core → IsRingOf (setting_of core) core.machine.me core.ring
known core s = is_ring_of core.machine.powers core.machine.me core.ring s.owner s.count s.whole

pub few_setting : (core : Core) → IsSound core → length (setting_of core).powers ≤ 128
unfolding setting
few_setting core s = s.few

pub powers_setting : (core : Core) → (setting_of core).powers ≡ core.machine.powers
unfolding setting
powers_setting core = refl
