-- Who is behind a link, as it is counted.
use Rattle.std.specs.Prelude.{Bool, true, false, ◌&&◌}
use Rattle.peer_core.specs.declared.link.PeerLink.{PeerLink}
use Rattle.peer_core.specs.declared.link.Behind.{Behind}
use Rattle.peer_core.specs.declared.link.Behind.TheVariants.{Nobody, Client, Validator}
use Rattle.peer_core.specs.Choosing.{is_open}

abbrev pub is_validator : Behind → Bool
is_validator (Validator v) = true
is_validator other = false

abbrev pub is_client : Behind → Bool
is_client Client = true
is_client other = false

abbrev pub is_nobody : Behind → Bool
is_nobody Nobody = true
is_nobody other = false

abbrev pub is_validators : PeerLink → Bool
is_validators link = is_open link && is_validator link.behind

abbrev pub is_clients : PeerLink → Bool
is_clients link = is_open link && is_client link.behind

abbrev pub is_strangers : PeerLink → Bool
is_strangers link = is_open link && is_nobody link.behind
