use Rattle.subscriber_ring.proofs.ends.ring.Given as goal

abbrev pub ghosts-parted : goal.ghosts-parted
ghosts-parted a = record { start = a.first }
