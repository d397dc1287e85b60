use Rattle.record_lane.proofs.lane.Lane.create.Given as goal

abbrev pub ghosts-cut : goal.ghosts-cut
ghosts-cut g a = record { words = a.words; top = a.top; bound = a.bound }
