use Rattle.lowering.proofs.assign.+path_hashes.Given as goal

abbrev pub decreases-path_hashes : goal.decreases-path_hashes
decreases-path_hashes l = l.levels
