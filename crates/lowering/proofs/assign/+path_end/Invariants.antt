use Rattle.lowering.proofs.assign.+path_end.Given as goal

abbrev pub decreases-path_end : goal.decreases-path_end
decreases-path_end l = l.levels
