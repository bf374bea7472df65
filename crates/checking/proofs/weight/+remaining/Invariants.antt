use Rattle.checking.proofs.weight.+remaining.Given as goal

abbrev pub decreases-remaining : goal.decreases-remaining
decreases-remaining l = l.limit
