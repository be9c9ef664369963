use Rattle.rounds.proofs.finder.+seek.Given as goal

abbrev pub decreases-seek : goal.decreases-seek
decreases-seek l = l.node.free
