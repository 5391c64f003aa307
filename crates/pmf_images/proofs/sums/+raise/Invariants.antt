use Rattle.pmf_images.proofs.sums.+raise.Given as goal

abbrev pub decreases-raise : goal.decreases-raise
decreases-raise l = l.width
