use Rattle.pmf_images.proofs.sums.+sum.Given as goal

abbrev pub decreases-sum : goal.decreases-sum
decreases-sum l = l.width
