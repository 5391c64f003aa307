use Rattle.pmf_image.proofs.ExactLemmas.{holds-by_profile_two}
use Rattle.pmf_image.proofs.laws.profile_two_is_exact.Goals as goal

pub returns : goal.returns
returns c = holds-by_profile_two
