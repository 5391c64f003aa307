use Rattle.pmf_image.proofs.ImageLemmas.{has_images}
use Rattle.pmf_image.proofs.laws.every_place_has_images.Goals as goal

pub returns : goal.returns
returns c = has_images
