use Rattle.rel_disk.proofs.ImagePlaces.{image_survives, survives_image}
use Rattle.rel_disk.proofs.laws.images_by_places.Goals as goal

pub returns : goal.returns
returns c first calls image = (image_survives first calls image, survives_image first calls image)
