-- The laws of the crates below that the laws of sessions rest on.
use Rattle.rel_handler.specs.Laws.{BootsOrIsRefused, ImagesAreStores, StandsForOneList, RefusesNoImage}

-- The bytes of a disk stand for one list, or a boot refuses them. Those that stand for one hold a store.
pub record BootLaws : Type 0 where
  pub either : BootsOrIsRefused
  pub one : StandsForOneList
  pub never_both : RefusesNoImage
  pub stores : ImagesAreStores
