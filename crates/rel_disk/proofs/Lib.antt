pub mod DamageLemmas
mod ImageLemmas
mod ImagePlaces
mod LogEntries
pub mod Moments
mod PickLemmas
pub mod PlaceLemmas
mod WrittenPlaces
