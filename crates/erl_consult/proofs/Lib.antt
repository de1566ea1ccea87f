mod ReadLemmas
mod ListLemmas
