mod PatternLemmas
mod SearchLemmas
