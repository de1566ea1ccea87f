mod OptionLemmas
mod PathLemmas
mod ReaderLemmas
