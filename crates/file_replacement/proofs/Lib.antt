pub mod CrashLemmas
