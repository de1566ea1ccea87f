mod ThreadLemmas
