use Rattle.std.proofs.Common.{◌≡◌, map, take, string_bytes}
use Rattle.erl_term.specs.Answers.{reading_of_spanned}
use Rattle.erl_consult.specs.Listing.{lines_of}
use Rattle.erl_consult.proofs.listing.listing.Given as goal

abbrev pub invariant-loop-spanned : goal.invariant-loop-spanned
invariant-loop-spanned l = string_bytes l.text ≡ lines_of (map reading_of_spanned (take l.spanned-index l.spanned-items))
