use Rattle.std.proofs.Common.{◌-◌, length}
use Rattle.std.specs.Str.{IsCharBoundary}
use Rattle.erl_number.specs.Views.{text_bytes}
use Rattle.erl_token.specs.Contents.{content_bytes}
use Rattle.erl_token.proofs.QuoteLemmas.{IsRead}
use Rattle.erl_token.proofs.quote.quoted_from.Given as goal

abbrev pub invariant-loop-at : goal.invariant-loop-at
invariant-loop-at l = record {
  read : IsRead l.quote l.from (text_bytes l.text) (content_bytes l.content) l.at;
  cut : IsCharBoundary l.text.valid.now l.at;
}

abbrev pub decreases-loop-at : goal.decreases-loop-at
decreases-loop-at l = length (text_bytes l.text) - l.at
