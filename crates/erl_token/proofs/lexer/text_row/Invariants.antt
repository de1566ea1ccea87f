use Rattle.std.proofs.Common.{◌≡◌, ◌≢◌, ◌-◌, ◌<◌, ◌≤◌, length, slice_get}
use Rattle.std.specs.Prelude.{IfSome}
use Rattle.erl_token.specs.declared.class.Class.TheVariants.{Blank, Percent}
use Rattle.erl_token.specs.Lexing.{class_of, put_item}
use Rattle.erl_token.specs.Lexing.Token.{text}
use Rattle.erl_number.specs.Views.{text_bytes}
use Rattle.erl_token.specs.Views.{items_from}
use Rattle.erl_token.specs.Contents.{content_bytes}
use Rattle.erl_token.proofs.lexer.text_row.Given as goal

abbrev pub invariant-loop-text : goal.invariant-loop-text
invariant-loop-text l = record {
  joined : put_item (record { token = text (content_bytes l.fn.content); from = l.from; to = l.fn.to }) (items_from (text_bytes l.text) l.fn.to)
      ≡ put_item (record { token = text (content_bytes l.content); from = l.from; to = l.to }) (items_from (text_bytes l.text) l.next);
  behind : items_from (text_bytes l.text) l.to ≡ items_from (text_bytes l.text) l.next;
  some : l.from < l.to;
  onward : l.to ≤ l.next;
  stops : IfSome (slice_get (text_bytes l.text) l.next) (λ byte. (class_of byte ≢ Blank) × (class_of byte ≢ Percent));
}

abbrev pub decreases-loop-text : goal.decreases-loop-text
decreases-loop-text l = length (text_bytes l.text) - l.next
