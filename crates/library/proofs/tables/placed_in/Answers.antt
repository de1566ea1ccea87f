use Rattle.std.proofs.Common.{map, string_bytes}
use Rattle.std.specs.Option.{option_map}
use Rattle.erl_term.specs.Value.{members_of}
use Rattle.library.specs.InMemory.{table_term_of}
use Rattle.library.proofs.Terms.{placed_of}
use Rattle.library.proofs.tables.placed_in.Goals as goal

pub returns-in-Some : goal.returns-in-Some
returns-in-Some c =
    placed_of (λ v. map (λ t. option_map table_term_of t) v.items) (members_of c.args.terms.now) (map string_bytes c.args.modules.now) (map table_term_of c.in-Some.files.items)
    (rw c.in-Some.is at c.in_ok-files.ensures) c.placed.result c.placed.ensures
