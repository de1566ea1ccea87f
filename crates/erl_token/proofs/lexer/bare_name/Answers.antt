use Rattle.std.proofs.Common.{◌≡◌, sym, ◌∙◌, true, false, arith}
use Rattle.std.specs.Prelude.{codes}
use Rattle.std.specs.Str.{bytes_eq}
use Rattle.erl_token.proofs.Parts.{name_run, name_begins, name_ends, name_part, name_size}
use Rattle.erl_token.proofs.NameLemmas.{bare_fun, bare_named}
use Rattle.erl_token.proofs.lexer.bare_name.Goals as goal

pub part-name-requires-clause-ends : goal.part-name-requires-clause-ends
part-name-requires-clause-ends c =
    let run = name_run c.args.text.valid.now c.args.text.is_spoilt c.args.from c.run_end-to.result c.requires.within c.requires.class c.run_end-to.ensures.end in
    name_ends run c.run_end-to.ensures.utf8

pub returns-then-eq : goal.returns-then-eq
returns-then-eq c =
    let run = name_run c.args.text.valid.now c.args.text.is_spoilt c.args.from c.run_end-to.result c.requires.within c.requires.class c.run_end-to.ensures.end in
    let is : bytes_eq c.part-name.result.now (codes "fun") ≡ true = sym c.if-eq.ensures in
    (c.alone.ensures.0 ∙ bare_fun c.args.from c.part-name.result.now _ (name_part c.part-name.result.now run c.part-name.ensures) is, c.alone.ensures.1)

pub returns-else-eq : goal.returns-else-eq
returns-else-eq c =
    let run = name_run c.args.text.valid.now c.args.text.is_spoilt c.args.from c.run_end-to.result c.requires.within c.requires.class c.run_end-to.ensures.end in
    let other : bytes_eq c.part-name.result.now (codes "fun") ≡ false = sym c.if-eq.ensures in
    (c.name_item.ensures.0 ∙ bare_named c.args.from _ c.part-name.result.now _ (name_part c.part-name.result.now run c.part-name.ensures) other (name_size run), c.name_item.ensures.1)

pub part-name-requires-clause-ordered : goal.part-name-requires-clause-ordered
part-name-requires-clause-ordered c = omega (arith, c.run_end-to.ensures.end)

pub part-name-requires-clause-begins : goal.part-name-requires-clause-begins
part-name-requires-clause-begins c =
    let run = name_run c.args.text.valid.now c.args.text.is_spoilt c.args.from c.run_end-to.result c.requires.within c.requires.class c.run_end-to.ensures.end in
    name_begins run

pub name_item-requires-clause-onward : goal.name_item-requires-clause-onward
name_item-requires-clause-onward c =
    let run = name_run c.args.text.valid.now c.args.text.is_spoilt c.args.from c.run_end-to.result c.requires.within c.requires.class c.run_end-to.ensures.end in
    run.some

pub name_item-requires-clause-room : goal.name_item-requires-clause-room
name_item-requires-clause-room c =
    let run = name_run c.args.text.valid.now c.args.text.is_spoilt c.args.from c.run_end-to.result c.requires.within c.requires.class c.run_end-to.ensures.end in
    omega (arith, run.some, c.run_end-to.ensures.within)

pub alone-requires : goal.alone-requires
alone-requires c =
    let run = name_run c.args.text.valid.now c.args.text.is_spoilt c.args.from c.run_end-to.result c.requires.within c.requires.class c.run_end-to.ensures.end in
    omega (arith, run.some, c.run_end-to.ensures.within)
