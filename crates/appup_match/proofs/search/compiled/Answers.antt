use Rattle.appup_match.proofs.PatternLemmas.{none_of_refusal, some_of_pattern}
use Rattle.appup_match.proofs.search.compiled.Goals as goal

pub returns-in-Err-Syntax-clause-refused : goal.returns-in-Err-Syntax-clause-refused
returns-in-Err-Syntax-clause-refused c =
    let e = c.in-Err-Syntax in
    none_of_refusal c.args.source.now e.field-0-0.kind c.utf8.source (e.ensures.by_grammar e.field-0-0 e.field-0-is) (rw e.field-0-is at e.ensures.kind)

pub returns-in-Err-CompiledTooBig-clause-refused : goal.returns-in-Err-CompiledTooBig-clause-refused
returns-in-Err-CompiledTooBig-clause-refused c =
    let e = c.in-Err-CompiledTooBig in
    some_of_pattern c.args.source.now c.utf8.source (rw e.field-0-is at e.ensures.kind)
