use Rattle.std.proofs.Common.{◌≡◌, ◌++◌, drop, rules}
use lib.Utf8.{encode}
use Rattle.std.specs.Str.{IsUtf8}
use Rattle.erl_number.proofs.TextPlaces.{itself_at, character_cut}
use Rattle.erl_number.proofs.text.Text.character_at.Goals as goal

pub returns-clause-is : goal.returns-clause-is
returns-clause-is c =
    let utf8 : IsUtf8 (drop c.args.at c.args.self.valid.now) = search (rules, c.range_from.utf8) in
    let rest : drop c.args.at c.args.self.valid.now ≡ encode c.in-Some.character ++ c.as_str.result.now = search (rules, c.in-Some.ensures.steps.0) in
    let is = itself_at c.args.self.valid.now c.args.self.is_spoilt c.args.at c.in-Some.character c.as_str.result.now c.requires.within utf8 rest in
    search (rules, is)

pub returns-clause-behind : goal.returns-clause-behind
returns-clause-behind c =
    let utf8 : IsUtf8 (drop c.args.at c.args.self.valid.now) = search (rules, c.range_from.utf8) in
    let rest : drop c.args.at c.args.self.valid.now ≡ encode c.in-Some.character ++ c.as_str.result.now = search (rules, c.in-Some.ensures.steps.0) in
    let (onward, cut) = character_cut c.args.self.valid.now c.args.at c.in-Some.character c.as_str.result.now c.requires.within utf8 rest in
    ((search (rules, onward)), (search rules), (search (rules, cut)))
