use Rattle.std.proofs.Common.{◌≡◌, map, drop}
use Rattle.std.specs.List.{list_all}
use Rattle.session_input.specs.Commands.{is_path}
use Rattle.session_input.proofs.parsed_line.are_paths.Given as goal

abbrev pub invariant-loop-word : goal.invariant-loop-word
invariant-loop-word l = list_all is_path (map (λ word. word.now) l.words) ≡ list_all is_path (map (λ word. word.now) (drop l.word-index l.words))
