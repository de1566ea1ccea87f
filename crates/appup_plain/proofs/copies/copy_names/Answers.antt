use Rattle.std.proofs.Common.{string_bytes}
use Rattle.std.proofs.lemmas.Result.{MatchResult-weaker}
use Rattle.relup_row.proofs.WalkLemmas.{all_cloned}
use Rattle.appup_plain.proofs.copies.copy_names.Goals as goal

pub returns : goal.returns
returns c = MatchResult-weaker c.clone.result c.clone.ensures.cases (λ v cloned. all_cloned string_bytes c.args.names.now.items v.items cloned.0) (λ e _. tt)
