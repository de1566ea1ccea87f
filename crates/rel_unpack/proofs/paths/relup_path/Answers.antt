use Rattle.std.proofs.Common.{◌≡◌, IfOk, string_bytes, subst}
use Rattle.rel_unpack.proofs.RelupPaths.{alone, in_folder}
use Rattle.rel_unpack.proofs.paths.relup_path.Goals as goal

pub returns-in-Some : goal.returns-in-Some
returns-in-Some c =
    subst (λ p. IfOk c.format.result (λ s. string_bytes s ≡ p)) (in_folder c.args.path.now c.in-Some.folder.now c.in-Some._name.now c.in-Some.ensures.cases) c.format.ensures.ok

pub returns-in-None : goal.returns-in-None
returns-in-None c = subst (λ p. IfOk c.from_str.result (λ s. string_bytes s ≡ p)) (alone c.args.path.now c.in-None.ensures.cases) c.from_str.ensures.ok
