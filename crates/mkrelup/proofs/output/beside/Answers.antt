use Rattle.std.proofs.Common.{◌≡◌, ◌++◌, IfOk, string_bytes, codes, ap, subst}
use Rattle.rel_unpack.proofs.RelupPaths.{alone, in_folder}
use Rattle.mkrelup.proofs.output.beside.Goals as goal

pub returns-in-Some : goal.returns-in-Some
returns-in-Some c =
    subst (λ p. IfOk c.format.result (λ s. string_bytes s ≡ p))
    (ap (λ p. c.args.root.now ++ (codes "/" ++ p)) (in_folder c.args.new.now c.in-Some.folder.now c.in-Some._name.now c.in-Some.ensures.cases)) c.format.ensures.ok

pub returns-in-None : goal.returns-in-None
returns-in-None c =
    subst (λ p. IfOk c.format-in-None.result (λ s. string_bytes s ≡ p)) (ap (λ p. c.args.root.now ++ (codes "/" ++ p)) (alone c.args.new.now c.in-None.ensures.cases)) c.format-in-None.ensures.ok
