use Rattle.std.proofs.Common.{ap, map, string_bytes}
use Rattle.relup_command.specs.Releases.{releases_of}
use Rattle.relup_file.specs.Relup.{relup_of}
use Rattle.relup_row.specs.Release.{relup_release_of}
use Rattle.release_relup.proofs.FoundLemmas.{if_ok_weaker}
use Rattle.release_relup.proofs.PrintLemmas.{is_text}
use Rattle.release_relup.proofs.making.text_of_releases.Goals as goal

pub returns-in_ok-relup-in-Ok-clause-made : goal.returns-in_ok-relup-in-Ok-clause-made
returns-in_ok-relup-in-Ok-clause-made c =
    if_ok_weaker _ _ c.text_of_relup.result
    (λ text printed. is_text c.args.restart (releases_of c.args.releases.now) (relup_release_of c.in-Ok.plain) (relup_of c.in_ok-relup-in-Ok.relup) (string_bytes text) _ _ _ _
    (ap (map relup_release_of) c.deref.ensures.value) (ap (map relup_release_of) c.deref-2.ensures.value)
    (ap (map relup_release_of) c.deref-in-Ok.ensures.value) (ap (map relup_release_of) c.deref-in-Ok-2.ensures.value)
    c.in-Ok.ensures.made c.in_ok-relup-in-Ok.ensures.made printed)
    c.text_of_relup.ensures.printed
