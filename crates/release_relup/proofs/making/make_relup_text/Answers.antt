use Rattle.std.proofs.Common.{map, string_bytes}
use Rattle.relup_command.proofs.NameLemmas.{read_releases_are_well_formed}
use Rattle.relup_command.specs.Releases.{releases_of}
use Rattle.release_relup.specs.declared.error.MakeError.TheVariants.{Files}
use Rattle.release_relup.proofs.RefusalLemmas.{of_releases, kept, names_kept, names_in_files}
use Rattle.release_relup.proofs.making.make_relup_text.Goals as goal

pub returns-in-Ok-text_with_warnings-clause-made : goal.returns-in-Ok-text_with_warnings-clause-made
returns-in-Ok-text_with_warnings-clause-made g c =
    let ups = map string_bytes c.args.ups.now in
    let downs = map string_bytes c.args.downs.now in
    let there = c.in-Ok.ensures in (
      releases_of c.in-Ok.releases,
      there,
      c.in-Ok-text_with_warnings.ensures.text (read_releases_are_well_formed (g.F.Files.gives c.args.files.now) c.args.new.now ups downs (releases_of c.in-Ok.releases) there),
      c.in-Ok-text_with_warnings.ensures.lines,
    )

pub returns-in-Ok-clause-refused : goal.returns-in-Ok-clause-refused
returns-in-Ok-clause-refused g c =
    let ups = map string_bytes c.args.ups.now in
    let downs = map string_bytes c.args.downs.now in
    kept (g.F.Files.gives c.args.files.now) c.args.new.now ups downs c.args.restart c.in-Err-text_with_warnings.why c.located.result.why c.located.ensures.kept
    (of_releases (g.F.Files.gives c.args.files.now) c.args.new.now ups downs c.args.restart (releases_of c.in-Ok.releases) c.in-Err-text_with_warnings.why c.in-Ok.ensures c.in-Err-text_with_warnings.ensures.refused)

pub returns-in-Ok-clause-file : goal.returns-in-Ok-clause-file
returns-in-Ok-clause-file g c =
    names_kept (g.F.Files.gives c.args.files.now) c.args.new.now (map string_bytes c.args.ups.now) (map string_bytes c.args.downs.now) c.args.restart
    (releases_of c.in-Ok.releases) c.in-Err-text_with_warnings.why c.located.result.why (string_bytes c.located.result.file) c.located.ensures.kept c.in-Ok.ensures
    c.in-Err-text_with_warnings.ensures.refused c.located.ensures.file

pub returns-clause-refused : goal.returns-clause-refused
returns-clause-refused g c =
    kept (g.F.Files.gives c.args.files.now) c.args.new.now (map string_bytes c.args.ups.now) (map string_bytes c.args.downs.now) c.args.restart (Files c.in-Err.why)
    c.located_in_files.result.why c.located_in_files.ensures.kept c.in-Err.ensures

pub returns-clause-file : goal.returns-clause-file
returns-clause-file g c =
    names_in_files (g.F.Files.gives c.args.files.now) c.args.new.now (map string_bytes c.args.ups.now) (map string_bytes c.args.downs.now) c.args.restart c.in-Err.why
    c.located_in_files.result.why (string_bytes c.located_in_files.result.file) c.located_in_files.ensures.kept c.located_in_files.ensures.file
