-- A relup that is made of releases with names and versions has the form of one.
use Rattle.std.proofs.Common.{Bool}
use Rattle.relup_file.specs.Form.{IsRelup}
use Rattle.relup_file.specs.Relup.{RelupForm}
use Rattle.relup_by_patterns.specs.Plain.{IsPlainRelease}
use Rattle.relup_by_patterns.proofs.NameLemmas.{stays_well_formed}
use Rattle.relup_command.specs.Laws.{AreWellFormed}
use Rattle.relup_command.specs.Releases.{Releases}
use Rattle.relup_row.specs.Release.{RelupReleaseForm}
use Rattle.runtime_change.proofs.NameLemmas.{made_relups_are_named}
use Rattle.release_relup.specs.Made.{IsRelupOf}

pub is_relup : (restart : Bool) (all : Releases) (plain : RelupReleaseForm) (relup : RelupForm) → AreWellFormed all
    → IsPlainRelease all.ups all.downs all.new plain → IsRelupOf restart plain all.ups all.downs relup → IsRelup relup
is_relup restart all plain relup of is_plain made =
    let (well, appups) = stays_well_formed all.ups all.downs all.new plain is_plain of.new of.appups in
    made_relups_are_named restart plain all.ups all.downs relup well appups of.ups of.downs made.is
