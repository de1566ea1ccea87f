-- What parts of a script in the making stand for.
use Rattle.std.specs.Prelude.{List, [], ◌∷◌, Option, map, string_bytes}
use Rattle.appup_file.specs.Instruction.{AppupInstruction, row_of}
use Rattle.appup_file.specs.Instruction.AppupInstruction.{add_application, remove_application}
use Rattle.relup_translate.specs.declared.changes.AppChange.{AppChange}
use Rattle.relup_translate.specs.declared.changes.AppChange.TheVariants.{Coming, Changing, Going}
use Rattle.relup_translate.specs.declared.changes.ChangeKind.{ChangeKind}
use Rattle.relup_translate.specs.declared.changes.ChangeKind.TheVariants as kind
use Rattle.relup_row.specs.Release.{RelupAppForm, WayForm}
use Rattle.relup_translate.specs.Translation.{coming_row, changing_row, going_row}

-- the row of instructions that a change of an application is
abbrev pub row_of_change : AppChange → List AppupInstruction
row_of_change (Coming a) = add_application (record { name = string_bytes a.now.name; start = a.now.start }) ∷ []
row_of_change (Changing is) = row_of is.now
row_of_change (Going a) = remove_application (string_bytes a.now.name) ∷ []

abbrev pub rows_of : List AppChange → List (List AppupInstruction)
rows_of = map row_of_change

-- the row of an application, if it has a change of this kind
abbrev pub row_of_kind : ChangeKind → WayForm → RelupAppForm → Option (List AppupInstruction)
row_of_kind kind.Coming = coming_row
row_of_kind kind.Changing = changing_row
row_of_kind kind.Going = going_row
