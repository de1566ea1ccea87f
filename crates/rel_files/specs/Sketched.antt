-- What was made of a term, without where it lies in memory.
use Rattle.std.specs.Prelude.{map, string_bytes}
use Rattle.std.specs.Option.{option_map}
use Rattle.rel_files.specs.declared.draft.AppDraft.{AppDraft}
use Rattle.rel_files.specs.declared.draft.Draft.{Draft}
use Rattle.rel_files.specs.declared.ending.Ending.{Ending}
use Rattle.rel_files.specs.Sketch.{End, AppSketch, Sketch}

abbrev pub end_of : Ending → End
end_of e = record { start = e.start; included = option_map (λ v. map string_bytes v.items) e.included }

abbrev pub app_sketch_of : AppDraft → AppSketch
app_sketch_of a = record { name = string_bytes a.name; vsn = option_map string_bytes a.vsn; start = a.start; included = option_map (λ v. map string_bytes v.items) a.included }

abbrev pub sketch_of : Draft → Sketch
sketch_of d = record { name = string_bytes d.name; vsn = option_map string_bytes d.vsn; erts = option_map string_bytes d.erts; apps = map app_sketch_of d.apps.items }
