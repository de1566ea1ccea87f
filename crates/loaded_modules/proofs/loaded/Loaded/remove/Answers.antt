use Rattle.std.proofs.Common.{string_bytes, map, ap, sym, ◌∙◌}
use Rattle.std.specs.Map.{lookup}
use Rattle.std.specs.Str.{bytes_eq}
use Rattle.std.proofs.lemmas.Map.Text.{is_eq-slice_cmp}
use Rattle.loaded_modules.specs.Loaded.{module_in, named_in}
use Rattle.loaded_modules.proofs.NamedLemmas.{removed-read}
use Rattle.loaded_modules.proofs.loaded.Loaded.remove.Goals as goal

pub returns : goal.returns
returns c =
    let is = c.remove-removed.ensures in
    let name = c.args.name.now in
    ap (map named_in) is.entries
    ∙ removed-read _ (bytes_eq name) string_bytes module_in (λ k. is_eq-slice_cmp name (string_bytes k)) c.args.self.now.modules.entries (sym (ap (lookup _) is.entries) ∙ is.updates.1)
