use Rattle.std.proofs.Common.{◌≡◌, ◌∙◌, Some, map, string_bytes, ap, codes}
use Rattle.std.specs.Option.{option_map}
use Rattle.erl_term.specs.Value.{value_of}
use Rattle.rel_files.specs.AppParts.{Entries, vsn_in, modules_at, top_at, value_at}
use Rattle.rel_files.proofs.AppReadings.{of_its_keys}
use Rattle.rel_files.proofs.app_contents.Contents.of_entries.Goals as goal

pub returns : goal.returns
returns c =
    let entries : Entries = record { name = c.args.entries.now.name.now; pairs = map (λ p. (value_of p.0.now, value_of p.1.now)) c.args.entries.now.pairs.items } in
    let vsn : Some (string_bytes c.in-Some.vsn) ≡ vsn_in entries.pairs = rw c.in-Some.is at c.in_ok-vsn.ensures in
    let modules : Some (map string_bytes c.in-Some-2.modules.items) ≡ modules_at (value_at (codes "modules") entries.pairs) =
    (rw c.in-Some-2.is at c.in_ok-modules.ensures) ∙ ap modules_at c.value_at.ensures in
    let top : Some (option_map string_bytes c.in-Some-3.top) ≡ top_at (value_at (codes "mod") entries.pairs) =
    (rw c.in-Some-3.is at c.in_ok-top.ensures) ∙ ap top_at c.value_at-2.ensures in
    of_its_keys entries (string_bytes c.in_ok-from_str.field-0) (string_bytes c.in-Some.vsn) (map string_bytes c.in-Some-2.modules.items) (option_map string_bytes c.in-Some-3.top) c.in_ok-from_str.ensures.ok vsn modules top
