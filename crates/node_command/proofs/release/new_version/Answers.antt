use Rattle.std.proofs.Common.{◌≡◌, inl, inr, true, false, Some, refl, ap, sym, ◌∙◌, rules, string_bytes}
use Rattle.std.specs.Prelude.{is_some}
use Rattle.library.specs.InMemory.{library_of}
use Rattle.rel_list.specs.Releases.{first_different, status_of}
use Rattle.node_command.specs.declared.error.HandlerError.TheVariants.{NoMemory}
use Rattle.node_command.specs.Place.{HasNoPlace}
use Rattle.rel_unpack.specs.Refusal.Refusal.{lib_differs}
use Rattle.rel_unpack.specs.declared.error.UnpackError.TheVariants as files
use Rattle.rel_unpack.specs.Unpacking.{brought_of}
use Rattle.node_command.proofs.Refusals.{refuses_with}
use Rattle.node_command.proofs.ReleaseLemmas.{none_listed, differs_so}
use Rattle.node_command.proofs.release.new_version.Goals as goal

-- its version is listed
pub returns-then-is_some-clause-refused : goal.returns-then-is_some-clause-refused
returns-then-is_some-clause-refused c =
    let listed : is_some (status_of (string_bytes c.args.brought.now.file.release.vsn) c.args.list.now) ≡ true = search rules in
    inr (inl (refl, listed))

-- no memory for the name of a library that differs
pub returns-in_err-name-clause-refused : goal.returns-in_err-name-clause-refused
returns-in_err-name-clause-refused c = refuses_with (HasNoPlace (brought_of c.args.brought.now) c.args.list.now) c.from_residual.result NoMemory c.from_residual.ensures (inl refl)

-- a library differs from the list's
pub returns-in-Some-clause-refused : goal.returns-in-Some-clause-refused
returns-in-Some-clause-refused c =
    let es = c.args.list.now in
    let b = brought_of c.args.brought.now in
    let fresh : is_some (status_of (string_bytes c.args.brought.now.file.release.vsn) es) ≡ false = search rules in
    let found : first_different es b.libraries ≡ Some (library_of c.in-Some.library.now) = sym (rw c.as_slice-libraries.ensures.value at c.in-Some.ensures) in
    let name : string_bytes c.in_ok-name.name ≡ (library_of c.in-Some.library.now).app.name = search rules in
    inr (inr (
      none_listed _ fresh,
      record {
        error = files.LibDiffers c.in_ok-name.name;
        reported = c.from.ensures;
        refused = differs_so b.libraries es (library_of c.in-Some.library.now) found ∙ ap (λ n. Some (lib_differs n)) (sym name);
      },
    ))

-- no memory for the version
pub returns-in_err-from_str-clause-refused : goal.returns-in_err-from_str-clause-refused
returns-in_err-from_str-clause-refused c = refuses_with (HasNoPlace (brought_of c.args.brought.now) c.args.list.now) c.from_residual-in_err-from_str.result NoMemory c.from_residual-in_err-from_str.ensures (inl refl)
