use Rattle.std.proofs.Common.{rules, ◌≡◌, ◌++◌, ◌∷◌, [], ◌∙◌, sym, ap, subst, string_bytes, None}
use Rattle.rel_list.specs.Releases.{Releases, entry, status_of}
use Rattle.rel_list.specs.Keyed.{bundle_of, entries_in, IsOrderly, IsKept}
use Rattle.rel_list.proofs.Lookups.{inserted, AreKeyed-push, entries_in-push}
use Rattle.rel_list.proofs.EventLaws.{orderly-push}
use Rattle.rel_list.proofs.list.ReleaseList.put.Goals as goal

pub invariant_of-self-2 : goal.invariant_of-self-2
invariant_of-self-2 c =
    let copied : string_bytes c.in_ok-vsn.vsn ≡ string_bytes c.args.bundle.release.vsn = search rules in
    let unlisted : status_of (string_bytes c.args.bundle.release.vsn) (entries_in c.self.inside.releases.entries) ≡ None =
    ap (status_of (string_bytes c.args.bundle.release.vsn)) c.self.view_is ∙ c.requires.new in
    let put =
    inserted c.self.inside.releases c.in_ok-vsn.vsn (record { release = c.args.bundle.release; libraries = c.args.bundle.libraries; relup = c.args.bundle.relup; status = c.args.status }) c.self.invariant.keyed copied unlisted in
    let orderly =
    orderly-push (entries_in c.self.inside.releases.entries) (entry (bundle_of c.args.bundle) c.args.status) c.requires.not_temporary unlisted
    c.self.invariant.orderly in
    subst IsKept (sym (c.in_ok-insert.ensures.entries ∙ put)) (record {
      keyed = AreKeyed-push _ _ _ c.self.invariant.keyed copied;
      orderly = subst IsOrderly (sym (entries_in-push _ _ _)) orderly;
    })

pub returns-clause-added : goal.returns-clause-added
returns-clause-added c =
    let copied : string_bytes c.in_ok-vsn.vsn ≡ string_bytes c.args.bundle.release.vsn = search rules in
    let unlisted : status_of (string_bytes c.args.bundle.release.vsn) (entries_in c.self.inside.releases.entries) ≡ None =
    ap (status_of (string_bytes c.args.bundle.release.vsn)) c.self.view_is ∙ c.requires.new in
    let put =
    inserted c.self.inside.releases c.in_ok-vsn.vsn (record { release = c.args.bundle.release; libraries = c.args.bundle.libraries; relup = c.args.bundle.relup; status = c.args.status }) c.self.invariant.keyed copied unlisted in
    ap entries_in (c.in_ok-insert.ensures.entries ∙ put) ∙ entries_in-push _ _ _
    ∙ ap (λ (es : Releases). es ++ entry (bundle_of c.args.bundle) c.args.status ∷ []) c.self.view_is
