-- What holds of each release of a list that records make, whatever its status.
use Rattle.std.proofs.Common.{◌≡◌, ℕ, Bool, true, false, cond, List, [], ◌∷◌, ◌++◌, length, Option, Some, subst, find}
use Rattle.std.specs.Prelude.{◌&&◌, nat_lt, if◌then◌else◌}
use Rattle.std.specs.List.{AllByRecursion}
use Rattle.std.specs.Option.{option_and_then}
use Rattle.std.specs.Str.{bytes_eq}
use Rattle.rel_files.specs.Release.{Release}
use Rattle.relup_file.specs.Relup.{RelupForm}
use Rattle.library.specs.Library.{Library, IsLibrary}
use Rattle.rel_files.proofs.Options.{passed, both}
use Rattle.rel_list.specs.declared.status.Status.{Status}
use Rattle.rel_list.specs.declared.status.Status.TheVariants.{Unpacked, Permanent}
use Rattle.rel_list.specs.Releases.{Bundle, Releases, Entry, entry, status_of}
use Rattle.rel_list.specs.Event.{recorded, recorded_status, step, without, assigned_status, list_assigned, may_be_removed}
use Rattle.rel_list.specs.Event.Event.{made, removed, unpacked}
use Rattle.rel_list.proofs.OwnRules.{never_made_again, own_of_step}
use Rattle.rel_records.specs.Limits.{is_small, most_releases}
use Rattle.rel_records.specs.Lists.{may_be_assigned, added_by, assign_all, brought_by, made_by, Makes}
use Rattle.rel_records.specs.Record.{Assignment}
use Rattle.rel_records.proofs.MadeLemmas.{AreSaid, kept_made}
use Rattle.rel_records.proofs.RecordPlaces.{IsOfRecord, event_of_record, pushed_last}

module _ (P : Entry → Type 0) where
  -- what holds of each holds of the one that is found
  pub each-found : (test : Entry → Bool) (es : Releases) (e : Entry) → AllByRecursion P es → find test es ≡ Some e → P e
  each-found test [] e all is = absurd cc
  each-found test (f ∷ es) e all is = go (test f) (each-found test es e all.1) is
    where
      go : (b : Bool) → (find test es ≡ Some e → P e) → cond b (Some f) (find test es) ≡ Some e → P e
      go true behind is = let same : f ≡ e = cc is in subst P same all.0
      go false behind is = behind is

  each-without : (v : List ℕ) (es : Releases) → AllByRecursion P es → AllByRecursion P (without v es)
  each-without v [] all = tt
  each-without v (e ∷ es) all = go (bytes_eq v e.release.vsn) (each-without v es all.1)
    where
      go : (b : Bool) → AllByRecursion P (without v es) → AllByRecursion P (if b then es else e ∷ without v es)
      go true rest = all.1
      go false rest = (all.0, rest)

  pub each_left : (v : List ℕ) (es next : Releases) → step (removed v) es ≡ Some next → AllByRecursion P es → AllByRecursion P next
  each_left v es next e all =
      let (may, is) = passed (may_be_removed (status_of v es)) (Some (without v es)) next (own_of_step (removed v) es next e).1 in
      let gone : without v es ≡ next = cc is in subst (AllByRecursion P) gone (each-without v es all)

  each-push : (es : Releases) (e : Entry) → AllByRecursion P es → P e → AllByRecursion P (es ++ e ∷ [])
  each-push [] e all has = (has, tt)
  each-push (f ∷ es) e all has = (all.0, each-push es e all.1 has)

  each_one : (p : Bundle) (es next : Releases) → step (made p) es ≡ Some next → P (entry p Permanent) → AllByRecursion P next
  each_one p [] next is has = let one : entry p Permanent ∷ [] ≡ next = cc is in subst (AllByRecursion P) one (has, tt)
  each_one p (f ∷ fs) next is has = absurd (never_made_again p f fs next is)

  -- P holds of an entry whatever the entry's status is.
  module _ (still : (e : Entry) (s : Status) → P e → P (record e { status = s })) where
    -- it held of the list that records report so
    pub each-of_recorded : (es : Releases) → AllByRecursion P (recorded es) → AllByRecursion P es
    each-of_recorded [] all = tt
    each-of_recorded (e ∷ es) all = (still (record e { status = recorded_status e.status }) e.status all.0, each-of_recorded es all.1)

    each-assigned : (v : List ℕ) (t : Status) (es : Releases) → AllByRecursion P es → AllByRecursion P (list_assigned v t es)
    each-assigned v t [] all = tt
    each-assigned v t (e ∷ es) all = (still e (assigned_status t (bytes_eq v e.release.vsn) e.status) all.0, each-assigned v t es all.1)

    each-assign_all : (given : List Assignment) (es next : Releases) → AllByRecursion P es → assign_all given es ≡ Some next → AllByRecursion P next
    each-assign_all [] es next all is = let same : es ≡ next = cc is in subst (AllByRecursion P) same all
    each-assign_all (a ∷ given) es next all is =
        let (may, rest) = passed (may_be_assigned a es) (assign_all given (list_assigned a.vsn a.status es)) next is in
        each-assign_all given (list_assigned a.vsn a.status es) next (each-assigned a.vsn a.status es all) rest

    pub each_set : (given : List Assignment) (es next : Releases) → assign_all given es ≡ Some next → AllByRecursion P es → AllByRecursion P next
    each_set given es next is all = each-assign_all given es next all is

    -- Where it holds of each release that a record brings, it holds of each of a list that records make.
    module _ (brings : (es : Releases) (r : Release) (ls : List Library) (o : Option RelupForm) (p : Bundle) (s : Status)
        → AllByRecursion P es → is_small r ≡ true → AreSaid r o → AllByRecursion IsLibrary ls → IsOfRecord es r ls o p → P (entry p s)) where
      pub each_first : (r : Release) (ls : List Library) (o : Option RelupForm) (es next : Releases) → AreSaid r o → AllByRecursion IsLibrary ls → made_by r ls o es ≡ Some next
          → AllByRecursion P es → AllByRecursion P next
      each_first r ls o es next said libraries e all =
          let (small, rest) = passed (is_small r) (option_and_then (λ (p : Bundle). step (made p) es) (brought_by es r ls o)) next e in
          let (p, of, is) = event_of_record made (is_small r) r ls o es next e in
          each_one p es next is (brings es r ls o p Permanent all small said libraries of)

      pub each_further : (r : Release) (ls : List Library) (o : Option RelupForm) (es next : Releases) → AreSaid r o → AllByRecursion IsLibrary ls → added_by r ls o es ≡ Some next
          → AllByRecursion P es → AllByRecursion P next
      each_further r ls o es next said libraries e all =
          let allowed = is_small r && nat_lt (length es) most_releases in
          let (may, rest) = passed allowed (option_and_then (λ (p : Bundle). step (unpacked p) es) (brought_by es r ls o)) next e in
          let small = (both (is_small r) (nat_lt (length es) most_releases) may).0 in
          let (p, of, is) = event_of_record unpacked allowed r ls o es next e in
          subst (AllByRecursion P) (pushed_last p es next is) (each-push es (entry p Unpacked) all (brings es r ls o p Unpacked all small said libraries of))

      pub each_made : (format : ℕ) (bodies : List (List ℕ)) (es : Releases) → Makes format bodies es → AllByRecursion P es
      each_made = kept_made (AllByRecursion P) each_first each_further each_set each_left tt
