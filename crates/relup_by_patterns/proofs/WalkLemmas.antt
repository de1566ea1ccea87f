-- The applications of a release, as far as they have been gone through.
use Rattle.std.proofs.Common.{◌≡◌, ℕ, suc, ◌+◌, ◌<◌, ◌≤◌, List, [], ◌∷◌, ◌++◌, length, map, drop, get_or, drop-cons, inl, inr, sym, ap, ◌∙◌, subst, arith}
use Rattle.std.specs.List.{AllZip}
use Rattle.std.proofs.Math.ListN.{drop_of_length-le}
use Rattle.std.proofs.lemmas.List.{append_assoc, append-nil}
use Rattle.relup_row.specs.declared.release.RelupApp.{RelupApp}
use Rattle.relup_row.specs.Release.{RelupAppForm, RelupReleaseForm, relup_app_of}
use Rattle.relup_by_patterns.specs.Plain.{BadPattern, IsPlainApp, AppHasFault, AppsHaveFault}

module _ (ups downs : List RelupReleaseForm) (apps : List RelupApp) where
  -- what holds where the walk goes on from this place, with these applications made
  abbrev pub Kept : ℕ → List RelupAppForm → Type 0
  Kept i made =
      ((rest : List RelupAppForm) → AllZip (IsPlainApp ups downs) (map relup_app_of (drop i apps)) rest → AllZip (IsPlainApp ups downs) (map relup_app_of apps) (made ++ rest))
      × ((b : BadPattern) → AppsHaveFault ups downs (map relup_app_of (drop i apps)) b → AppsHaveFault ups downs (map relup_app_of apps) b)

  from_here : (i : ℕ) (a : RelupApp) → i < length apps → a ≡ get_or apps i a →
      map relup_app_of (drop i apps) ≡ relup_app_of a ∷ map relup_app_of (drop (i + 1) apps)
  from_here i a within at =
      let next : suc i ≡ i + 1 = omega arith in
      ap (map relup_app_of) (drop-cons apps i a within ∙ ap (λ x. x ∷ drop (suc i) apps) (sym at)) ∙ ap (λ k. relup_app_of a ∷ map relup_app_of (drop k apps)) next

  -- past an application that has a plain appup
  pub past : (i : ℕ) (a : RelupApp) (c : RelupAppForm) (made new : List RelupAppForm) → i < length apps → a ≡ get_or apps i a →
      IsPlainApp ups downs (relup_app_of a) c → new ≡ made ++ (c ∷ []) → Kept i made → Kept (i + 1) new
  past i a c made new within at plain grown kept =
      let here = from_here i a within at in
      let P : List RelupAppForm → List RelupAppForm → Type 0 = λ rest xs. AllZip (IsPlainApp ups downs) xs (c ∷ rest) in
      let Q : List RelupAppForm → Type 0 = AllZip (IsPlainApp ups downs) (map relup_app_of apps) in
      let R : BadPattern → List RelupAppForm → Type 0 = λ b xs. AppsHaveFault ups downs xs b in
      let joined : (rest : List RelupAppForm) → new ++ rest ≡ made ++ (c ∷ rest) = λ rest. ap (λ l. l ++ rest) grown ∙ append_assoc made (c ∷ []) rest in (
        λ rest h. subst Q (sym (joined rest)) (kept.0 (c ∷ rest) (subst (P rest) (sym here) (plain, h))),
        λ b h. kept.1 b (subst (R b) (sym here) (inr (c, plain, h))),
      )

  -- at one that has none
  pub at_fault : (i : ℕ) (a : RelupApp) (made : List RelupAppForm) (b : BadPattern) → i < length apps → a ≡ get_or apps i a →
      AppHasFault ups downs (relup_app_of a) b → Kept i made → AppsHaveFault ups downs (map relup_app_of apps) b
  at_fault i a made b within at has kept =
      let R : List RelupAppForm → Type 0 = λ xs. AppsHaveFault ups downs xs b in
      kept.1 b (subst R (sym (from_here i a within at)) (inl has))

  pub at_end : (i : ℕ) (made : List RelupAppForm) → length apps ≤ i → Kept i made → AllZip (IsPlainApp ups downs) (map relup_app_of apps) made
  at_end i made past_all kept =
      let P : List RelupAppForm → Type 0 = AllZip (IsPlainApp ups downs) (map relup_app_of apps) in
      let Q : List RelupApp → Type 0 = λ xs. AllZip (IsPlainApp ups downs) (map relup_app_of xs) [] in
      subst P (append-nil made) (kept.0 [] (subst Q (sym (drop_of_length-le apps past_all)) tt))
