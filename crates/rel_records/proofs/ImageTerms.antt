-- What the terms of an image say.
use Rattle.std.proofs.Common.{◌≡◌, ◌⊎◌, inl, inr, codes, Option, Some, None, refl, sym, ap, ◌∙◌, subst}
use Rattle.std.specs.Option.{option_and_then, option_map}
use Rattle.erl_term.specs.Value.{Value, Values}
use Rattle.rel_files.specs.File.{IsReleaseTerm}
use Rattle.rel_files.specs.Parts.{is_word, list_in, triple_in}
use Rattle.rel_files.specs.Release.{Release}
use Rattle.rel_files.proofs.Options.{chained, mapped, passed}
use Rattle.relup_file.specs.Relup.{RelupForm}
use Rattle.library.proofs.TermRows.{RowOrNot, row_or_not}
use Rattle.rel_files.proofs.TermParts.{from_is_word, from_list, from_triple}
use Rattle.rel_files.specs.Terms.{triple_term}
use Rattle.rel_list.specs.declared.status.Status.{Status}
use Rattle.rel_records.specs.Parts.{lists_in, lists_of}
use Rattle.rel_records.specs.Reading.{status_in, SaysImaged, StandsForRelup}
use Rattle.rel_records.specs.Record.{Imaged, image_term}
use Rattle.rel_records.proofs.TermLemmas.{SaysOrNot, says_or_not, StandsOrNot, stands_or_not}

-- a term that is no row says no release of an image
pub no_row : (v : Value) → triple_in v ≡ None → (x : Imaged) → SaysImaged v x → ⊥
no_row v none x s = cc (none, ap triple_in s.is)

module _ (v : Value) (t : Value × Value × Value) (row : triple_in v ≡ Some t) where
  -- what it says is said by its members
  members_of_row : (x : Imaged) (s : SaysImaged v x) → t ≡ (s.rel, s.status, s.last)
  members_of_row x s = the_one (sym row ∙ ap triple_in s.is)
    where
      the_one : Some t ≡ Some (s.rel, s.status, s.last) → t ≡ (s.rel, s.status, s.last)
      the_one e = cc

  pub no_status : status_in t.1 ≡ None → (x : Imaged) → SaysImaged v x → ⊥
  no_status none x s = cc (none, s.has_status, ap (λ (q : Value × Value × Value). status_in q.1) (members_of_row x s))

  pub no_rel_there : ((r : Release) → IsReleaseTerm t.0 r → ⊥) → (x : Imaged) → SaysImaged v x → ⊥
  no_rel_there never x s = never x.release (subst (λ (q : Value × Value × Value). IsReleaseTerm q.0 x.release) (sym (members_of_row x s)) s.release)

  pub no_relup_there : ((o : Option RelupForm) → StandsForRelup t.2 o → ⊥) → (x : Imaged) → SaysImaged v x → ⊥
  no_relup_there never x s = never x.relup (subst (λ (q : Value × Value × Value). StandsForRelup q.2 x.relup) (sym (members_of_row x s)) s.relup)

  pub row_says : (x : Imaged) → IsReleaseTerm t.0 x.release → status_in t.1 ≡ Some x.status → StandsForRelup t.2 x.relup → SaysImaged v x
  row_says x release status relup = record {
    rel = t.0;
    status = t.1;
    last = t.2;
    is = from_triple v t row;
    release = release;
    has_status = status;
    relup = relup;
  }

-- A term says a release of an image, or none.
abbrev ImagedOrNot : Value → Type 0
ImagedOrNot v = ((x : Imaged) × SaysImaged v x) ⊎ ((x : Imaged) → SaysImaged v x → ⊥)

imaged_or_not : (v : Value) → ImagedOrNot v
imaged_or_not v = by_row (triple_in v) refl
  where
    by_relup : (t : Value × Value × Value) → triple_in v ≡ Some t → (r : Release) → IsReleaseTerm t.0 r → (s : Status) → status_in t.1 ≡ Some s → StandsOrNot t.2 → ImagedOrNot v
    by_relup t row r release s status (inl (o, stands)) =
        let x : Imaged = record { release = r; status = s; relup = o } in inl (x, row_says v t row x release status stands)
    by_relup t row r release s status (inr never) = inr (no_relup_there v t row never)

    by_status : (t : Value × Value × Value) → triple_in v ≡ Some t → (r : Release) → IsReleaseTerm t.0 r → (o : Option Status) → status_in t.1 ≡ o → ImagedOrNot v
    by_status t row r release (Some s) status = by_relup t row r release s status (stands_or_not t.2)
    by_status t row r release None none = inr (no_status v t row none)

    by_release : (t : Value × Value × Value) → triple_in v ≡ Some t → SaysOrNot t.0 → ImagedOrNot v
    by_release t row (inl (r, release)) = by_status t row r release (status_in t.1) refl
    by_release t row (inr never) = inr (no_rel_there v t row never)

    by_row : (o : Option (Value × Value × Value)) → triple_in v ≡ o → ImagedOrNot v
    by_row None none = inr (no_row v none)
    by_row (Some t) row = by_release t row (says_or_not t.0)

-- terms say the releases of an image, or not
pub all_imaged_or_not : (vs : Values) → RowOrNot SaysImaged vs
all_imaged_or_not vs = row_or_not SaysImaged imaged_or_not vs

-- the lists of a term are those of an image
pub is_image_term : (v : Value) (q : Values × Values) → lists_in v ≡ Some q → v ≡ image_term q.0 q.1
is_image_term v q e =
    let (t, row, found) = chained lists_of (triple_in v) q e in
    let (word, rest) = passed (is_word (codes "image") t.0) (option_and_then (λ rows. option_map (λ libs. (rows, libs)) (list_in t.2)) (list_in t.1)) q found in
    let (rows, first, more) = chained (λ rows. option_map (λ libs. (rows, libs)) (list_in t.2)) (list_in t.1) q rest in
    let (libs, second, same) = mapped (λ libs. (rows, libs)) (list_in t.2) q more in
    from_triple v t row
    ∙ (λ k. triple_term (from_is_word (codes "image") t.0 word k) (from_list t.1 rows first k) (from_list t.2 libs second k))
    ∙ ap (λ (p : Values × Values). image_term p.0 p.1) same
