-- What a body spells, by its term.
use Rattle.std.proofs.Common.{◌≡◌, ◌⊎◌, inl, inr, ℕ, Bool, true, false, List, [], ◌∷◌, codes, Option, Some, None, Result, Ok, Err, refl, sym, ap, ◌∙◌, subst}
use Rattle.std.specs.Prelude.{IsErr, IsErrOf, IfOk, if◌then◌else◌}
use Rattle.std.specs.Result.{IsErrAnd}
use Rattle.std.specs.Option.{option_map, option_and_then}
use Rattle.std.specs.Str.{bytes_eq}
use Rattle.std.proofs.lemmas.Slice.Eq.{bytes_eq-Decides}
use Rattle.erl_term.specs.Value.{Value, Values}
use Rattle.erl_term.specs.Grammar.{Reading, Reads}
use Rattle.erl_term.specs.Faults.{IsFault}
use Rattle.erl_term.specs.OneTerm.{HasTerm}
use Rattle.erl_term.specs.TermFault.{TermFault}
use Rattle.erl_term.specs.TermFault.TheVariants as term
use Rattle.erl_term.proofs.Exact.{one_reading, never_both as reads_or_fails, reads_or_fault}
use Rattle.rel_files.specs.File.{IsReleaseTerm}
use Rattle.rel_files.specs.Parts.{pair_in, is_word, list_in}
use Rattle.rel_files.specs.Release.{Release}
use Rattle.rel_files.specs.Sketch.{version_in}
use Rattle.relup_file.specs.Relup.{RelupForm}
use Rattle.library.specs.Library.{Library}
use Rattle.library.specs.Reading.{AreOfLibraries, SaysLibrary}
use Rattle.library.proofs.TermRows.{RowOrNot}
use Rattle.library.proofs.TermCases.{libraries_or_not}
use Rattle.rel_records.specs.Parts.{ReleaseParts, lists_in, parts_in, parts_term, record_read, fault_of_text}
use Rattle.rel_records.specs.declared.reading.Record.{Record as RecordInMemory}
use Rattle.rel_records.specs.Record.{Assignment, Imaged, Record, makes, adds, assigns, removes, images, image_term}
use Rattle.rel_records.specs.Reading.{change_of, change_in, assignments_of, AreImaged, Brings, Says, SaysImage, SaysImaged, Spells, StandsForRelup}
use Rattle.rel_records.specs.declared.fault.RecordFault.{RecordFault}
use Rattle.rel_records.specs.declared.fault.RecordFault.TheVariants.{Bad}
use Rattle.rel_records.proofs.BodyLemmas.{one_term, one_word, one_rel, one_row, one_last, no_change, same_lists}
use Rattle.rel_records.proofs.ImageTerms.{all_imaged_or_not, is_image_term}
use Rattle.rel_records.proofs.TermLemmas.{SaysOrNot, says_or_not, StandsOrNot, stands_or_not, is_parts_term}

-- the record is of releases that are there
abbrev ChangesAlone : Record → Type 0
ChangesAlone (makes x ls o) = ⊥
ChangesAlone (adds x ls o) = ⊥
ChangesAlone (images xs ls) = ⊥
ChangesAlone r = Unit {0}

-- a change assigns or removes
neither : (a b : Bool) (x : Option (List Assignment)) (y : Option (List ℕ)) (r : Record) → (if a then option_map assigns x else if b then option_map removes y else None) ≡ Some r → ChangesAlone r
neither true b None y r e = absurd cc
neither true b (Some given) y r e = let same : assigns given ≡ r = cc in subst ChangesAlone same tt
neither false true x None r e = absurd cc
neither false true x (Some w) r e = let same : removes w ≡ r = cc in subst ChangesAlone same tt
neither false false x y r e = absurd cc

changes_only : (v : Value) (r : Record) → change_in v ≡ Some r → ChangesAlone r
changes_only v r e = by_pair (pair_in v) e
  where
    by_pair : (o : Option (Value × Value)) → option_and_then change_of o ≡ Some r → ChangesAlone r
    by_pair None e = absurd cc
    by_pair (Some p) e = neither (is_word (codes "status") p.0) (is_word (codes "removed") p.0) (option_and_then assignments_of (list_in p.1)) (version_in p.1) r e

pub change_says : (v : Value) (r : Record) → change_in v ≡ Some r → Says v r
change_says v (makes x ls o) e = absurd (changes_only v (makes x ls o) e)
change_says v (adds x ls o) e = absurd (changes_only v (adds x ls o) e)
change_says v (images xs ls) e = absurd (changes_only v (images xs ls) e)
change_says v (assigns given) e = e
change_says v (removes w) e = e

-- what is said by no release's term, no image's and no change is no record
pub says_none : (v : Value) → None ≡ parts_in v → None ≡ lists_in v → change_in v ≡ None → (r : Record) → Says v r → ⊥
says_none v none no_lists still (makes x ls o) b = cc (none, ap parts_in b.is)
says_none v none no_lists still (adds x ls o) b = cc (none, ap parts_in b.is)
says_none v none no_lists still (assigns given) says = cc (still, says)
says_none v none no_lists still (removes w) says = cc (still, says)
says_none v none no_lists still (images xs ls) s = cc (no_lists, ap lists_in s.is)

-- A term says a record, or none.
abbrev pub SaysRecordOrNot : Value → Type 0
SaysRecordOrNot v = ((r : Record) × Says v r) ⊎ ((r : Record) → Says v r → ⊥)

-- What the term with these parts doesn't say.
module _ (p : ReleaseParts) where
  no_change_there : change_in (parts_term p) ≡ None
  no_change_there = no_change (parts_term p) p.word p.rel p.libs p.relup refl

  -- it says no image
  no_image : (xs : List Imaged) (ls : List Library) → SaysImage (parts_term p) xs ls → ⊥
  no_image xs ls s = cc (ap lists_in s.is)

  -- a word that is none of the two says none
  no_word : bytes_eq p.word (codes "made") ≡ false → bytes_eq p.word (codes "unpacked") ≡ false → (r : Record) → Says (parts_term p) r → ⊥
  no_word made unpacked (makes x ls o) b = cc (made, ap (λ w. bytes_eq w (codes "made")) (one_word b.is))
  no_word made unpacked (adds x ls o) b = cc (unpacked, ap (λ w. bytes_eq w (codes "unpacked")) (one_word b.is))
  no_word made unpacked (images xs ls) s = no_image xs ls s
  no_word made unpacked (assigns given) says = cc (says, no_change_there)
  no_word made unpacked (removes w) says = cc (says, no_change_there)

  -- nor does one that brings nothing, whatever its word
  no_record : ((word : List ℕ) (x : Release) (ls : List Library) (o : Option RelupForm) → Brings word (parts_term p) x ls o → ⊥) → (r : Record) → Says (parts_term p) r → ⊥
  no_record never (makes x ls o) b = never (codes "made") x ls o b
  no_record never (adds x ls o) b = never (codes "unpacked") x ls o b
  no_record never (images xs ls) s = no_image xs ls s
  no_record never (assigns given) says = cc (says, no_change_there)
  no_record never (removes w) says = cc (says, no_change_there)

  -- as where its release is none
  no_release : ((x : Release) → IsReleaseTerm p.rel x → ⊥) → (r : Record) → Says (parts_term p) r → ⊥
  no_release never = no_record (λ word x ls o b. never x (subst (λ t. IsReleaseTerm t x) (sym (one_rel b.is)) b.release))

  -- or one of its libraries
  no_libraries : ((ls : List Library) → AreOfLibraries p.libs ls → ⊥) → (r : Record) → Says (parts_term p) r → ⊥
  no_libraries never = no_record (λ word x ls o b. never ls (subst (λ t. AreOfLibraries t ls) (sym (one_row b.is)) b.libraries))

  -- or its last term stands for no relup and not for none
  no_relup : ((o : Option RelupForm) → StandsForRelup p.relup o → ⊥) → (r : Record) → Says (parts_term p) r → ⊥
  no_relup never = no_record (λ word x ls o b. never o (subst (λ t. StandsForRelup t o) (sym (one_last b.is)) b.relup))

  -- what it says
  brings : (word : List ℕ) → p.word ≡ word → (x : Release) (ls : List Library) (o : Option RelupForm) → IsReleaseTerm p.rel x → AreOfLibraries p.libs ls → StandsForRelup p.relup o → Brings word (parts_term p) x ls o
  brings word is x ls o says are stands = record {
    rel = p.rel;
    libs = p.libs;
    last = p.relup;
    is = ap (λ w. parts_term (record p { word = w })) is;
    release = says;
    libraries = are;
    relup = stands;
  }

  -- it says each record of this kind whose parts it says
  abbrev SaysEach : (Release → List Library → Option RelupForm → Record) → Type 0
  SaysEach make = (x : Release) (ls : List Library) (o : Option RelupForm) → IsReleaseTerm p.rel x → AreOfLibraries p.libs ls → StandsForRelup p.relup o → Says (parts_term p) (make x ls o)

  parts_say : SaysRecordOrNot (parts_term p)
  parts_say = by_word (bytes_eq p.word (codes "made")) refl (bytes_eq p.word (codes "unpacked")) refl
    where
      by_relup : (make : Release → List Library → Option RelupForm → Record) → SaysEach make → (x : Release) (ls : List Library) → IsReleaseTerm p.rel x → AreOfLibraries p.libs ls
          → StandsOrNot p.relup → SaysRecordOrNot (parts_term p)
      by_relup make says x ls is are (inl (o, stands)) = inl (make x ls o, says x ls o is are stands)
      by_relup make says x ls is are (inr never) = inr (no_relup never)

      by_libraries : (make : Release → List Library → Option RelupForm → Record) → SaysEach make → (x : Release) → IsReleaseTerm p.rel x → RowOrNot SaysLibrary p.libs → SaysRecordOrNot (parts_term p)
      by_libraries make says x is (inl (ls, are)) = by_relup make says x ls is are (stands_or_not p.relup)
      by_libraries make says x is (inr never) = inr (no_libraries never)

      by_release : (make : Release → List Library → Option RelupForm → Record) → SaysEach make → SaysOrNot p.rel → SaysRecordOrNot (parts_term p)
      by_release make says (inl (x, is)) = by_libraries make says x is (libraries_or_not p.libs)
      by_release make says (inr never) = inr (no_release never)

      by_word : (a : Bool) → bytes_eq p.word (codes "made") ≡ a → (b : Bool) → bytes_eq p.word (codes "unpacked") ≡ b → SaysRecordOrNot (parts_term p)
      by_word true is b other = by_release (λ x ls o. makes x ls o) (brings (codes "made") ((bytes_eq-Decides p.word (codes "made")).0 is)) (says_or_not p.rel)
      by_word false is true other = by_release (λ x ls o. adds x ls o) (brings (codes "unpacked") ((bytes_eq-Decides p.word (codes "unpacked")).0 other)) (says_or_not p.rel)
      by_word false is false other = inr (no_word is other)

-- What the term of an image with these lists doesn't say.
module _ (rows libs : Values) where
  -- it says images alone
  images_alone : ((xs : List Imaged) (ls : List Library) → SaysImage (image_term rows libs) xs ls → ⊥) → (r : Record) → Says (image_term rows libs) r → ⊥
  images_alone never (makes x ls o) b = cc (ap lists_in b.is)
  images_alone never (adds x ls o) b = cc (ap lists_in b.is)
  images_alone never (assigns given) says = cc says
  images_alone never (removes w) says = cc says
  images_alone never (images xs ls) s = never xs ls s

  -- one of its rows says no release
  pub no_rows : ((xs : List Imaged) → AreImaged rows xs → ⊥) → (r : Record) → Says (image_term rows libs) r → ⊥
  no_rows never = images_alone (λ xs ls s. never xs (subst (λ vs. AreImaged vs xs) (sym (same_lists rows s.rows libs s.libs s.is).0) s.releases))

  -- or one of its libraries is none
  pub no_row_of_libraries : ((ls : List Library) → AreOfLibraries libs ls → ⊥) → (r : Record) → Says (image_term rows libs) r → ⊥
  no_row_of_libraries never = images_alone (λ xs ls s. never ls (subst (λ vs. AreOfLibraries vs ls) (sym (same_lists rows s.rows libs s.libs s.is).1) s.libraries))

  -- what it says
  pub image_says : (xs : List Imaged) (ls : List Library) → AreImaged rows xs → AreOfLibraries libs ls → Says (image_term rows libs) (images xs ls)
  image_says xs ls are also = record { rows = rows; libs = libs; is = refl; releases = are; libraries = also }

  lists_say : SaysRecordOrNot (image_term rows libs)
  lists_say = by_rows (all_imaged_or_not rows)
    where
      by_libraries : (xs : List Imaged) → AreImaged rows xs → RowOrNot SaysLibrary libs → SaysRecordOrNot (image_term rows libs)
      by_libraries xs are (inl (ls, also)) = inl (images xs ls, image_says xs ls are also)
      by_libraries xs are (inr never) = inr (no_row_of_libraries never)

      by_rows : RowOrNot SaysImaged rows → SaysRecordOrNot (image_term rows libs)
      by_rows (inl (xs, are)) = by_libraries xs are (libraries_or_not libs)
      by_rows (inr never) = inr (no_rows never)

says_record_or_not : (v : Value) → SaysRecordOrNot v
says_record_or_not v = by_parts (parts_in v) refl
  where
    by_change : parts_in v ≡ None → lists_in v ≡ None → (o : Option Record) → change_in v ≡ o → SaysRecordOrNot v
    by_change none no_lists (Some r) is = inl (r, change_says v r is)
    by_change none no_lists None is = inr (says_none v (sym none) (sym no_lists) is)

    by_lists : parts_in v ≡ None → (o : Option (Values × Values)) → lists_in v ≡ o → SaysRecordOrNot v
    by_lists none None is = by_change none is (change_in v) refl
    by_lists none (Some q) is = subst SaysRecordOrNot (sym (is_image_term v q is)) (lists_say q.0 q.1)

    by_parts : (o : Option ReleaseParts) → parts_in v ≡ o → SaysRecordOrNot v
    by_parts None is = by_lists is (lists_in v) refl
    by_parts (Some p) is = subst SaysRecordOrNot (sym (is_parts_term v p is)) (parts_say p)

-- A body spells a record, or none.
abbrev pub SpellsOrNot : List ℕ → Type 0
SpellsOrNot body = ((r : Record) × Spells body r) ⊎ ((r : Record) → Spells body r → ⊥)

-- what its term doesn't say it doesn't spell
pub unspelled : (body : List ℕ) (v : Value) → HasTerm 72 body v → ((r : Record) → Says v r → ⊥) → (r : Record) → Spells body r → ⊥
unspelled body v has never r s = never r (subst (λ t. Says t r) (one_term 72 body s.term v s.text has) s.says)

pub spells_or_not : (body : List ℕ) → SpellsOrNot body
spells_or_not body = by_reading (reads_or_fault 72 body)
  where
    by_term : (v : Value) → HasTerm 72 body v → SaysRecordOrNot v → SpellsOrNot body
    by_term v has (inl (r, says)) = inl (r, record { term = v; text = has; says = says })
    by_term v has (inr never) = inr (unspelled body v has never)

    by_terms : (rs : List Reading) → Reads 72 body rs → SpellsOrNot body
    by_terms [] reads = inr (λ r s. let lost : [] ≡ s.text.0 ∷ [] = one_reading 72 body [] (s.text.0 ∷ []) reads s.text.1 in cc)
    by_terms (p ∷ q ∷ rs) reads = inr (λ r s. let lost : p ∷ q ∷ rs ≡ s.text.0 ∷ [] = one_reading 72 body (p ∷ q ∷ rs) (s.text.0 ∷ []) reads s.text.1 in cc)
    by_terms (p ∷ []) reads = by_term p.term (p, reads, refl) (says_record_or_not p.term)

    by_reading : ((rs : List Reading) × Reads 72 body rs) ⊎ ((f : TermFault) × IsFault 72 body f) → SpellsOrNot body
    by_reading (inl (rs, reads)) = by_terms rs reads
    by_reading (inr (f, is)) = inr (λ r s. reads_or_fails 72 body (s.text.0 ∷ []) f s.text.1 is)

-- a text without a term spells none
pub no_term : (body : List ℕ) → ((v : Value) → HasTerm 72 body v → ⊥) → (r : Record) → Spells body r → ⊥
no_term body never r s = never s.term s.text

not_text : (f : TermFault) → fault_of_text f ≡ Bad → f ≡ term.NoMemory → ⊥
not_text f bad is = cc (bad, ap fault_of_text is)

-- a fault that is reported as a bad record
pub reported_bad : {T : Type 0} (r : Result T RecordFault) (f : RecordFault) → IsErr r × IsErrAnd r (λ e. e ≡ f) → IsErrOf r Bad → f ≡ Bad
reported_bad (Ok x) f reported bad = absurd reported.1
reported_bad (Err e) f reported bad = sym reported.1 ∙ cc bad

-- a fault of the text is that of a body without a term
pub no_text : {T : Type 0} (body : List ℕ) (f : TermFault) (reported : Result T RecordFault) → ((v : Value) → HasTerm 72 body v → f ≡ term.NoMemory) → IsErr reported × IsErrAnd reported (λ e. e ≡ fault_of_text f)
    → IsErrOf reported Bad → (r : Record) → Spells body r → ⊥
no_text body f reported only is bad = no_term body (λ v has. not_text f (reported_bad reported (fault_of_text f) is bad) (only v has))

module _ (body : List ℕ) (v : Value) (has : HasTerm 72 body v) where
  -- a body whose term says a record spells it
  pub spelled_so : {E : Type 0} → (result : Result RecordInMemory E) → IfOk result (λ r. Says v (record_read r)) → IfOk result (λ r. Spells body (record_read r))
  spelled_so (Ok r) says = record { term = v; text = has; says = says }
  spelled_so (Err e) says = tt

  pub release_spelled : {E : Type 0} → (p : ReleaseParts) → Some p ≡ parts_in v → (result : Result RecordInMemory E) → IfOk result (λ r. Says (parts_term p) (record_read r)) → IfOk result (λ r. Spells body (record_read r))
  release_spelled p parts result says = spelled_so result (subst (λ t. IfOk result (λ r. Says t (record_read r))) (sym (is_parts_term v p (sym parts))) says)

  pub no_release_spelled : (p : ReleaseParts) → Some p ≡ parts_in v → ((r : Record) → Says (parts_term p) r → ⊥) → (r : Record) → Spells body r → ⊥
  no_release_spelled p parts never = unspelled body v has (subst (λ t. (r : Record) → Says t r → ⊥) (sym (is_parts_term v p (sym parts))) never)

-- what a change says, in place of what its term reads as
pub says_change : {E : Type 0} → (v : Value) (result : Result RecordInMemory E) → IfOk result (λ r. change_in v ≡ Some (record_read r)) → IfOk result (λ r. Says v (record_read r))
says_change v (Ok r) is = change_says v (record_read r) is
says_change v (Err e) is = tt

-- what the lists of a term say, it says
pub says_lists : {E : Type 0} → (v : Value) (q : Values × Values) → Some q ≡ lists_in v → (result : Result RecordInMemory E) → IfOk result (λ r. Says (image_term q.0 q.1) (record_read r)) → IfOk result (λ r. Says v (record_read r))
says_lists v q lists result says = subst (λ t. IfOk result (λ r. Says t (record_read r))) (sym (is_image_term v q (sym lists))) says

pub no_lists_say : (v : Value) (q : Values × Values) → Some q ≡ lists_in v → ((r : Record) → Says (image_term q.0 q.1) r → ⊥) → (r : Record) → Says v r → ⊥
no_lists_say v q lists never = subst (λ t. (r : Record) → Says t r → ⊥) (sym (is_image_term v q (sym lists))) never
