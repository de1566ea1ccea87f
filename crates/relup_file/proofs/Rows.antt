-- The entries of a relup, one after another.
use Rattle.std.proofs.Common.{◌≡◌, ℕ, ◌+◌, ◌<◌, ◌≤◌, ◌++◌, List, [], ◌∷◌, length, map, drop, get_or, Some, None, Result, Ok, Err, MatchResult, IsErr, IsErrAnd, refl, sym, ap, subst, ◌∙◌, append_assoc, arith}
use Rattle.std.proofs.lemmas.List.{append-nil, drop_all, drop_more, map-append}
use Rattle.erl_term.specs.declared.term.Term.{Term}
use Rattle.erl_term.specs.Value.{Value, Values, value_of, members_of}
use Rattle.rel_files.proofs.Members.{count-members_of}
use Rattle.rel_files.specs.Sketch.{count}
use Rattle.relup_file.specs.declared.fault.RelupFault.{RelupFault}
use Rattle.relup_file.specs.declared.fault.RelupFault.TheVariants.{BadTerm, BadShape, NoMemory}
use Rattle.relup_file.specs.declared.relup.Relup.{Relup}
use Rattle.relup_file.specs.declared.relup.RelupEntry.{RelupEntry}
use Rattle.relup_file.specs.Relup.{EntryForm, entry_of, relup_of}
use Rattle.relup_file.specs.Parts.{entry_in, put_entry, entries_in, Outer, outer_in, join, from_outer, relup_in, ReportsBad}

-- these in front of the others, if all of those are entries
abbrev pub behind : List EntryForm → Result (List EntryForm) ℕ → Result (List EntryForm) ℕ
behind front (Ok es) = Ok (front ++ es)
behind front (Err n) = Err n

-- one entry more after those in front
put_behind : (front : List EntryForm) (e : EntryForm) (n : ℕ) (r : Result (List EntryForm) ℕ) → behind (front ++ e ∷ []) r ≡ behind front (put_entry n (Some e) r)
put_behind front e n (Ok es) = ap Ok (append_assoc front (e ∷ []) es)
put_behind front e n (Err k) = refl

-- one step on over entries
pub entries_more : (before : ℕ) (terms : List Term) (i : ℕ) (term : Term) (old new : List RelupEntry) (entry : RelupEntry) (all : Result (List EntryForm) ℕ)
    → i < length terms → term ≡ get_or terms i term → Some (entry_of entry) ≡ entry_in (value_of term) → new ≡ old ++ entry ∷ []
    → behind (map entry_of old) (entries_in (before + i) (members_of (drop i terms))) ≡ all
    → behind (map entry_of new) (entries_in (before + (i + 1)) (members_of (drop (i + 1) terms))) ≡ all
entries_more before terms i term old new entry all within at read grown so_far =
    let later : Values = members_of (drop (i + 1) terms) in
    let number : before + (i + 1) ≡ before + i + 1 = omega arith in
    let split : drop i terms ≡ term ∷ drop (i + 1) terms = drop_more terms i term within ∙ ap (λ (t : Term). t ∷ drop (i + 1) terms) (sym at) in
    let viewed : map entry_of new ≡ map entry_of old ++ entry_of entry ∷ [] = ap (map entry_of) grown ∙ map-append entry_of old (entry ∷ []) in
    (λ j. behind (viewed j) (entries_in (number j) later))
    ∙ (put_behind (map entry_of old) (entry_of entry) (before + i + 1) (entries_in (before + i + 1) later)
    ∙ ((λ j. behind (map entry_of old) (put_entry (before + i + 1) (read j) (entries_in (before + i + 1) later)))
    ∙ (ap (λ (ts : List Term). behind (map entry_of old) (entries_in (before + i) (members_of ts))) (sym split) ∙ so_far)))

-- no entry is left
pub entries_all : (before : ℕ) (terms : List Term) (i : ℕ) (read : List RelupEntry) → length terms ≤ i
    → behind (map entry_of read) (entries_in (before + i) (members_of (drop i terms))) ≡ entries_in before (members_of terms)
    → entries_in before (members_of terms) ≡ Ok (map entry_of read)
entries_all before terms i read past so_far =
    sym so_far
    ∙ (ap (λ (ts : List Term). behind (map entry_of read) (entries_in (before + i) (members_of ts))) (drop_all i terms past)
    ∙ ap Ok (append-nil (map entry_of read)))

-- the next is no entry
pub entries_bad : (before : ℕ) (terms : List Term) (i : ℕ) (term : Term) (front : List EntryForm) (all : Result (List EntryForm) ℕ)
    → i < length terms → term ≡ get_or terms i term → None ≡ entry_in (value_of term)
    → behind front (entries_in (before + i) (members_of (drop i terms))) ≡ all → ReportsBad all (BadShape (before + i + 1))
entries_bad before terms i term front all within at none so_far =
    let later : Values = members_of (drop (i + 1) terms) in
    let split : drop i terms ≡ term ∷ drop (i + 1) terms = drop_more terms i term within ∙ ap (λ (t : Term). t ∷ drop (i + 1) terms) (sym at) in
    let bad : Err (before + i + 1) ≡ all =
    (λ j. behind front (put_entry (before + i + 1) (none j) (entries_in (before + i + 1) later)))
    ∙ (ap (λ (ts : List Term). behind front (entries_in (before + i) (members_of ts))) (sym split) ∙ so_far) in
    subst (λ (o : Result (List EntryForm) ℕ). ReportsBad o (BadShape (before + i + 1))) bad refl

-- a relup whose upgrades are read
parts : (v : Value) (o : Outer) (ups : List Term) (us : List EntryForm) → Some o ≡ outer_in v → o.ups ≡ members_of ups → entries_in 0 (members_of ups) ≡ Ok us
    → relup_in v ≡ join o.vsn (Ok us) (entries_in (length ups) o.downs)
parts v o ups us outer is read =
    ap from_outer (sym outer)
    ∙ (λ j. join o.vsn (entries_in 0 (is j)) (entries_in (count (is j)) o.downs))
    ∙ (λ j. join o.vsn (read j) (entries_in (count-members_of ups j) o.downs))

pub both_read : (v : Value) (o : Outer) (ups : List Term) (us ds : List EntryForm) → Some o ≡ outer_in v → o.ups ≡ members_of ups → entries_in 0 (members_of ups) ≡ Ok us
    → entries_in (length ups) o.downs ≡ Ok ds → relup_in v ≡ Ok (record { vsn = o.vsn; ups = us; downs = ds })
both_read v o ups us ds outer is read also = parts v o ups us outer is read ∙ ap (join o.vsn (Ok us)) also

reports : (vsn : List ℕ) (us : List EntryForm) (d : Result (List EntryForm) ℕ) (f : RelupFault) → ReportsBad d f → ReportsBad (join vsn (Ok us) d) f
reports vsn us d (BadTerm e) h = absurd h
reports vsn us (Ok ds) (BadShape n) h = absurd h
reports vsn us (Err k) (BadShape n) h = h
reports vsn us d NoMemory h = tt

pub bad_down : (v : Value) (o : Outer) (ups : List Term) (us : List EntryForm) (result : Result Relup RelupFault) (f : RelupFault)
    → Some o ≡ outer_in v → o.ups ≡ members_of ups → entries_in 0 (members_of ups) ≡ Ok us
    → ReportsBad (entries_in (length ups) o.downs) f → IsErr result × IsErrAnd result (λ g. g ≡ f)
    → MatchResult result (λ r. relup_in v ≡ Ok (relup_of r)) (ReportsBad (relup_in v))
bad_down v o ups us (Ok r) f outer is read reported same = absurd same.1
bad_down v o ups us (Err g) f outer is read reported same =
    subst (λ h. ReportsBad (relup_in v) h) (sym same.1)
    (subst (λ d. ReportsBad d f) (sym (parts v o ups us outer is read)) (reports o.vsn us (entries_in (length ups) o.downs) f reported))
