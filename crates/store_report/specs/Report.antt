-- What a report shows of the bytes of a file.
use Rattle.std.specs.Prelude.{◌≡◌, ℕ, ◌+◌, Bool, false, List, ◌++◌, Result, Ok, Err}
use Rattle.rel_store.specs.Layout.{base_of, format_of}
use Rattle.rel_store.specs.Records.{records_of, space}
use Rattle.rel_store.specs.declared.error.StoreError.{StoreError}
use Rattle.rel_store.specs.declared.error.StoreError.TheVariants.{NotAStore, Damaged}
use Rattle.store_report.specs.Contents.{ShowsContents, ShowsHeld, before_damage}
use Rattle.store_report.specs.Lines.{layout_text, room_text, no_store_text, damage_text}
use Rattle.store_report.specs.List.{ShowsList}
use Rattle.store_report.specs.declared.report.Report.{Report}

-- The bytes of an undamaged store with these records: its layout, its start and its records, its room and its list.
pub record IsOfStore (each : Bool) (bytes : List ℕ) (bodies : List (List ℕ)) (report : Report) : Type 0 where
  pub shown : List ℕ
  pub contents : ShowsContents each bytes bodies (layout_text bytes) shown
  pub list : ShowsList (format_of bytes) bodies (shown ++ room_text (base_of bytes + space bodies + 1)) report.text.items report.is_sound

-- The bytes of a store that is damaged there: its layout, what stands before the damage, and the place.
pub record IsOfDamage (each : Bool) (bytes : List ℕ) (at : ℕ) (report : Report) : Type 0 where
  pub shown : List ℕ
  pub contents : ShowsHeld each (before_damage at bytes) (records_of (before_damage at bytes)) (layout_text bytes) shown
  pub text : report.text.items ≡ shown ++ damage_text at
  pub sound : report.is_sound ≡ false

-- The bytes are no store.
pub record IsOfNoStore (bytes : List ℕ) (report : Report) : Type 0 where
  pub text : report.text.items ≡ no_store_text bytes
  pub sound : report.is_sound ≡ false

-- by what an opening of the bytes gives
abbrev pub IsReport : Bool → List ℕ → Result (List (List ℕ)) StoreError → Report → Type 0
IsReport each bytes (Ok bodies) report = IsOfStore each bytes bodies report
IsReport each bytes (Err NotAStore) report = IsOfNoStore bytes report
IsReport each bytes (Err (Damaged at)) report = IsOfDamage each bytes at report
IsReport each bytes (Err e) report = ⊥

-- What is reported of the bytes of a file, with each record or without.
abbrev pub IsReportOf : Bool → List ℕ → Report → Type 0
IsReportOf each bytes report = IsReport each bytes (records_of bytes) report

-- an opening is refused for the bytes alone
abbrev pub IsOfBytes : StoreError → Type 0
IsOfBytes NotAStore = Unit {0}
IsOfBytes (Damaged at) = Unit {0}
IsOfBytes e = ⊥

-- Where an opening refuses these bytes for themselves, it does so.
abbrev pub RefusesSo : List ℕ → StoreError → Type 0
RefusesSo bytes NotAStore = records_of bytes ≡ Err NotAStore
RefusesSo bytes (Damaged at) = records_of bytes ≡ Err (Damaged at)
RefusesSo bytes e = Unit {0}
