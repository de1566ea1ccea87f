-- The records of a store, read one after another.
use Rattle.std.proofs.Common.{◌≡◌, ◌≢◌, ◌⊎◌, inl, inr, ℕ, ◌+◌, ◌-◌, ◌<◌, ◌≤◌, Bool, true, false, ◌&&◌, IfErr, List, [], ◌∷◌, ◌++◌, length, get_or, take, drop, map, Vec, Result, Ok, Err, refl, sym, ◌∙◌, ap, subst, arith, length-drop}
use Rattle.std.specs.Prelude.{IsErrAnd, if◌then◌else◌, nat_lt, nat_le}
use Rattle.std.specs.declared.alloc.Global.{Global}
use Rattle.std.proofs.lemmas.Bool.{cases_lt}
use Rattle.std.proofs.lemmas.Bool.Decides.{nat_tests}
use Rattle.std.specs.Int.{w32, from_be_bytes}
use Rattle.std.proofs.lemmas.List.{drop_more, drop-drop, drop-take, take-take, get_or-drop, get_or-take, length-take-le}
use Rattle.rel_disk.specs.Moments.{HasFailed}
use Rattle.rel_store.specs.Contents.{DeviceRefused, OpenRefused, RecordRefused, RecordsRefused}
use Rattle.rel_store.specs.Layout.{base_of}
use Rattle.rel_store.specs.Records.{spelled_length, spelled_body, is_whole, onto, records_from, space}
use Rattle.rel_store.specs.declared.error.StoreError.{StoreError}
use Rattle.rel_store.specs.declared.error.StoreError.TheVariants.{NotAStore, Damaged, Exists, Full, Device, NoMemory, MustReopen}
use Rattle.rel_store.proofs.ReadLemmas.{onto_all, onto_all-push, onto_all-none, closed, more}
use Rattle.rel_store.proofs.Whole.{Sound, readable}

-- the bodies that vectors hold
abbrev pub bodies_of : List (Vec ℕ Global) → List (List ℕ)
bodies_of records = map (λ v. v.items) records

-- The records from the base up to a gate have been read; what follows gives the rest.
pub record IsReadTo (bytes : List ℕ) (base gate : ℕ) (bodies : List (List ℕ)) : Type 0 where
  pub within : gate < length bytes
  pub rest : onto_all bodies (records_from gate 0 (drop gate bytes)) ≡ records_from base 0 (drop base bytes)
  pub place : gate ≡ base + space bodies

pub whole_from : (bytes : List ℕ) → is_whole bytes ≡ true → (spelled_length bytes ≤ 16777216) × (4 + spelled_length bytes < length bytes)
whole_from bytes = facts (spelled_length bytes) (length bytes)
  where
    facts : (n long : ℕ) → (nat_le n 16777216 && nat_lt (4 + n) long) ≡ true → (n ≤ 16777216) × (4 + n < long)
    facts n long e = (grind (arith, nat_tests), grind (arith, nat_tests))

pub space-push : (bodies : List (List ℕ)) (body : List ℕ) → space (bodies ++ body ∷ []) ≡ space bodies + (5 + length body)
space-push [] body = omega arith
space-push (b ∷ bodies) body = omega (arith, space-push bodies body)

-- the gate that stands there, and what is after it
at_gate : (bytes : List ℕ) (gate byte : ℕ) → gate < length bytes → get_or bytes gate 0 ≡ byte → drop gate bytes ≡ byte ∷ drop (gate + 1) bytes
at_gate bytes gate byte within is = drop_more bytes gate 0 within ∙ ap (λ (b : ℕ). b ∷ drop (gate + 1) bytes) is

-- one record more
pub read_more : (bytes : List ℕ) (base gate next : ℕ) (bodies : List (List ℕ)) (body behind : List ℕ) → IsReadTo bytes base gate bodies → get_or bytes gate 0 ≡ 1 → behind ≡ drop (gate + 1) bytes
    → is_whole behind ≡ true → body ≡ spelled_body behind → next ≡ gate + (5 + length body) → IsReadTo bytes base next (bodies ++ body ∷ [])
read_more bytes base gate next bodies body behind so_far is_open is whole body_is next_is =
    let fits = whole_from behind whole in
    let n = spelled_length behind in
    let size : length behind ≡ length bytes - (gate + 1) = ap length is ∙ length-drop (gate + 1) bytes in
    let long : length body ≡ n = ap length body_is ∙ length-take-le n (drop 4 behind) (omega (arith, length-drop 4 behind, fits.1)) in
    let here : drop gate bytes ≡ 1 ∷ behind = at_gate bytes gate 1 so_far.within is_open ∙ ap (λ (l : List ℕ). 1 ∷ l) (sym is) in
    let steps : gate + 1 + (4 + n) ≡ next = omega (arith, long, next_is) in
    let step : gate + (5 + n) ≡ next = omega (arith, long, next_is) in
    let after : drop (4 + n) behind ≡ drop next bytes = ap (λ l. drop (4 + n) l) is ∙ drop-drop (4 + n) (gate + 1) bytes ∙ ap (λ p. drop p bytes) steps in
    let read : records_from gate 0 (drop gate bytes) ≡ onto body (records_from next 0 (drop next bytes)) =
    ap (λ l. records_from gate 0 l) here
    ∙ more gate behind fits.0 fits.1
    ∙ ap (λ b. onto b (records_from (gate + (5 + n)) 0 (drop (4 + n) behind))) (sym body_is)
    ∙ ap (λ p. onto body (records_from p 0 (drop (4 + n) behind))) step
    ∙ ap (λ l. onto body (records_from next 0 l)) after in
    record {
      within = omega (arith, fits.1, size, long, next_is);
      rest = onto_all-push bodies body (records_from next 0 (drop next bytes)) ∙ ap (onto_all bodies) (sym read) ∙ so_far.rest;
      place = omega (arith, so_far.place, next_is, space-push bodies body);
    }

-- the closed gate
pub read_all : (bytes : List ℕ) (base gate : ℕ) (bodies : List (List ℕ)) → IsReadTo bytes base gate bodies → get_or bytes gate 0 ≢ 1 → records_from base 0 (drop base bytes) ≡ Ok bodies
read_all bytes base gate bodies so_far shut =
    sym so_far.rest
    ∙ ap (λ l. onto_all bodies (records_from gate 0 l)) (at_gate bytes gate (get_or bytes gate 0) so_far.within refl)
    ∙ ap (onto_all bodies) (closed gate (get_or bytes gate 0) (drop (gate + 1) bytes) shut)
    ∙ onto_all-none bodies

onto_all-err : (bodies : List (List ℕ)) (e : StoreError) → onto_all bodies (Err e) ≡ Err e
onto_all-err [] e = refl
onto_all-err (b ∷ bodies) e = ap (onto b) (onto_all-err bodies e)

-- an open gate whose record isn't whole
pub read_damaged : (bytes : List ℕ) (base gate : ℕ) (bodies : List (List ℕ)) (behind : List ℕ) → IsReadTo bytes base gate bodies → get_or bytes gate 0 ≡ 1 → behind ≡ drop (gate + 1) bytes
    → is_whole behind ≡ false → records_from base 0 (drop base bytes) ≡ Err (Damaged gate)
read_damaged bytes base gate bodies behind so_far is_open is broken =
    let here : drop gate bytes ≡ 1 ∷ behind = at_gate bytes gate 1 so_far.within is_open ∙ ap (λ (l : List ℕ). 1 ∷ l) (sym is) in
    let refused : records_from gate 0 (1 ∷ behind) ≡ Err (Damaged gate) = ap (λ t. if t then onto (spelled_body behind) (records_from (gate + 1) (4 + spelled_length behind) behind) else Err (Damaged gate)) broken in
    sym so_far.rest ∙ ap (λ l. onto_all bodies (records_from gate 0 l)) here ∙ ap (onto_all bodies) refused ∙ onto_all-err bodies (Damaged gate)

-- the first of five bytes from a gate on
pub byte_in_five : (bytes : List ℕ) (gate : ℕ) (head : List ℕ) (byte : ℕ) → head ≡ take 5 (drop gate bytes) → get_or head 0 0 ≡ byte → get_or bytes gate 0 ≡ byte
byte_in_five bytes gate head byte is first =
    let there : gate + 0 ≡ gate = omega arith in
    sym (ap (λ i. get_or bytes i 0) there)
    ∙ sym (get_or-drop gate bytes 0 0)
    ∙ sym (get_or-take 5 (drop gate bytes) 0 0 (omega arith))
    ∙ sym (ap (λ (l : List ℕ). get_or l 0 0) is)
    ∙ first

-- The record at a gate, by what five bytes from the gate on say of it.
module _ (bytes : List ℕ) (gate size : ℕ) where
  pub reported_in_five : (head : List ℕ) → head ≡ take 5 (drop gate bytes) → size ≡ spelled_length (drop 1 head) → size ≡ spelled_length (drop (gate + 1) bytes)
  reported_in_five head is reported =
      reported
      ∙ ap (λ l. spelled_length (drop 1 l)) is
      ∙ ap (λ l. from_be_bytes w32 (take 4 l)) (drop-take 1 4 (drop gate bytes))
      ∙ ap (from_be_bytes w32) (take-take 4 4 (drop 1 (drop gate bytes)) (omega arith))
      ∙ ap spelled_length (drop-drop 1 gate bytes)

  tests : (n long : ℕ) → n ≤ 16777216 → 4 + n < long → (nat_le n 16777216 && nat_lt (4 + n) long) ≡ true
  tests n long short within = grind (arith, nat_tests)

  fails : (n long : ℕ) → (16777216 < n) ⊎ (long ≤ 4 + n) → (nat_le n 16777216 && nat_lt (4 + n) long) ≡ false
  fails n long (inl far) = grind (arith, nat_tests)
  fails n long (inr past) = go (nat_le n 16777216) (grind (arith, nat_tests))
    where
      go : (a : Bool) → nat_lt (4 + n) long ≡ false → (a && nat_lt (4 + n) long) ≡ false
      go true e = e
      go false e = refl

  pub whole_there : size ≡ spelled_length (drop (gate + 1) bytes) → size ≤ 16777216 → 5 + size < length bytes - gate → is_whole (drop (gate + 1) bytes) ≡ true
  whole_there reported short within = tests (spelled_length (drop (gate + 1) bytes)) (length (drop (gate + 1) bytes)) (omega (arith, reported)) (omega (arith, reported, length-drop (gate + 1) bytes))

  pub broken_there : size ≡ spelled_length (drop (gate + 1) bytes) → (16777216 < size) ⊎ (length bytes - gate ≤ 5 + size) → is_whole (drop (gate + 1) bytes) ≡ false
  broken_there reported why = fails (spelled_length (drop (gate + 1) bytes)) (length (drop (gate + 1) bytes))
      (elim why [ inl far ↦ inl (omega (arith, reported)) | inr past ↦ inr (omega (arith, reported, length-drop (gate + 1) bytes)) ])

-- one record more, whose body is read by itself
pub read_body_more : (bytes mid after : List ℕ) (base gate size : ℕ) (bodies : List (List ℕ)) (body : List ℕ) → IsReadTo bytes base gate bodies → mid ≡ bytes → after ≡ mid
    → (get_or mid gate 0 ≡ 1) × (is_whole (drop (gate + 1) mid) ≡ true) × (size ≡ spelled_length (drop (gate + 1) mid))
    → body ≡ take size (drop (gate + 5) after) → IsReadTo bytes base (gate + (5 + size)) (bodies ++ body ∷ [])
read_body_more bytes mid after base gate size bodies body so_far same same' there read =
    let behind = drop (gate + 1) bytes in
    let is_open : get_or bytes gate 0 ≡ 1 = subst (λ l. get_or l gate 0 ≡ 1) same there.0 in
    let whole : is_whole behind ≡ true = subst (λ l. is_whole (drop (gate + 1) l) ≡ true) same there.1 in
    let reported : size ≡ spelled_length behind = subst (λ l. size ≡ spelled_length (drop (gate + 1) l)) same there.2 in
    let fits = whole_from behind whole in
    let place : gate + 1 + 4 ≡ gate + 5 = omega arith in
    let is : body ≡ spelled_body behind =
    read
    ∙ ap (λ l. take size (drop (gate + 5) l)) (same' ∙ same)
    ∙ ap (λ n. take n (drop (gate + 5) bytes)) reported
    ∙ ap (λ l. take (spelled_length behind) l) (ap (λ p. drop p bytes) (sym place) ∙ sym (drop-drop 4 (gate + 1) bytes)) in
    let long : length body ≡ size = ap length is ∙ length-take-le (spelled_length behind) (drop 4 behind) (omega (arith, length-drop 4 behind, fits.1)) ∙ sym reported in
    let next : gate + (5 + size) ≡ gate + (5 + length body) = omega (arith, long) in
    read_more bytes base gate (gate + (5 + size)) bodies body behind so_far is_open refl whole is next

-- a failure since a moment is one since an earlier one
pub failed_since : (begun before now : ℕ) → begun ≤ before → before ≤ now → HasFailed before now → HasFailed begun now
failed_since begun before now le le' failed = elim (cases_lt begun now) [
  | inl rose ↦ inl rose
  | inr level ↦ inr (elim failed [ inl more ↦ absurd (omega arith) | inr most ↦ omega arith ])
]

pub refused_since : (reported : Result (List (List ℕ)) StoreError) (begun before now : ℕ) (e : StoreError) → begun ≤ before → before ≤ now → RecordsRefused reported before now e → RecordsRefused reported begun now e
refused_since reported begun before now (Damaged at) le le' why = why
refused_since reported begun before now Device le le' why = failed_since begun before now le le' why
refused_since reported begun before now NoMemory le le' why = why
refused_since reported begun before now NotAStore le le' why = why
refused_since reported begun before now Exists le le' why = why
refused_since reported begun before now Full le le' why = why
refused_since reported begun before now MustReopen le le' why = why

-- a read of a body that is refused
pub refused_in_read : (reported : Result (List (List ℕ)) StoreError) (begun before now : ℕ) (e : StoreError) → begun ≤ before → before ≤ now → DeviceRefused before now e → RecordsRefused reported begun now e
refused_in_read reported begun before now Device le le' why = failed_since begun before now le le' why
refused_in_read reported begun before now NoMemory le le' why = why
refused_in_read reported begun before now NotAStore le le' why = why
refused_in_read reported begun before now (Damaged at) le le' why = absurd why
refused_in_read reported begun before now Exists le le' why = why
refused_in_read reported begun before now Full le le' why = why
refused_in_read reported begun before now MustReopen le le' why = why

-- why the next record isn't read
pub refused_there : (bytes mid : List ℕ) (base gate : ℕ) (bodies : List (List ℕ)) (begun before now : ℕ) (e : StoreError) → IsReadTo bytes base gate bodies → mid ≡ bytes → begun ≤ before → before ≤ now
    → RecordRefused mid gate before now e → RecordsRefused (records_from base 0 (drop base bytes)) begun now e
refused_there bytes mid base gate bodies begun before now (Damaged at) so_far same le le' (here, is_open, broken) =
    read_damaged bytes base gate bodies (drop (gate + 1) bytes) so_far (subst (λ l. get_or l gate 0 ≡ 1) same is_open) refl (subst (λ l. is_whole (drop (gate + 1) l) ≡ false) same broken) ∙ ap (λ p. Err (Damaged p)) (sym here)
refused_there bytes mid base gate bodies begun before now Device so_far same le le' failed = failed_since begun before now le le' failed
refused_there bytes mid base gate bodies begun before now NotAStore so_far same le le' why = why
refused_there bytes mid base gate bodies begun before now NoMemory so_far same le le' why = absurd why
refused_there bytes mid base gate bodies begun before now Exists so_far same le le' why = why
refused_there bytes mid base gate bodies begun before now Full so_far same le le' why = why
refused_there bytes mid base gate bodies begun before now MustReopen so_far same le le' why = why

-- an error that is passed on
pub passed_on : {T : Type 0} (P : StoreError → Type 0) (r : Result T StoreError) (e : StoreError) → IsErrAnd r (λ d. d ≡ e) → P e → IfErr r P
passed_on P (Ok x) e is why = tt
passed_on P (Err d) e is why = subst P (sym is) why

-- Why the store on a disk isn't read, from why its records aren't.
pub open_refused : (bytes : List ℕ) (before now : ℕ) (e : StoreError) → Sound bytes → RecordsRefused (records_from (base_of bytes) 0 (drop (base_of bytes) bytes)) before now e → OpenRefused bytes before now e
open_refused bytes before now NotAStore s why = absurd why
open_refused bytes before now (Damaged at) s why = readable bytes s ∙ why
open_refused bytes before now Device s why = why
open_refused bytes before now NoMemory s why = why
open_refused bytes before now Exists s why = why
open_refused bytes before now Full s why = why
open_refused bytes before now MustReopen s why = why

-- why an opening refuses, since an earlier moment
open_since : (bytes : List ℕ) (begun before now : ℕ) (e : StoreError) → begun ≤ before → before ≤ now → OpenRefused bytes before now e → OpenRefused bytes begun now e
open_since bytes begun before now NotAStore le le' why = why
open_since bytes begun before now (Damaged at) le le' why = why
open_since bytes begun before now Device le le' why = failed_since begun before now le le' why
open_since bytes begun before now NoMemory le le' why = why
open_since bytes begun before now Exists le le' why = why
open_since bytes begun before now Full le le' why = why
open_since bytes begun before now MustReopen le le' why = why

pub still_refused : {T : Type 0} (r : Result T StoreError) (bytes mid : List ℕ) (begun before now : ℕ) → mid ≡ bytes → begun ≤ before → before ≤ now → IfErr r (OpenRefused mid before now) → IfErr r (OpenRefused bytes begun now)
still_refused (Ok x) bytes mid begun before now same le le' why = tt
still_refused (Err e) bytes mid begun before now same le le' why = open_since bytes begun before now e le le' (subst (λ l. OpenRefused l before now e) same why)
