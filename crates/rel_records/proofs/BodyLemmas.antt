-- A body spells one record at most.
use Rattle.std.proofs.Common.{◌≡◌, ℕ, List, [], ◌∷◌, codes, Option, Some, None, Ok, refl, sym, ap, ◌∙◌, subst}
use Rattle.erl_term.specs.Value.{Value, Values}
use Rattle.erl_term.specs.Value.Value.{atom, list, tuple}
use Rattle.erl_term.specs.Value.Values.{no_values, value}
use Rattle.erl_term.specs.Grammar.{Reading}
use Rattle.erl_term.specs.OneTerm.{HasTerm}
use Rattle.erl_term.proofs.Exact.{one_reading}
use Rattle.rel_files.specs.File.{IsReleaseTerm}
use Rattle.rel_files.specs.Release.{Release}
use Rattle.rel_files.proofs.Outcomes.{one_release}
use Rattle.relup_file.specs.Form.{IsRelupTerm}
use Rattle.relup_file.specs.Relup.{RelupForm}
use Rattle.relup_file.proofs.RelupLemmas.{relup_in-term}
use Rattle.library.specs.Library.{Library}
use Rattle.library.specs.Reading.{AreOfLibraries}
use Rattle.library.proofs.TermCases.{libraries_once}
use Rattle.library.proofs.TermRows.{says_one_row}
use Rattle.rel_files.specs.Terms.{triple_term}
use Rattle.rel_list.specs.declared.status.Status.{Status}
use Rattle.rel_records.specs.Parts.{lists_in}
use Rattle.rel_records.specs.Record.{Imaged, Record, makes, adds, assigns, removes, images, release_term, image_term}
use Rattle.rel_records.specs.Reading.{change_in, status_in, AreImaged, Brings, Says, SaysImage, SaysImaged, Spells, StandsForRelup}

-- a text has one term at most
pub one_term : (limit : ℕ) (bytes : List ℕ) (v w : Value) → HasTerm limit bytes v → HasTerm limit bytes w → v ≡ w
one_term limit bytes v w (r, reads, is) (s, again, is_too) = sym is ∙ same (one_reading limit bytes (r ∷ []) (s ∷ []) reads again) ∙ is_too
  where
    same : (r ∷ []) ≡ (s ∷ []) → r.term ≡ s.term
    same e = ap first e
      where
        first : List Reading → Value
        first [] = v
        first (x ∷ xs) = x.term

-- the word of a record's term, the term of its release, those of its libraries, and the one that stands for its relup
abbrev word_in : Value → List ℕ
word_in (tuple (value (atom s) vs)) = s
word_in v = []

abbrev rel_in : Value → Value
rel_in (tuple (value w (value rel vs))) = rel
rel_in v = v

abbrev libs_in : Value → Values
libs_in (tuple (value w (value rel (value (list libs) vs)))) = libs
libs_in v = no_values

abbrev last_in : Value → Value
last_in (tuple (value w (value rel (value libs (value last vs))))) = last
last_in v = v

module _ {word other : List ℕ} {rel again : Value} {libs others : Values} {last end : Value} (same : release_term word rel libs last ≡ release_term other again others end) where
  pub one_word : word ≡ other
  one_word = ap word_in same

  pub one_rel : rel ≡ again
  one_rel = ap rel_in same

  pub one_row : libs ≡ others
  one_row = ap libs_in same

  pub one_last : last ≡ end
  one_last = ap last_in same

differ : codes "made" ≡ codes "unpacked" → ⊥
differ e = cc e

-- a term that brings a release changes none
pub no_change : (v : Value) (word : List ℕ) (rel : Value) (libs : Values) (last : Value) → v ≡ release_term word rel libs last → change_in v ≡ None
no_change v word rel libs last is = ap change_in is

apart : (v : Value) (word : List ℕ) (x : Release) (ls : List Library) (o : Option RelupForm) (r : Record) → Brings word v x ls o → change_in v ≡ Some r → ⊥
apart v word x ls o r b changes = cc (changes, no_change v word b.rel b.libs b.last b.is)

-- a term says one relup
one_relup : (v : Value) (r s : RelupForm) → IsRelupTerm v r → IsRelupTerm v s → r ≡ s
one_relup v r s says also = let same : Ok r ≡ Ok s = sym (relup_in-term v r says) ∙ relup_in-term v s also in cc

-- it stands for one at most
pub stands_once : (v : Value) (o p : Option RelupForm) → StandsForRelup v o → StandsForRelup v p → o ≡ p
stands_once v None None is also = refl
stands_once v None (Some r) is says = cc (is, says.outer.is)
stands_once v (Some r) None says is = cc (is, says.outer.is)
stands_once v (Some r) (Some s) says also = ap Some (one_relup v r s says also)

-- A record's term brings one release with one row of libraries and one relup.
record BringsSame (r s : Release) (ls ks : List Library) (o p : Option RelupForm) : Type 0 where
  release : r ≡ s
  libraries : ls ≡ ks
  relup : o ≡ p

brings_once : (word : List ℕ) (v : Value) (r s : Release) (ls ks : List Library) (o p : Option RelupForm) → Brings word v r ls o → Brings word v s ks p → BringsSame r s ls ks o p
brings_once word v r s ls ks o p b c =
    let same : release_term word b.rel b.libs b.last ≡ release_term word c.rel c.libs c.last = sym b.is ∙ c.is in
    record {
      release = one_release c.rel r s (subst (λ t. IsReleaseTerm t r) (one_rel same) b.release) c.release;
      libraries = libraries_once c.libs ls ks (subst (λ t. AreOfLibraries t ls) (one_row same) b.libraries) c.libraries;
      relup = stands_once c.last o p (subst (λ t. StandsForRelup t o) (one_last same) b.relup) c.relup;
    }

brings_apart : (v : Value) (r s : Release) (ls ks : List Library) (o p : Option RelupForm) → Brings (codes "made") v r ls o → Brings (codes "unpacked") v s ks p → ⊥
brings_apart v r s ls ks o p b c =
    let same : release_term (codes "made") b.rel b.libs b.last ≡ release_term (codes "unpacked") c.rel c.libs c.last = sym b.is ∙ c.is in
    differ (one_word same)

-- A row of an image says one release.
module _ {rel again : Value} {status other : Value} {last end : Value} (same : triple_term rel status last ≡ triple_term again other end) where
  pub same_rel : rel ≡ again
  same_rel = ap first same
    where
      first : Value → Value
      first (tuple (value v vs)) = v
      first v = v

  pub same_status : status ≡ other
  same_status = ap rel_in same

  pub same_last : last ≡ end
  same_last = ap third same
    where
      third : Value → Value
      third (tuple (value v (value w (value x vs)))) = x
      third v = v

one_status : (o : Option Status) (s t : Status) → o ≡ Some s → o ≡ Some t → s ≡ t
one_status o s t p q = cc

one_imaged : (v : Value) (x y : Imaged) → SaysImaged v x → SaysImaged v y → x ≡ y
one_imaged v x y a b =
    let same : triple_term a.rel a.status a.last ≡ triple_term b.rel b.status b.last = sym a.is ∙ b.is in
    let release = one_release b.rel x.release y.release (subst (λ t. IsReleaseTerm t x.release) (same_rel same) a.release) b.release in
    let status = one_status (status_in b.status) x.status y.status (ap status_in (sym (same_status same)) ∙ a.has_status) b.has_status in
    let relup = stands_once b.last x.relup y.relup (subst (λ t. StandsForRelup t x.relup) (same_last same) a.relup) b.relup in
    λ j. record { release = release j; status = status j; relup = relup j }

-- the terms of its releases, and of its libraries
pub same_lists : (rows also libs others : Values) → image_term rows libs ≡ image_term also others → (rows ≡ also) × (libs ≡ others)
same_lists rows also libs others same = (ap rows_of same, ap libs_of same)
  where
    rows_of : Value → Values
    rows_of (tuple (value w (value (list vs) ws))) = vs
    rows_of v = no_values

    libs_of : Value → Values
    libs_of (tuple (value w (value v (value (list vs) ws)))) = vs
    libs_of v = no_values

one_image : (v : Value) (xs ys : List Imaged) (ls ks : List Library) → SaysImage v xs ls → SaysImage v ys ks → images xs ls ≡ images ys ks
one_image v xs ys ls ks a b =
    let (rows, libs) = same_lists a.rows b.rows a.libs b.libs (sym a.is ∙ b.is) in
    let releases = says_one_row SaysImaged one_imaged b.rows xs ys (subst (λ vs. AreImaged vs xs) rows a.releases) b.releases in
    let libraries = libraries_once b.libs ls ks (subst (λ vs. AreOfLibraries vs ls) libs a.libraries) b.libraries in
    λ j. images (releases j) (libraries j)

-- the term of an image brings no release of its own, and changes none
image_no_release : (v : Value) (xs : List Imaged) (ls : List Library) (word : List ℕ) (rel : Value) (libs : Values) (last : Value) → SaysImage v xs ls → v ≡ release_term word rel libs last → ⊥
image_no_release v xs ls word rel libs last s is = cc (ap lists_in s.is, ap lists_in is)

image_no_change : (v : Value) (xs : List Imaged) (ls : List Library) (r : Record) → SaysImage v xs ls → change_in v ≡ Some r → ⊥
image_no_change v xs ls r s changes = cc (changes, ap change_in s.is)

one_change : (o : Option Record) (r s : Record) → o ≡ Some r → o ≡ Some s → r ≡ s
one_change o r s p q = cc

-- a term says one record at most
pub says_once : (v : Value) (r s : Record) → Says v r → Says v s → r ≡ s
says_once v (makes x ls o) (makes y ks p) b c =
    let same = brings_once (codes "made") v x y ls ks o p b c in λ j. makes (same.release j) (same.libraries j) (same.relup j)
says_once v (adds x ls o) (adds y ks p) b c =
    let same = brings_once (codes "unpacked") v x y ls ks o p b c in λ j. adds (same.release j) (same.libraries j) (same.relup j)
says_once v (images xs ls) (images ys ks) a b = one_image v xs ys ls ks a b
says_once v (images xs ls) (makes y ks p) a b = absurd (image_no_release v xs ls (codes "made") b.rel b.libs b.last a b.is)
says_once v (images xs ls) (adds y ks p) a b = absurd (image_no_release v xs ls (codes "unpacked") b.rel b.libs b.last a b.is)
says_once v (images xs ls) (assigns bs) a q = absurd (image_no_change v xs ls (assigns bs) a q)
says_once v (images xs ls) (removes u) a q = absurd (image_no_change v xs ls (removes u) a q)
says_once v (makes x ls o) (images ys ks) b a = absurd (image_no_release v ys ks (codes "made") b.rel b.libs b.last a b.is)
says_once v (adds x ls o) (images ys ks) b a = absurd (image_no_release v ys ks (codes "unpacked") b.rel b.libs b.last a b.is)
says_once v (assigns given) (images ys ks) q a = absurd (image_no_change v ys ks (assigns given) a q)
says_once v (removes w) (images ys ks) q a = absurd (image_no_change v ys ks (removes w) a q)
says_once v (makes x ls o) (adds y ks p) b c = absurd (brings_apart v x y ls ks o p b c)
says_once v (adds x ls o) (makes y ks p) b c = absurd (brings_apart v y x ks ls p o c b)
says_once v (assigns given) (assigns bs) p q = one_change (change_in v) (assigns given) (assigns bs) p q
says_once v (assigns given) (removes w) p q = one_change (change_in v) (assigns given) (removes w) p q
says_once v (removes w) (assigns bs) p q = one_change (change_in v) (removes w) (assigns bs) p q
says_once v (removes w) (removes u) p q = one_change (change_in v) (removes w) (removes u) p q
says_once v (makes x ls o) (assigns bs) b q = absurd (apart v (codes "made") x ls o (assigns bs) b q)
says_once v (makes x ls o) (removes u) b q = absurd (apart v (codes "made") x ls o (removes u) b q)
says_once v (adds x ls o) (assigns bs) b q = absurd (apart v (codes "unpacked") x ls o (assigns bs) b q)
says_once v (adds x ls o) (removes u) b q = absurd (apart v (codes "unpacked") x ls o (removes u) b q)
says_once v (assigns given) (makes y ks o) p c = absurd (apart v (codes "made") y ks o (assigns given) c p)
says_once v (assigns given) (adds y ks o) p c = absurd (apart v (codes "unpacked") y ks o (assigns given) c p)
says_once v (removes w) (makes y ks o) p c = absurd (apart v (codes "made") y ks o (removes w) c p)
says_once v (removes w) (adds y ks o) p c = absurd (apart v (codes "unpacked") y ks o (removes w) c p)

pub spells_once : (body : List ℕ) (r s : Record) → Spells body r → Spells body s → r ≡ s
spells_once body r s a b = says_once b.term r s (subst (λ v. Says v r) (one_term 72 body a.term b.term a.text b.text) a.says) b.says
