-- Tables of workers and their terms, both ways: what is read of the term of a table is that table, and only of its term.
use Rattle.std.proofs.Common.{◌≡◌, ℕ, pos, nat_lt, ◌^◌, Bool, true, List, [], ◌∷◌, map, Option, Some, None, codes, if◌then◌else◌, refl, sym, ap, subst, ◌∙◌}
use Rattle.std.specs.List.{AllByRecursion, list_all}
use Rattle.std.specs.Option.{option_map, option_and_then}
use Rattle.std.proofs.lemmas.Bool.{lt-ltb, ltb-true}
use Rattle.erl_term.specs.Value.{Value, Values, values_of}
use Rattle.erl_term.specs.Value.Value.{int, atom, list, tuple, bin}
use Rattle.erl_term.specs.Value.Values.{no_values, value}
use Rattle.rel_files.specs.Name.{is_text, IsName, IsVersion}
use Rattle.rel_files.specs.Parts.{list_in, two, pair_in, three, four, is_word}
use Rattle.rel_files.specs.Sketch.{name_in, version_or_empty}
use Rattle.rel_files.specs.Terms.{list_of, pair_term, text_term}
use Rattle.rel_files.proofs.Options.{mapped, chained, passed, both, both_true, choose}
use Rattle.rel_files.proofs.Rows.{ReadsEach, each_read, from_each, from_each_valid}
use Rattle.rel_files.proofs.TermParts.{from_list, from_pair, from_is_word, name_in-atom, from_name, version_or_empty-text, from_version_or_empty}
use Rattle.rel_files.proofs.Texts.{numbers}
use Rattle.worker_table.specs.Table.{OldVersion, Row, WorkerTable}
use Rattle.worker_table.specs.Table.OldVersion.{up, down}
use Rattle.worker_table.specs.Table.Row.{on, add, stop, change}
use Rattle.worker_table.specs.Parts.{number_in}
use Rattle.worker_table.specs.Rows.{on_row, on_in, add_in, stop_in, down_in, old_in, move_in, moves_in, change_in, row_in, rows_in}
use Rattle.worker_table.specs.Headed.{worker_in, row_has_version, has_versions}
use Rattle.worker_table.specs.Form.{number_term, old_term, move_term, row_term, IsNumber, IsOld, IsMove, IsRow, IsWorker}

-- members in their places
pub from_two : (vs : Values) (m : Value × Value) → two vs ≡ Some m → vs ≡ value m.0 (value m.1 no_values)
from_two (value v (value w no_values)) m e = let same : (v, w) ≡ m = cc in ap (λ (n : Value × Value). value n.0 (value n.1 no_values)) same
from_two vs m e = absurd cc

pub from_three : (vs : Values) (m : Value × Value × Value) → three vs ≡ Some m → vs ≡ value m.0 (value m.1 (value m.2 no_values))
from_three (value v (value w (value x no_values))) m e =
    let same : (v, w, x) ≡ m = cc in ap (λ (n : Value × Value × Value). value n.0 (value n.1 (value n.2 no_values))) same
from_three vs m e = absurd cc

pub from_four : (vs : Values) (m : Value × Value × Value × Value) → four vs ≡ Some m → vs ≡ value m.0 (value m.1 (value m.2 (value m.3 no_values)))
from_four (value v (value w (value x (value y no_values)))) m e =
    let same : (v, w, x, y) ≡ m = cc in ap (λ (n : Value × Value × Value × Value). value n.0 (value n.1 (value n.2 (value n.3 no_values)))) same
from_four vs m e = absurd cc

-- numbers
pub number_in-term : (n : ℕ) → IsNumber n → number_in (number_term n) ≡ Some n
number_in-term n h = ap (λ (b : Bool). if b then Some n else None) (lt-ltb n (2 ^ 32) h)

pub from_number : (v : Value) (n : ℕ) → number_in v ≡ Some n → (v ≡ number_term n) × IsNumber n
from_number (int (pos m)) n e =
    let small = passed (nat_lt m (2 ^ 32)) (Some m) n e in
    let same : m ≡ n = let some : Some m ≡ Some n = small.1 in cc in
    (ap number_term same, subst IsNumber same (ltb-true m (2 ^ 32) small.0))
from_number v n e = absurd cc

-- The term is this number's.
abbrev SaysNumber : Value → ℕ → Type 0
SaysNumber v n = (v ≡ number_term n) × IsNumber n

-- versions
old_in-term : (o : OldVersion) → IsOld o → old_in (old_term o) ≡ Some o
old_in-term (up s) h = ap (option_map up) (version_or_empty-text s h)
old_in-term (down s) h = ap (option_map down) (version_or_empty-text s h)

-- whether the version is the text of one
abbrev is_old : OldVersion → Bool
is_old (up s) = is_text 0x21 s
is_old (down s) = is_text 0x21 s

from_up : (v : Value) (o : OldVersion) → option_map up (version_or_empty v) ≡ Some o → is_old o ≡ true → (v ≡ old_term o) × IsOld o
from_up v o e h =
    let s = mapped up (version_or_empty v) o e in
    let valid : is_text 0x21 s.0 ≡ true = ap is_old s.2 ∙ h in
    subst (λ (p : OldVersion). (v ≡ old_term p) × IsOld p) s.2 (from_version_or_empty v s.0 s.1 valid, valid)

from_down : (vs : Values) (o : OldVersion) → down_in vs ≡ Some o → is_old o ≡ true → (tuple vs ≡ old_term o) × IsOld o
from_down vs o e h =
    let m = chained (λ (m : Value × Value). if is_word (codes "down") m.0 then option_map down (version_or_empty m.1) else None) (two vs) o e in
    let word = passed (is_word (codes "down") m.0.0) (option_map down (version_or_empty m.0.1)) o m.2 in
    let s = mapped down (version_or_empty m.0.1) o word.1 in
    let valid : is_text 0x21 s.0 ≡ true = ap is_old s.2 ∙ h in
    let text = from_version_or_empty m.0.1 s.0 s.1 valid in
    subst (λ (p : OldVersion). (tuple vs ≡ old_term p) × IsOld p) s.2
    (ap tuple (from_two vs m.0 m.1) ∙ (λ j. pair_term (from_is_word (codes "down") m.0.0 word.0 j) (text j)), valid)

from_old : (v : Value) (o : OldVersion) → old_in v ≡ Some o → is_old o ≡ true → (v ≡ old_term o) × IsOld o
from_old (tuple vs) o e h = from_down vs o e h
from_old (int n) o e h = from_up (int n) o e h
from_old (atom s) o e h = from_up (atom s) o e h
from_old (list vs) o e h = from_up (list vs) o e h
from_old (bin bs) o e h = from_up (bin bs) o e h

-- moves
move_in-term : (p : ℕ × ℕ) → IsMove p → move_in (move_term p) ≡ Some p
move_in-term p h = λ j. option_and_then (λ (s : ℕ). option_map (λ (n : ℕ). (s, n)) (number_in-term p.1 h.1 j)) (number_in-term p.0 h.0 j)

move_spelled : (v : Value) (m : Value × Value) (p : ℕ × ℕ) (s n : ℕ) → v ≡ pair_term m.0 m.1 → SaysNumber m.0 s → SaysNumber m.1 n → (s, n) ≡ p
    → (v ≡ move_term p) × IsMove p
move_spelled v m p s n parts a b same =
    subst (λ (q : ℕ × ℕ). (v ≡ move_term q) × IsMove q) same (parts ∙ (λ j. pair_term (a.0 j) (b.0 j)), (a.1, b.1))

from_move : (v : Value) (p : ℕ × ℕ) → move_in v ≡ Some p → (v ≡ move_term p) × IsMove p
from_move v p e =
    let m = chained (λ (m : Value × Value). option_and_then (λ (s : ℕ). option_map (λ (n : ℕ). (s, n)) (number_in m.1)) (number_in m.0)) (pair_in v) p e in
    let s = chained (λ (s : ℕ). option_map (λ (n : ℕ). (s, n)) (number_in m.0.1)) (number_in m.0.0) p m.2 in
    let n = mapped (λ (n : ℕ). (s.0, n)) (number_in m.0.1) p s.2 in
    move_spelled v m.0 p s.0 n.0 (from_pair v m.0 m.1) (from_number m.0.0 s.0 s.1) (from_number m.0.1 n.0 n.1) n.2

moves_each : ReadsEach move_in moves_in
moves_each = record { none = refl; more = λ v vs. refl }

from_moves : (vs : Values) (ps : List (ℕ × ℕ)) → moves_in vs ≡ Some ps → (vs ≡ values_of (map move_term ps)) × AllByRecursion IsMove ps
from_moves vs ps e = from_each move_in moves_in moves_each move_term IsMove from_move vs ps e

-- rows
abbrev of_four : Option ℕ → Option ℕ → Option ℕ → Option ℕ → Option Row
of_four s i n r =
    option_and_then (λ (a : ℕ). option_and_then (λ (b : ℕ). option_and_then (λ (c : ℕ). option_map (λ (d : ℕ). on a b c d) r) n) i) s

abbrev of_three : Option ℕ → Option ℕ → Option ℕ → Option Row
of_three s i r = option_and_then (λ (a : ℕ). option_and_then (λ (b : ℕ). option_map (λ (c : ℕ). stop a b c) r) i) s

abbrev of_two : Option ℕ → Option ℕ → Option Row
of_two i k = option_and_then (λ (a : ℕ). option_map (λ (b : ℕ). add a b) k) i

abbrev of_change : Option OldVersion → Value → Option (List (ℕ × ℕ)) → Option Row
of_change old extra moves = option_and_then (λ (o : OldVersion). option_map (λ (ps : List (ℕ × ℕ)). change o extra ps) moves) old

pub row_in-term : (r : Row) → IsRow r → row_in (row_term r) ≡ Some r
row_in-term (on s i n r) h = λ j. of_four (number_in-term s h.0 j) (number_in-term i h.1 j) (number_in-term n h.2 j) (number_in-term r h.3 j)
row_in-term (add i k) h = λ j. of_two (number_in-term i h.0 j) (number_in-term k h.1 j)
row_in-term (stop s i r) h = λ j. of_three (number_in-term s h.0 j) (number_in-term i h.1 j) (number_in-term r h.2 j)
row_in-term (change o e ps) h =
    λ j. of_change (old_in-term o h.0 j) e (each_read move_in moves_in moves_each move_term IsMove move_in-term ps h.1 j)

-- The term is this row's.
abbrev Spells : Value → Row → Type 0
Spells v r = (v ≡ row_term r) × IsRow r

-- a tuple that begins with this word
abbrev command : List ℕ → Values → Value
command word vs = tuple (value (atom word) vs)

on_spelled : (vs : Values) (m : Value × Value × Value × Value) (r : Row) (s i n y : ℕ) → vs ≡ value m.0 (value m.1 (value m.2 (value m.3 no_values)))
    → SaysNumber m.0 s → SaysNumber m.1 i → SaysNumber m.2 n → SaysNumber m.3 y → on s i n y ≡ r → Spells (command (codes "on") vs) r
on_spelled vs m r s i n y parts a b c d same =
    subst (Spells (command (codes "on") vs)) same (
      ap (command (codes "on")) parts ∙ (λ j. command (codes "on") (value (a.0 j) (value (b.0 j) (value (c.0 j) (value (d.0 j) no_values))))),
      (a.1, b.1, c.1, d.1),
    )

from_on : (vs : Values) (r : Row) → on_in vs ≡ Some r → Spells (command (codes "on") vs) r
from_on vs r e =
    let m = chained (λ (m : Value × Value × Value × Value). of_four (number_in m.0) (number_in m.1) (number_in m.2) (number_in m.3)) (four vs) r e in
    let s = chained (λ (a : ℕ). option_and_then (λ (b : ℕ). on_row a b m.0.2 m.0.3) (number_in m.0.1)) (number_in m.0.0) r m.2 in
    let i = chained (λ (b : ℕ). on_row s.0 b m.0.2 m.0.3) (number_in m.0.1) r s.2 in
    let n = chained (λ (c : ℕ). option_map (λ (d : ℕ). on s.0 i.0 c d) (number_in m.0.3)) (number_in m.0.2) r i.2 in
    let y = mapped (λ (d : ℕ). on s.0 i.0 n.0 d) (number_in m.0.3) r n.2 in
    on_spelled vs m.0 r s.0 i.0 n.0 y.0 (from_four vs m.0 m.1)
    (from_number m.0.0 s.0 s.1) (from_number m.0.1 i.0 i.1) (from_number m.0.2 n.0 n.1) (from_number m.0.3 y.0 y.1) y.2

add_spelled : (vs : Values) (m : Value × Value) (r : Row) (i k : ℕ) → vs ≡ value m.0 (value m.1 no_values) → SaysNumber m.0 i → SaysNumber m.1 k → add i k ≡ r
    → Spells (command (codes "add") vs) r
add_spelled vs m r i k parts a b same =
    subst (Spells (command (codes "add") vs)) same
    (ap (command (codes "add")) parts ∙ (λ j. command (codes "add") (value (a.0 j) (value (b.0 j) no_values))), (a.1, b.1))

from_add : (vs : Values) (r : Row) → add_in vs ≡ Some r → Spells (command (codes "add") vs) r
from_add vs r e =
    let m = chained (λ (m : Value × Value). of_two (number_in m.0) (number_in m.1)) (two vs) r e in
    let i = chained (λ (a : ℕ). option_map (λ (b : ℕ). add a b) (number_in m.0.1)) (number_in m.0.0) r m.2 in
    let k = mapped (λ (b : ℕ). add i.0 b) (number_in m.0.1) r i.2 in
    add_spelled vs m.0 r i.0 k.0 (from_two vs m.0 m.1) (from_number m.0.0 i.0 i.1) (from_number m.0.1 k.0 k.1) k.2

stop_spelled : (vs : Values) (m : Value × Value × Value) (r : Row) (s i y : ℕ) → vs ≡ value m.0 (value m.1 (value m.2 no_values))
    → SaysNumber m.0 s → SaysNumber m.1 i → SaysNumber m.2 y → stop s i y ≡ r → Spells (command (codes "stop") vs) r
stop_spelled vs m r s i y parts a b c same =
    subst (Spells (command (codes "stop") vs)) same
    (ap (command (codes "stop")) parts ∙ (λ j. command (codes "stop") (value (a.0 j) (value (b.0 j) (value (c.0 j) no_values)))), (a.1, b.1, c.1))

from_stop : (vs : Values) (r : Row) → stop_in vs ≡ Some r → Spells (command (codes "stop") vs) r
from_stop vs r e =
    let m = chained (λ (m : Value × Value × Value). of_three (number_in m.0) (number_in m.1) (number_in m.2)) (three vs) r e in
    let s = chained (λ (a : ℕ). option_and_then (λ (b : ℕ). option_map (λ (c : ℕ). stop a b c) (number_in m.0.2)) (number_in m.0.1)) (number_in m.0.0) r m.2 in
    let i = chained (λ (b : ℕ). option_map (λ (c : ℕ). stop s.0 b c) (number_in m.0.2)) (number_in m.0.1) r s.2 in
    let y = mapped (λ (c : ℕ). stop s.0 i.0 c) (number_in m.0.2) r i.2 in
    stop_spelled vs m.0 r s.0 i.0 y.0 (from_three vs m.0 m.1) (from_number m.0.0 s.0 s.1) (from_number m.0.1 i.0 i.1) (from_number m.0.2 y.0 y.1) y.2

list_spelled : (v : Value) (vs : Values) (terms : List Value) → v ≡ list vs → vs ≡ values_of terms → v ≡ list_of terms
list_spelled v vs terms listed each = listed ∙ ap list each

has_old : (o : OldVersion) (e : Value) (ps : List (ℕ × ℕ)) → row_has_version (change o e ps) ≡ is_old o
has_old (up s) e ps = refl
has_old (down s) e ps = refl

old_valid : (o : OldVersion) (e : Value) (ps : List (ℕ × ℕ)) (r : Row) → change o e ps ≡ r → row_has_version r ≡ true → is_old o ≡ true
old_valid o e ps r same h = sym (has_old o e ps) ∙ ap row_has_version same ∙ h

change_spelled : (vs : Values) (m : Value × Value × Value) (r : Row) (o : OldVersion) (ps : List (ℕ × ℕ)) → vs ≡ value m.0 (value m.1 (value m.2 no_values))
    → (m.0 ≡ old_term o) × IsOld o → m.2 ≡ list_of (map move_term ps) → AllByRecursion IsMove ps → change o m.1 ps ≡ r → Spells (command (codes "change") vs) r
change_spelled vs m r o ps parts a b moves same =
    subst (Spells (command (codes "change") vs)) same
    (ap (command (codes "change")) parts ∙ (λ j. command (codes "change") (value (a.0 j) (value m.1 (value (b j) no_values)))), (a.1, moves))

from_change : (vs : Values) (r : Row) → change_in vs ≡ Some r → row_has_version r ≡ true → Spells (command (codes "change") vs) r
from_change vs r e h =
    let m = chained (λ (m : Value × Value × Value). of_change (old_in m.0) m.1 (option_and_then moves_in (list_in m.2))) (three vs) r e in
    let o = chained (λ (o : OldVersion). option_map (λ (ps : List (ℕ × ℕ)). change o m.0.1 ps) (option_and_then moves_in (list_in m.0.2))) (old_in m.0.0) r m.2 in
    let ps = mapped (λ (ps : List (ℕ × ℕ)). change o.0 m.0.1 ps) (option_and_then moves_in (list_in m.0.2)) r o.2 in
    let listed = chained moves_in (list_in m.0.2) ps.0 ps.1 in
    let old = from_old m.0.0 o.0 o.1 (old_valid o.0 m.0.1 ps.0 r ps.2 h) in
    let moves = from_moves listed.0 ps.0 listed.2 in
    let is = list_spelled m.0.2 listed.0 (map move_term ps.0) (from_list m.0.2 listed.0 listed.1) moves.0 in
    change_spelled vs m.0 r o.0 ps.0 (from_three vs m.0 m.1) old is moves.1 ps.2

respelled : (s w : List ℕ) (vs : Values) (r : Row) → s ≡ w → Spells (command w vs) r → Spells (command s vs) r
respelled s w vs r is spelled = ((λ j. command (is j) vs) ∙ spelled.0, spelled.1)

pub from_row : (v : Value) (r : Row) → row_in v ≡ Some r → row_has_version r ≡ true → (v ≡ row_term r) × IsRow r
from_row (tuple (value (atom s) vs)) r e h =
    let P : Type 0 = Spells (command s vs) r in
    choose P s (codes "on") (on_in vs) _ r (λ is here. respelled s (codes "on") vs r is (from_on vs r here))
    (λ e2. choose P s (codes "add") (add_in vs) _ r (λ is here. respelled s (codes "add") vs r is (from_add vs r here))
    (λ e3. choose P s (codes "stop") (stop_in vs) _ r (λ is here. respelled s (codes "stop") vs r is (from_stop vs r here))
    (λ e4. choose P s (codes "change") (change_in vs) None r (λ is here. respelled s (codes "change") vs r is (from_change vs r here h))
    (λ none. absurd cc) e4) e3) e2) e
from_row v r e h = absurd cc

rows_each : ReadsEach row_in rows_in
rows_each = record { none = refl; more = λ v vs. refl }

rows_in-terms : (rows : List Row) → AllByRecursion IsRow rows → rows_in (values_of (map row_term rows)) ≡ Some rows
rows_in-terms rows h = each_read row_in rows_in rows_each row_term IsRow row_in-term rows h

from_rows : (vs : Values) (rows : List Row) → rows_in vs ≡ Some rows → list_all row_has_version rows ≡ true
    → (vs ≡ values_of (map row_term rows)) × AllByRecursion IsRow rows
from_rows vs rows e h = from_each_valid row_in rows_in rows_each row_term row_has_version IsRow from_row vs rows e h

old_is_one : (o : OldVersion) → IsOld o → is_old o ≡ true
old_is_one (up s) h = h
old_is_one (down s) h = h

row_is_one : (r : Row) → IsRow r → row_has_version r ≡ true
row_is_one (on s i n r) h = refl
row_is_one (add i k) h = refl
row_is_one (stop s i r) h = refl
row_is_one (change o e ps) h = has_old o e ps ∙ old_is_one o h.0

rows_are_ones : (rows : List Row) → AllByRecursion IsRow rows → list_all row_has_version rows ≡ true
rows_are_ones [] h = refl
rows_are_ones (r ∷ rows) h = both_true (row_has_version r) (list_all row_has_version rows) (row_is_one r h.0) (rows_are_ones rows h.1)

-- workers
abbrev pub worker_members : WorkerTable → Values
worker_members w = value (atom w.name) (value (text_term w.vsn) (value (number_term w.first) (value (list_of (map row_term w.rows)) no_values)))

abbrev of_worker : Option (List ℕ) → Option (List ℕ) → Option ℕ → Option (List Row) → Option WorkerTable
of_worker name vsn first rows =
    option_and_then (λ (n : List ℕ). option_and_then (λ (v : List ℕ). option_and_then (λ (s : ℕ).
    option_map (λ (r : List Row). record { name = n; vsn = v; first = s; rows = r }) rows) first) vsn) name

pub worker_in-members : (w : WorkerTable) → IsWorker w → worker_in (worker_members w) ≡ Some w
worker_in-members w h =
    λ j. of_worker (name_in-atom w.name h.name j) (version_or_empty-text w.vsn h.vsn j) (number_in-term w.first h.first j) (rows_in-terms w.rows h.rows j)

-- a worker whose version is one, as those of its rows
pub worker_has_versions : (w : WorkerTable) → IsWorker w → has_versions w ≡ true
worker_has_versions w h = both_true (is_text 0x21 w.vsn) (list_all row_has_version w.rows) h.vsn (rows_are_ones w.rows h.rows)

worker_spelled : (vs : Values) (m : Value × Value × Value × Value) (w : WorkerTable) (name vsn : List ℕ) (first : ℕ) (rows : List Row)
    → vs ≡ value m.0 (value m.1 (value m.2 (value m.3 no_values))) → (m.0 ≡ atom name) × IsName name → m.1 ≡ text_term vsn → IsVersion vsn
    → SaysNumber m.2 first → m.3 ≡ list_of (map row_term rows) → AllByRecursion IsRow rows
    → record { name = name; vsn = vsn; first = first; rows = rows } ≡ w → (vs ≡ worker_members w) × IsWorker w
worker_spelled vs m w name vsn first rows parts a b valid c d each same =
    subst (λ (x : WorkerTable). (vs ≡ worker_members x) × IsWorker x) same (
      parts ∙ (λ j. value (a.0 j) (value (b j) (value (c.0 j) (value (d j) no_values)))),
      record { name = a.1; vsn = valid; first = c.1; rows = each },
    )

worker_valid : (name vsn : List ℕ) (first : ℕ) (rows : List Row) (w : WorkerTable) → record { name = name; vsn = vsn; first = first; rows = rows } ≡ w
    → has_versions w ≡ true → (is_text 0x21 vsn ≡ true) × (list_all row_has_version rows ≡ true)
worker_valid name vsn first rows w same h = both (is_text 0x21 vsn) (list_all row_has_version rows) (ap has_versions same ∙ h)

pub from_worker : (vs : Values) (w : WorkerTable) → worker_in vs ≡ Some w → has_versions w ≡ true → (vs ≡ worker_members w) × IsWorker w
from_worker vs w e h =
    let made : List ℕ → List ℕ → ℕ → List Row → WorkerTable = λ n v s r. record { name = n; vsn = v; first = s; rows = r } in
    let m = chained (λ (m : Value × Value × Value × Value). of_worker (name_in m.0) (version_or_empty m.1) (number_in m.2) (option_and_then rows_in (list_in m.3))) (four vs) w e in
    let name = chained (λ (n : List ℕ). option_and_then (λ (v : List ℕ). option_and_then (λ (s : ℕ). option_map (made n v s) (option_and_then rows_in (list_in m.0.3))) (number_in m.0.2)) (version_or_empty m.0.1)) (name_in m.0.0) w m.2 in
    let vsn = chained (λ (v : List ℕ). option_and_then (λ (s : ℕ). option_map (made name.0 v s) (option_and_then rows_in (list_in m.0.3))) (number_in m.0.2)) (version_or_empty m.0.1) w name.2 in
    let first = chained (λ (s : ℕ). option_map (made name.0 vsn.0 s) (option_and_then rows_in (list_in m.0.3))) (number_in m.0.2) w vsn.2 in
    let rows = mapped (made name.0 vsn.0 first.0) (option_and_then rows_in (list_in m.0.3)) w first.2 in
    let listed = chained rows_in (list_in m.0.3) rows.0 rows.1 in
    let valid = worker_valid name.0 vsn.0 first.0 rows.0 w rows.2 h in
    let each = from_rows listed.0 rows.0 listed.2 valid.1 in
    let is = list_spelled m.0.3 listed.0 (map row_term rows.0) (from_list m.0.3 listed.0 listed.1) each.0 in
    worker_spelled vs m.0 w name.0 vsn.0 first.0 rows.0 (from_four vs m.0 m.1) (from_name m.0.0 name.0 name.1)
    (from_version_or_empty m.0.1 vsn.0 vsn.1 valid.0) valid.0 (from_number m.0.2 first.0 first.1) is each.1 rows.2
