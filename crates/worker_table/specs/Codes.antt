-- By what proofs distinguish tables: each part of a table as a tree of numbers, and no two alike.
use Rattle.std.proofs.Common.{◌≡◌, ℕ, List}
use Rattle.std.specs.Coded.{Coded, coded×, coded_ℕ, coded_ℤ, coded_list}
use base.Stored.{Gv, gnil, gnum, gcons}
use Rattle.erl_term.specs.Value.{Value, Values}
use Rattle.erl_term.specs.Value.Value.{int, atom, list, tuple, bin}
use Rattle.erl_term.specs.Value.Values.{no_values, value}
use Rattle.worker_table.specs.Table.{OldVersion, Row, WorkerTable}
use Rattle.worker_table.specs.Table.OldVersion.{up, down}
use Rattle.worker_table.specs.Table.Row.{on, add, stop, change}

abbrev pub text_code : Coded (List ℕ)
text_code = coded_list coded_ℕ

abbrev pub pairs_code : Coded (List (ℕ × ℕ))
pairs_code = coded_list (coded× coded_ℕ coded_ℕ)

-- a term
abbrev mutual
  pub value_tree : Value → Gv
  value_tree (int n) = gcons (gnum 0) (coded_ℤ.code n)
  value_tree (atom s) = gcons (gnum 1) (text_code.code s)
  value_tree (list vs) = gcons (gnum 2) (values_tree vs)
  value_tree (tuple vs) = gcons (gnum 3) (values_tree vs)
  value_tree (bin bs) = gcons (gnum 4) (text_code.code bs)

  pub values_tree : Values → Gv
  values_tree no_values = gnil
  values_tree (value v vs) = gcons (value_tree v) (values_tree vs)

mutual
  pub one_value : (v w : Value) → value_tree v ≡ value_tree w → v ≡ w
  one_value (int m) (int n) p = let same = coded_ℤ.inj m n (cc) in cc
  one_value (atom s) (atom t) p = let same = text_code.inj s t (cc) in cc
  one_value (list vs) (list ws) p = let same = one_values vs ws (cc) in cc
  one_value (tuple vs) (tuple ws) p = let same = one_values vs ws (cc) in cc
  one_value (bin bs) (bin cs) p = let same = text_code.inj bs cs (cc) in cc
  one_value v w p = absurd cc

  pub one_values : (vs ws : Values) → values_tree vs ≡ values_tree ws → vs ≡ ws
  one_values no_values no_values p = cc
  one_values (value v vs) (value w ws) p =
      let here = one_value v w (cc) in
      let rest = one_values vs ws (cc) in cc
  one_values vs ws p = absurd cc

abbrev pub version_tree : OldVersion → Gv
version_tree (up s) = gcons (gnum 0) (text_code.code s)
version_tree (down s) = gcons (gnum 1) (text_code.code s)

pub one_version : (o p : OldVersion) → version_tree o ≡ version_tree p → o ≡ p
one_version (up s) (up t) e = let same = text_code.inj s t (cc) in cc
one_version (down s) (down t) e = let same = text_code.inj s t (cc) in cc
one_version o p e = absurd cc

abbrev pub row_tree : Row → Gv
row_tree (on s i n r) = gcons (gnum 0) (gcons (gcons (gnum s) (gnum i)) (gcons (gnum n) (gnum r)))
row_tree (add i k) = gcons (gnum 1) (gcons (gnum i) (gnum k))
row_tree (stop s i r) = gcons (gnum 2) (gcons (gnum s) (gcons (gnum i) (gnum r)))
row_tree (change o e ps) = gcons (gnum 3) (gcons (version_tree o) (gcons (value_tree e) (pairs_code.code ps)))

pub one_row : (a b : Row) → row_tree a ≡ row_tree b → a ≡ b
one_row (on s i n r) (on s' i' n' r') p = cc
one_row (add i k) (add i' k') p = cc
one_row (stop s i r) (stop s' i' r') p = cc
one_row (change o e ps) (change o' e' ps') p =
    let version = one_version o o' (cc) in
    let extra = one_value e e' (cc) in
    let pairs = pairs_code.inj ps ps' (cc) in cc
one_row a b p = absurd cc

abbrev pub row_code : Coded Row
row_code = record { code = row_tree; inj = one_row }

abbrev pub rows_code : Coded (List Row)
rows_code = coded_list row_code

abbrev pub worker_tree : WorkerTable → Gv
worker_tree w = gcons (text_code.code w.name) (gcons (text_code.code w.vsn) (gcons (gnum w.first) (rows_code.code w.rows)))

pub one_worker : (v w : WorkerTable) → worker_tree v ≡ worker_tree w → v ≡ w
one_worker v w p =
    let name = text_code.inj v.name w.name (cc) in
    let vsn = text_code.inj v.vsn w.vsn (cc) in
    let first : v.first ≡ w.first = cc in
    let rows = rows_code.inj v.rows w.rows (cc) in
    λ j. record { name = name j; vsn = vsn j; first = first j; rows = rows j }

abbrev pub worker_code : Coded WorkerTable
worker_code = record { code = worker_tree; inj = one_worker }
