-- By what proofs distinguish terms. Of what is made of terms, as a library or a relup, a code is found from these.
use Rattle.std.specs.Coded.{Coded}
use Rattle.erl_term.specs.Value.{Value, Values}
use Rattle.mod_table.specs.Codes.{value_tree, values_tree, one_value, one_values}

abbrev pub value_code : Coded Value
value_code = record { code = value_tree; inj = one_value }

abbrev pub values_code : Coded Values
values_code = record { code = values_tree; inj = one_values }
