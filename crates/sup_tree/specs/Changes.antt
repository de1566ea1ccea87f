-- What change_children gives the supervisors of a module: the children of their table in order, and after them those that it
-- doesn't name (OTP: supervisor, code_change/3). No process begins or ends.
use Rattle.std.specs.Prelude.{ℕ, List, map}
use Rattle.started_members.specs.Table.{ChildSpec}
use Rattle.sup_tree.specs.Tree.{App}
use Rattle.started_members.specs.Changes.{members_changed}

abbrev pub app_changed : List ℕ → List ChildSpec → App → App
app_changed name cs a = record a { members = members_changed name cs a.members }

-- the applications, where the supervisors of this module have the new children
abbrev pub apps_changed : List ℕ → List ChildSpec → List App → List App
apps_changed name cs apps = map (app_changed name cs) apps
