-- Where the files of a release stand.
use Rattle.std.specs.Prelude.{ℕ, List, ◌++◌, codes}
use Rattle.rel_files.specs.Release.{Application}

-- lib/App-Vsn/ebin/App.app
abbrev pub app_path : Application → List ℕ
app_path a = codes "lib/" ++ (a.name ++ (codes "-" ++ (a.vsn ++ (codes "/ebin/" ++ (a.name ++ codes ".app")))))

-- lib/App-Vsn/ebin/Mod.mod
abbrev pub mod_path : Application → List ℕ → List ℕ
mod_path a m = codes "lib/" ++ (a.name ++ (codes "-" ++ (a.vsn ++ (codes "/ebin/" ++ (m ++ codes ".mod")))))
