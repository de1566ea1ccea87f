-- A release without where it lies in memory (OTP: rel(4)).
use Rattle.std.specs.Prelude.{ℕ, List, Option, map, string_bytes}
use Rattle.std.specs.Option.{option_map}
use Rattle.rel_files.specs.declared.release.StartType.{StartType}
use Rattle.rel_files.specs.declared.release.Rel.{Rel}
use Rattle.rel_files.specs.declared.release.RelApp.{RelApp}

pub record Application : Type 0 where
  pub name : List ℕ
  pub vsn : List ℕ
  pub start : StartType
  pub included : Option (List (List ℕ))

pub record Release : Type 0 where
  pub name : List ℕ
  pub vsn : List ℕ
  pub erts : List ℕ
  pub apps : List Application

abbrev pub application_of : RelApp → Application
application_of a = record { name = string_bytes a.name; vsn = string_bytes a.vsn; start = a.start; included = option_map (λ v. map string_bytes v.items) a.included }

abbrev pub release_of : Rel → Release
release_of r = record { name = string_bytes r.name; vsn = string_bytes r.vsn; erts = string_bytes r.erts; apps = map application_of r.apps.items }
