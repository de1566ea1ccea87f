-- An application that is started.
use Rattle.std.proofs.Common.{◌≡◌, ℕ, false, List, [], ◌∷◌, ◌++◌, length, map, is_some, Option, Some, None, refl, ap, subst, ◌∙◌}
use Rattle.std.proofs.lemmas.List.{map_push}
use Rattle.sup_tree.specs.declared.tree.StartedApp.{StartedApp}
use Rattle.app_members.specs.Walk.{NewMember, starts_among}
use Rattle.proc_table.specs.declared.view.View.{View}
use Rattle.started_members.specs.declared.member.StartedProcess.{StartedProcess}
use Rattle.started_members.specs.Begins.{BeganInOrder, members_at}
use Rattle.started_members.specs.Members.{pids_of}
use Rattle.started_members.specs.Preparations.{AllBegan, to_begin}
use Rattle.started_members.proofs.BeginLemmas.{as_many, in_order}
use Rattle.sup_tree.specs.declared.begins.NewApp.{NewApp}
use Rattle.sup_tree.specs.Starts.{AppBegan, IsReady}
use Rattle.sup_tree.specs.Tree.{App, app_of}

pub not_there : {X : Type 0} (o : Option X) → is_some o ≡ false → o ≡ None
not_there None is = refl
not_there (Some x) is = absurd cc

-- one application more is kept, after the others
pub app_pushed : (before reserved after : List StartedApp) (a : StartedApp) (apps : List App) (b : App) → after ≡ reserved ++ a ∷ [] → reserved ≡ before → map app_of before ≡ apps
    → app_of a ≡ b → map app_of after ≡ apps ++ b ∷ []
app_pushed before reserved after a apps b pushed same are is =
    ap (map app_of) pushed ∙ (map_push app_of reserved a ∙ (λ j. map app_of (same j) ++ is j ∷ []) ∙ ap (λ as'. as' ++ b ∷ []) are)

-- An application that was ready began: its processes in order, and its members stand so.
pub record ReadyBegan (name : List ℕ) (ms : List NewMember) (v : View) (app : App) (w : View) : Type 0 where
  pub processes : List StartedProcess
  pub began : BeganInOrder name (starts_among ms) v processes w
  pub stands : app ≡ record { name = name; members = members_at ms (pids_of processes) }

pub ready_began : (name : List ℕ) (ms : List NewMember) (new : NewApp) (v : View) (app : App) (w : View) → IsReady name ms new → AppBegan new v app w → ReadyBegan name ms v app w
ready_began name ms new v app w ready began =
    let begun = in_order name ms v app.members w (subst (λ ps. AllBegan ps v app.members w) ready.prepared began.began) in record {
      processes = begun.processes;
      began = begun.began;
      stands = λ j. record { name = (began.named ∙ ready.named) j; members = begun.members j };
    }

-- as many processes are to begin as it starts
pub ready_starts : (name : List ℕ) (ms : List NewMember) (new : NewApp) → IsReady name ms new → length (to_begin new.prepared.items) ≡ length (starts_among ms)
ready_starts name ms new ready = ap (λ ps. length (to_begin ps)) ready.prepared ∙ as_many name ms
