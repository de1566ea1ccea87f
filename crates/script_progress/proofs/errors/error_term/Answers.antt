use Rattle.std.proofs.Common.{◌≡◌, ◌∙◌, ◌&&◌, true, List, [], ◌∷◌, Option, Some, Result, Ok, Err, sym, ap, refl, codes}
use Rattle.std.specs.List.{slice_get}
use Rattle.std.specs.Prelude.{IfOk, MatchResult}
use Rattle.std.specs.Option.{option_copied}
use Rattle.std.specs.Str.{bytes_eq}
use Rattle.erl_term.specs.declared.term.Term.{Term}
use Rattle.erl_term.specs.Value.{Value, members_of, value_of}
use Rattle.relup_instruction.specs.Instruction.{CallForm, call_of}
use Rattle.relup_file.specs.Script.{has_one, is_error}
use Rattle.script_progress.specs.Fault.{Cause, error_cause}
use Rattle.script_progress.specs.Fault.Cause.{raised}
use Rattle.script_progress.proofs.CallLemmas.{right_true}
use Rattle.script_progress.proofs.errors.error_term.Goals as goal

error_has_one : (call : CallForm) → is_error call ≡ true → has_one call.args ≡ true
error_has_one call e =
    right_true (bytes_eq call.function (codes "error")) (has_one call.args)
    (right_true (bytes_eq call.name (codes "erlang")) (bytes_eq call.function (codes "error") && has_one call.args) e)

one_member : (items : List Term) → has_one (members_of items) ≡ true → (t : Term) × (items ≡ t ∷ [])
one_member [] e = absurd (cc e)
one_member (t ∷ []) e = (t, refl)
one_member (t ∷ u ∷ ts) e = absurd (cc e)

pub unreachable-requires : goal.unreachable-requires
unreachable-requires c =
    let one = one_member c.args.call.now.args.items (error_has_one (call_of c.args.call.now) c.requires) in
    let first : slice_get c.args.call.now.args.items 0 ≡ Some one.0 = ap (λ (ts : List Term). slice_get ts 0) one.1 in
    cc (sym (ap option_copied c.in_default.is) ∙ (c.first.ensures.value ∙ (ap (λ (ts : List Term). slice_get ts 0) c.deref.ensures.value ∙ first)))

copy_raised : {E : Type 0} (copy : Result Term E) (Q : E → Type 0) (x : Value) (o : Option Cause) → MatchResult copy (λ t. value_of t ≡ x) Q → o ≡ Some (raised x)
    → IfOk copy (λ t. o ≡ Some (raised (value_of t)))
copy_raised (Ok t) Q x o same is = is ∙ ap (λ v. Some (raised v)) (sym same)
copy_raised (Err e) Q x o same is = tt

pub returns : goal.returns
returns c =
    let one = one_member c.args.call.now.args.items (error_has_one (call_of c.args.call.now) c.requires) in
    let first : slice_get c.args.call.now.args.items 0 ≡ Some one.0 = ap (λ (ts : List Term). slice_get ts 0) one.1 in
    let same : c.in-Some.term.now ≡ one.0 = cc (c.in-Some.ensures.value ∙ (ap (λ (ts : List Term). slice_get ts 0) c.deref.ensures.value ∙ first)) in
    copy_raised c.clone.result _ (value_of c.in-Some.term.now) _ c.clone.ensures.cases (ap error_cause (ap members_of one.1) ∙ ap (λ v. Some (raised v)) (ap value_of (sym same)))
