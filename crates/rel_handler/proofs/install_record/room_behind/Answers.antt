use Rattle.std.proofs.Common.{◌≡◌, ◌+◌, true, length, string_bytes, sym, ap, ◌∙◌, subst, arith, if◌then◌else◌}
use Rattle.rel_list.specs.Event.{list_restarted}
use Rattle.rel_list.specs.Event.Event.{boot}
use Rattle.rel_list.specs.Releases.{has_one_shot}
use Rattle.node_command.specs.Taking.{change_size, no_terms}
use Rattle.rel_handler.specs.Installing.{room_behind}
use Rattle.rel_handler.proofs.install_record.room_behind.Goals as goal

pub returns : goal.returns
unfolding change_size
returns c =
    let reported : c.len.result ≡ length (string_bytes c.in_ok-body.body) = (let n = c.len.ensures in omega (arith, n)) in
    let long : c.len.result ≡ change_size boot (list_restarted c.args.vsn.now c.args.list.now) = reported ∙ ap length (c.in_ok-body.ensures no_terms) in
    let leaves : has_one_shot (list_restarted c.args.vsn.now c.args.list.now) ≡ true = sym c.leaves_one_shot.ensures ∙ c.if-not-leaves_one_shot.false in
    subst (λ b. 5 + c.len.result ≡ room_behind b c.args.vsn.now c.args.list.now) (sym c.if-not-restarts.false)
    (ap (λ n. 5 + n) long ∙ ap (λ b. if b then 5 + change_size boot (list_restarted c.args.vsn.now c.args.list.now) else 0) (sym leaves))
