use Rattle.std.proofs.Common.{◌≤◌, ◌∙◌, ℕ, refl, ap, subst, rules}
use Rattle.session_input.proofs.Bytes.{cut_here, keeps_itself, next_after_read}
use Rattle.session_input.proofs.FeedLemmas.{cut_by_read}
use Rattle.session_input.specs.Ahead.{Pending}
use Rattle.session_input.specs.Feed.{EndsAs, Stays}
use Rattle.session_input.specs.Feed.Feed.{cut}
use Rattle.session_input.specs.Input.{bytes_left, reached, taken}
use Rattle.session_input.proofs.input.Input.next.Goals as goal

pub returns-then-is_spent-clause-byte : goal.returns-then-is_spent-clause-byte
returns-then-is_spent-clause-byte g c = search (rules, cut_here, keeps_itself)

pub returns-in_err-fill-clause-byte : goal.returns-in_err-fill-clause-byte
returns-in_err-fill-clause-byte g c =
    let remaining = g.R.Read.remaining in
    let (used, unchanged) = c.in_default.ensures.byte in
    let (none, same, goes_on) = c.in_err-fill.ensures.nothing_taken in
    let new = c.fill.new.self in
    cut_by_read {V = ℕ} _ _ _ (reached new) (bytes_left remaining c.args.self.now) (bytes_left remaining new)
    c.from_residual.ensures.1 c.in_err-fill.ensures.error
    (subst (λ (a : Pending). EndsAs cut (bytes_left remaining (record { reader = c.args.self.now.reader; ahead = a }) (reached new)) (bytes_left remaining new (reached new))) unchanged
    (cut_here remaining (record { reader = c.args.self.now.reader; ahead = c.pop.new.self }) new (ap (λ (a : Pending). a.bytes) unchanged ∙ used) none same goes_on c.in_err-fill.ensures.kept))

pub returns-clause-byte : goal.returns-clause-byte
returns-clause-byte g c =
    let remaining = g.R.Read.remaining in
    let new = c.fill.new.self in
    let stays = subst (λ (a : Pending). (most : ℕ) → taken new ≤ most → Stays (bytes_left remaining (record { reader = c.args.self.now.reader; ahead = a }) most) (bytes_left remaining new most))
    c.in_default.ensures.byte.1 c.in_ok-fill.ensures.same in
    next_after_read remaining c.args.self.now new (record { reader = new.reader; ahead = c.pop-2.new.self }) c.pop-2.result
    stays c.pop-2.ensures.byte c.pop-2.ensures.taken c.pop-2.ensures.over c.in_ok-fill.ensures.over c.in_ok-fill.ensures.end refl
