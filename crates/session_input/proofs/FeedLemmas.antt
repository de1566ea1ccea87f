-- What comes next of a feed that stayed what it was.
use Rattle.std.proofs.Common.{◌≡◌, ℕ, ◌≤◌, refl, sym, subst, ◌∙◌, arith}
use Rattle.std.specs.Prelude.{Option, None, Some, Result, Ok, Err}
use Rattle.std.specs.Result.{IsErrAnd}
use Rattle.session_input.specs.declared.error.SessionError.{SessionError}
use Rattle.session_input.specs.declared.error.SessionError.TheVariants.{Read, Write, Limit, NoMemory}
use Rattle.session_input.specs.Feed.{Feed, Gives, Stays, EndsAs, IsNext}
use Rattle.session_input.specs.Feed.Feed.{over, cut}

pub stays_itself : {A : Type 0} (old : Option (Feed A)) → Stays old old
stays_itself None = tt
stays_itself (Some old) = refl

-- what comes of a feed that stayed comes of the first
pub gives_before : {A : Type 0} (P : A → Type 0) (old mid new : Option (Feed A)) → Stays old mid → Gives mid new P → Gives old new P
gives_before P None mid new s g = tt
gives_before P (Some old) None new s g = absurd s
gives_before P (Some old) (Some mid) None s g = absurd g
gives_before P (Some old) (Some mid) (Some new) s (a, was, p) = (a, sym s ∙ was, p)

pub ends_before : {A : Type 0} (end : Feed A) (old mid new : Option (Feed A)) → Stays old mid → EndsAs end mid new → EndsAs end old new
ends_before end None mid new s e = tt
ends_before end (Some old) None new s e = absurd s
ends_before end (Some old) (Some mid) None s e = absurd e
ends_before end (Some old) (Some mid) (Some new) s (was, is) = (sym s ∙ was, is)

pub next_before : {A V : Type 0} (Shows : V → A → Type 0) (r : Result (Option V) SessionError) (n : ℕ) (old mid new : ℕ → Option (Feed A))
    → ((m : ℕ) → n ≤ m → Stays (old m) (mid m)) → IsNext Shows r n mid new → IsNext Shows r n old new
next_before Shows (Ok (Some v)) n old mid new stays g = λ m le. gives_before (Shows v) (old m) (mid m) (new m) (stays m le) (g m le)
next_before Shows (Ok None) n old mid new stays e = λ m le. ends_before over (old m) (mid m) (new m) (stays m le) (e m le)
next_before Shows (Err Limit) n old mid new stays e = ends_before cut (old n) (mid n) (new n) (stays n (omega arith)) e
next_before Shows (Err Read) n old mid new stays e = ends_before cut (old n) (mid n) (new n) (stays n (omega arith)) e
next_before Shows (Err Write) n old mid new stays e = tt
next_before Shows (Err NoMemory) n old mid new stays e = tt

-- a read failed before the next one came whole
pub cut_by_read : {A V : Type 0} (Shows : V → A → Type 0) (r : Result (Option V) SessionError) (e : SessionError) (n : ℕ) (old new : ℕ → Option (Feed A))
    → IsErrAnd r (λ f. f ≡ e) → e ≡ Read → EndsAs cut (old n) (new n) → IsNext Shows r n old new
cut_by_read Shows (Ok v) e n old new is read ends = absurd is
cut_by_read Shows (Err f) e n old new is read ends = subst (λ x. IsNext Shows (Err x) n old new) (sym (is ∙ read)) ends
