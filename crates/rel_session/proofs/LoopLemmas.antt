-- A session's loop: whatever run the commands that are left have, it completes the run of all.
use Rattle.std.proofs.Common.{◌≡◌, ◌⊎◌, inl, inr, ℕ, ◌+◌, ◌≤◌, Bool, true, false, List, [], ◌∷◌, ◌++◌, Option, Some, None, Result, Ok, Err, refl, sym, ap, ◌∙◌, subst, append_assoc, append-nil, arith}
use Rattle.std.specs.Prelude.{IsErrOf, String, string_bytes, if◌then◌else◌}
use Rattle.std.specs.Option.{option_map}
use Rattle.std.specs.Io.KnownBytes.{Appends, prepend_known}
use Rattle.std.specs.declared.alloc.Global.{Global}
use Rattle.counted_io.proofs.WriteLemmas.{Appends-nothing, Appends-twice}
use Rattle.session_input.specs.declared.command.Command.{Command as CommandInMemory}
use Rattle.session_input.specs.declared.error.SessionError.{SessionError}
use Rattle.session_input.specs.declared.error.SessionError.TheVariants.{Read, Write, Limit, NoMemory}
use Rattle.session_input.specs.declared.input.Input.{Input}
use Rattle.rel_session.specs.declared.node.SessionNode.{SessionNode}
use Rattle.rel_session.specs.declared.place.Place.TheVariants as memory
use Rattle.session_input.specs.Commands.{Command, commands_of}
use Rattle.session_input.specs.Commands.Command.{quit}
use Rattle.rel_session.specs.Device.{Device}
use Rattle.rel_session.specs.Session.{AllowsTrueAnswersOnly, AreCommands, IsSession, bytes_followed, ending_of}
use Rattle.session_input.specs.Feed.{Feed, Gives, EndsAs, IsNext, bytes_within}
use Rattle.session_input.specs.Feed.Feed.{over, cut, next}
use Rattle.rel_unpack.specs.Source.{Source}
use Rattle.rel_session.specs.Files.{Files, no_files, files_of, files_behind, source_of}
use Rattle.rel_session.specs.InMemory.{IsAt, Leads, NothingDone, FollowsCommand, disk_at, disk_of}
use Rattle.session_input.specs.Input.{IsFresh, KnowsEnd, HasCause, commands_left, failed_reads, taken, reached, most_bytes}
use Rattle.counted_io.specs.Failures.{HasRisen, Reports}
use Rattle.session_input.specs.Lines.{lines_of}
use Rattle.rel_session.specs.Node.{DiskState, Reply}
use Rattle.rel_session.specs.Node.DiskState.{unknown_bytes, not_booted, running, dead}
use Rattle.counted_io.specs.Prefixes.{AppendsPrefix}
use Rattle.rel_session.specs.Output.{MayAdd, Writes}
use Rattle.rel_session.specs.Run.{Starts, CommandsRun, AreReplies, Ending, IsTextOf, IsRun, answers_of, commands_within}
use Rattle.rel_session.specs.Run.Ending.{ended, cut_off, unread, unwritten, out_of_memory, going_on}
use Rattle.rel_session.specs.Transition.{Transition}
use Rattle.rel_session.proofs.DeviceLemmas.{IsDevice, still}
use Rattle.rel_session.proofs.Replies.{held}

-- the commands of an input, if so many bytes are read at most
abbrev pub within : Option (List ℕ) → ℕ → Option (Feed Command)
within known most = option_map (commands_within most) known

all_left : (n most : ℕ) (known : Option (List ℕ)) → n ≡ most → option_map commands_of (option_map lines_of (option_map (bytes_within n) (prepend_known [] known))) ≡ within known most
all_left n most None same = refl
all_left n most (Some bytes) same = ap (λ k. Some (commands_within k bytes)) same

-- before the first byte was taken all commands are left
pub fresh_left : {R : Type 0} (remaining : R → Option (List ℕ)) (i : Input R) → IsFresh i → (most : ℕ) → commands_left remaining i most ≡ within (remaining i.reader.reader) most
fresh_left remaining i fresh most = rw (fresh.0, fresh.1) (all_left _ most (remaining i.reader.reader) (omega arith))

-- the end was not read yet
pub fresh_end : {R : Type 0} (remaining : R → Option (List ℕ)) (i : Input R) → IsFresh i → KnowsEnd remaining i
fresh_end remaining i fresh is = absurd (let both : false ≡ true = sym fresh.2 ∙ is in cc both)

pub is_bounded : {R : Type 0} (i : Input R) → reached i ≤ most_bytes → taken i ≤ most_bytes
is_bounded i le = by_end i.ahead.is_over le
  where
    by_end : (b : Bool) → (if b then taken i + 1 else taken i) ≤ most_bytes → taken i ≤ most_bytes
    by_end true le = omega arith
    by_end false le = le

-- these commands are left, where they are known
abbrev pub AreLeft : Option (Feed Command) → Feed Command → Type 0
AreLeft None commands = Unit {0}
AreLeft (Some left) commands = commands ≡ left

-- some are
abbrev some_left : Option (Feed Command) → Feed Command
some_left None = over
some_left (Some left) = left

are_some : (left : Option (Feed Command)) → AreLeft left (some_left left)
are_some None = tt
are_some (Some left) = refl

-- one that was taken stood in front of them
are_next : (now new : Option (Feed Command)) (c : Command) (rest : Feed Command) → Gives now new (λ d. c ≡ d) → AreLeft new rest → AreLeft now (next c rest)
are_next None new c rest gives left = tt
are_next (Some now) None c rest gives left = absurd gives
are_next (Some now) (Some new) c rest (d, was, same) left = ap (λ r. next c r) left ∙ ap (λ e. next e new) same ∙ sym was

are_ended : (now new : Option (Feed Command)) (end : Feed Command) → EndsAs end now new → AreLeft now end
are_ended None new end ends = tt
are_ended (Some now) None end ends = absurd ends
are_ended (Some now) (Some new) end ends = sym ends.0

-- the commands of the input are those that were left before the first of them
are_all : (known : Option (List ℕ)) (most : ℕ) (commands : Feed Command) → AreLeft (within known most) commands → AreCommands most known commands
are_all None most commands left = tt
are_all (Some input) most commands left = left

-- a reply to the first of these commands
pub replies_next : (base : Source) (files : Files) (p : DiskState) (c : Command) (rest : Feed Command) (ending : Ending) (a : Reply) (more : List Reply) → Transition (source_of base files) p c a
    → AreReplies base (files_behind files c) a.after rest ending more → AreReplies base files p (next c rest) ending (a ∷ more)
replies_next base files p c rest ending a more is right = (is, right)

-- none of them has one
replies_yet : (base : Source) (files : Files) (p : DiskState) (commands : Feed Command) → AreReplies base files p commands going_on []
replies_yet base files p over = tt
replies_yet base files p cut = tt
replies_yet base files p (next c rest) = tt

replies_unwritten : (base : Source) (files : Files) (p : DiskState) (commands : Feed Command) → AreReplies base files p commands unwritten []
replies_unwritten base files p over = tt
replies_unwritten base files p cut = tt
replies_unwritten base files p (next c rest) = tt

replies_none : (base : Source) (files : Files) (p : DiskState) (commands : Feed Command) → AreReplies base files p commands out_of_memory []
replies_none base files p over = tt
replies_none base files p cut = tt
replies_none base files p (next c rest) = tt

-- the text of one more reply in front
written_next : (ending : Ending) (a : Reply) (more : List Reply) (text : List ℕ) → IsTextOf ending more text → IsTextOf ending (a ∷ more) (a.answer ++ text)
written_next ended a more text is = ap (λ (l : List ℕ). a.answer ++ l) is
written_next cut_off a more text is = ap (λ (l : List ℕ). a.answer ++ l) is
written_next unread a more text is = ap (λ (l : List ℕ). a.answer ++ l) is
written_next going_on a more text is = ap (λ (l : List ℕ). a.answer ++ l) is
written_next unwritten a more text (first, last, part, left, are, parts, is) =
    (a ∷ first, last, part, left, ap (λ (l : List Reply). a ∷ l) are, parts, ap (λ (l : List ℕ). a.answer ++ l) is ∙ sym (append_assoc a.answer (answers_of first) part))
written_next out_of_memory a more text (inl is) = inl (ap (λ (l : List ℕ). a.answer ++ l) is)
written_next out_of_memory a more text (inr (first, last, are, is)) =
    inr (a ∷ first, last, ap (λ (l : List Reply). a ∷ l) are, ap (λ (l : List ℕ). a.answer ++ l) is)

-- at the limit no more than that was read
at_limit : {R : Type 0} (j : Input R) (n : ℕ) → n ≡ reached j → n ≤ most_bytes → taken j ≡ most_bytes → n ≡ most_bytes
at_limit j n is le full = by_end j.ahead.is_over is
  where
    by_end : (b : Bool) → n ≡ (if b then taken j + 1 else taken j) → n ≡ most_bytes
    by_end true is = omega arith
    by_end false is = is ∙ full

module _ {D : Type 0} (v : Device D) (base : Source) where
  -- Where the node stands, what was written, and how a run of the commands that are left completes that of all, wherever from
  -- here on the reading may stop.
  pub record Reached (start : DiskState) (all left : ℕ → Option (Feed Command)) (upto : ℕ) (disk : D) (node : SessionNode D) (old now : Option (List ℕ)) : Type 0 where
    pub here : DiskState
    pub at : IsAt v node.place here
    pub written : List ℕ
    pub appended : Appends old now written
    pub completes : (ending : Ending) (most : ℕ) (rest : Feed Command) (replies : List Reply) (new : D) (text : List ℕ) → upto ≤ most → AreLeft (left most) rest
        → AreReplies base (files_of node.files) here rest ending replies → CommandsRun v here replies (disk_of node) new → IsTextOf ending replies text
        → (commands : Feed Command) × AreLeft (all most) commands × IsRun v base no_files start commands ending disk new (written ++ text)

  abbrev pub Goes : (ℕ → Option (Feed Command)) → (ℕ → Option (Feed Command)) → ℕ → D → SessionNode D → Option (List ℕ) → Option (List ℕ) → Type 0
  Goes all left upto disk node old now = (start : DiskState) → Starts v start disk → Reached start all left upto disk node old now

  -- A session has ended so, if so many bytes are read at most, on this disk, and this was written.
  abbrev pub EndsSo : (ℕ → Option (Feed Command)) → Ending → ℕ → D → D → Option (List ℕ) → Option (List ℕ) → Type 0
  EndsSo all ending most disk final old now =
      (start : DiskState) → Starts v start disk
      → (commands : Feed Command) × AreLeft (all most) commands × Writes old now (λ text. IsRun v base no_files start commands ending disk final text)

module _ {D : Type 0} (v : Device D) (laws : IsDevice v) (base : Source) where
  starts_at : (start : DiskState) (disk : D) → Starts v start disk → IsAt v (memory.Idle disk) start
  starts_at (unknown_bytes bytes) disk starts = starts
  starts_at (not_booted s) disk starts = starts
  starts_at (running events extent ps) disk starts = absurd starts
  starts_at (dead s) disk starts = absurd starts

  -- before the first command
  pub begins : (all left : ℕ → Option (Feed Command)) (upto : ℕ) (disk : D) (node : SessionNode D) (old : Option (List ℕ)) → ((most : ℕ) → left most ≡ all most) → node.place ≡ memory.Idle disk → files_of node.files ≡ no_files
      → Goes v base all left upto disk node old old
  begins all left upto disk node old same place files start starts = record {
    here = start;
    at = subst (λ q. IsAt v q start) (sym place) (starts_at start disk starts);
    written = [];
    appended = Appends-nothing old;
    completes = λ ending most rest replies new text le are right leads written. (
      rest,
      subst (λ l. AreLeft l rest) (same most) are,
      record {
        replies = replies;
        right = subst (λ fs. AreReplies base fs start rest ending replies) files right;
        leads = subst (λ d. CommandsRun v start replies d new) (ap disk_at place) leads;
        written = written;
      },
    );
  }

  -- calls that leave nothing new
  nothing_more : (p : DiskState) (node : SessionNode D) → IsAt v node.place p → CommandsRun v p [] (disk_of node) (disk_of node)
  nothing_more p node at = (still v laws (disk_of node), held v laws node.place p at, omega arith)

  module _ (all now new : ℕ → Option (Feed Command)) (upto further : ℕ) (before : upto ≤ further) (disk : D) (node : SessionNode D) (old mid : Option (List ℕ)) (goes : Goes v base all now upto disk node old mid) where
    -- the next command is this one
    abbrev pub Takes : Command → Type 0
    Takes c = (most : ℕ) → further ≤ most → Gives (now most) (new most) (λ d. c ≡ d)

    -- a command was followed, and its answer was written
    pub goes_on : (c : Command) (text : String Global) (later : SessionNode D) (mid' : Option (List ℕ)) → Takes c → FollowsCommand v base c (Ok (Some text)) node later → Appends mid mid' (string_bytes text)
        → Goes v base all new further disk later old mid'
    goes_on c text later mid' gives (files, follows) appended start starts =
        let r = goes start starts in
        let a = follows r.here r.at in
        record {
          here = a.given.after;
          at = a.at;
          written = r.written ++ string_bytes text;
          appended = Appends-twice old mid mid' r.written (string_bytes text) r.appended appended;
          completes = λ ending most rest replies final more le are right leads written.
              let whole = r.completes ending most (next c rest) (a.given ∷ replies) final (a.given.answer ++ more) (omega arith) (are_next (now most) (new most) c rest (gives most le) are)
              (replies_next base (files_of node.files) r.here c rest ending a.given replies a.right.0 (subst (λ fs. AreReplies base fs a.given.after rest ending replies) files right))
              (disk_of later, a.happens, leads) (written_next ending a.given replies more written) in
              let same : r.written ++ (a.given.answer ++ more) ≡ (r.written ++ string_bytes text) ++ more = ap (λ (l : List ℕ). r.written ++ (l ++ more)) a.right.1 ∙ sym (append_assoc r.written (string_bytes text) more) in
              (whole.0, whole.1, subst (λ t. IsRun v base no_files start whole.0 ending disk final t) same whole.2);
        }

    -- the session ended there
    ends_with : (ending : Ending) (most : ℕ) (rest : Feed Command) (final : D) → upto ≤ most → AreLeft (now most) rest → final ≡ disk_of node → ((files : Files) (p : DiskState) → AreReplies base files p rest ending []) → IsTextOf ending [] []
        → EndsSo v base all ending most disk final old mid
    ends_with ending most rest final le are is right written start starts =
        let r = goes start starts in
        let whole = r.completes ending most rest [] (disk_of node) [] le are (right (files_of node.files) r.here) (nothing_more r.here node r.at) written in
        (whole.0, whole.1, (r.written, r.appended, subst (λ t. IsRun v base no_files start whole.0 ending disk final t) (append-nil r.written) (subst (λ d. IsRun v base no_files start whole.0 ending disk d (r.written ++ [])) (sym is) whole.2)))

    pub ends : (most : ℕ) (final : D) → further ≤ most → final ≡ disk_of node → ((m : ℕ) → further ≤ m → EndsAs over (now m) (new m)) → EndsSo v base all ended most disk final old mid
    ends most final le is gone = ends_with ended most over final (omega arith) (are_ended (now most) (new most) over (gone most le)) is (λ files p. refl) refl

    pub ends_cut : (final : D) → final ≡ disk_of node → EndsAs cut (now further) (new further) → EndsSo v base all cut_off further disk final old mid
    ends_cut final is gone = ends_with cut_off further cut final before (are_ended (now further) (new further) cut gone) is (λ files p. refl) refl

    pub ends_unread : (final : D) → final ≡ disk_of node → EndsAs cut (now further) (new further) → EndsSo v base all unread further disk final old mid
    ends_unread final is gone = ends_with unread further cut final before (are_ended (now further) (new further) cut gone) is (λ files p. tt) refl

    pub ends_without_memory : (most : ℕ) (final : D) → further ≤ most → final ≡ disk_of node → EndsSo v base all out_of_memory most disk final old mid
    ends_without_memory most final le is = ends_with out_of_memory most (some_left (now most)) final (omega arith) (are_some (now most)) is (λ files p. replies_none base files p (some_left (now most))) (inl refl)

    -- The session has not ended there.
    pub stands : (most : ℕ) (final : D) → upto ≤ most → final ≡ disk_of node → EndsSo v base all going_on most disk final old mid
    stands most final le is = ends_with going_on most (some_left (now most)) final le (are_some (now most)) is (λ files p. replies_yet base files p (some_left (now most))) refl

    -- with this error of the input
    pub ends_for : {R : Type 0} (Shows : CommandInMemory → Command → Type 0) (e : SessionError) (i j : Input R) (final : D) → further ≤ most_bytes → further ≡ reached j → final ≡ disk_of node
        → HasCause {V = Option CommandInMemory} (Err e) i j → IsNext Shows (Err e) further now new → EndsSo v base all (ending_of (Err e)) (bytes_followed (ending_of (Err e)) (taken j)) disk final old mid
    ends_for Shows Read i j final le is same cause gone = subst (λ n. EndsSo v base all unread n disk final old mid) (is ∙ cause.1) (ends_unread final same gone)
    ends_for Shows Write i j final le is same cause gone = absurd cause
    ends_for Shows Limit i j final le is same cause gone = subst (λ n. EndsSo v base all cut_off n disk final old mid) (at_limit j further is le cause.0) (ends_cut final same gone)
    ends_for Shows NoMemory i j final le is same cause gone = ends_without_memory most_bytes final le same

    -- at `quit`
    pub quits : (most : ℕ) (c : Command) (later : SessionNode D) (final : D) → further ≤ most → final ≡ disk_of later → Takes c → FollowsCommand v base c (Ok None) node later → EndsSo v base all ended most disk final old mid
    quits most c later final le is gives (quitting, same) =
        ends_with ended most (next quit (some_left (new most))) final (omega arith)
        (subst (λ d. AreLeft (now most) (next d (some_left (new most)))) quitting (are_next (now most) (new most) c (some_left (new most)) (gives most le) (are_some (new most)))) (is ∙ ap disk_at same) (λ files p. (refl, refl)) refl

    -- The session ended at a command whose answer was not written whole.
    pub stops_within : (most : ℕ) (c : Command) (text : String Global) (later : SessionNode D) (final : D) (mid' : Option (List ℕ)) → further ≤ most → final ≡ disk_of later → Takes c → FollowsCommand v base c (Ok (Some text)) node later
        → AppendsPrefix mid mid' (string_bytes text) → EndsSo v base all unwritten most disk final old mid'
    stops_within most c text later final mid' le is gives (files, follows) (part, left, parts, appended) start starts =
        let r = goes start starts in
        let a = follows r.here r.at in
        let rest = some_left (new most) in
        let whole = r.completes unwritten most (next c rest) (a.given ∷ []) (disk_of later) part (omega arith) (are_next (now most) (new most) c rest (gives most le) (are_some (new most)))
        (replies_next base (files_of node.files) r.here c rest unwritten a.given [] a.right.0 (replies_unwritten base (files_behind (files_of node.files) c) a.given.after rest))
        (disk_of later, a.happens, nothing_more a.given.after later a.at) ([], a.given, part, left, refl, parts ∙ sym a.right.1, refl) in
        (whole.0, whole.1, (r.written ++ part, Appends-twice old mid mid' r.written part r.appended appended, subst (λ d. IsRun v base no_files start whole.0 unwritten disk d (r.written ++ part)) (sym is) whole.2))

    -- The session ended at a command that gave no answer, since memory was refused.
    pub stops_before : (most : ℕ) (c : Command) (e : SessionError) (later : SessionNode D) (final : D) → further ≤ most → final ≡ disk_of later → Takes c → FollowsCommand v base c (Err e) node later → EndsSo v base all out_of_memory most disk final old mid
    stops_before most c e later final le is gives follows start starts = by_outcome (follows r.here r.at)
      where
        r : Reached v base start all now upto disk node old mid
        r = goes start starts

        rest : Feed Command
        rest = some_left (new most)

        by_outcome : Leads v r.here (Transition (source_of base (files_of node.files)) r.here c) node.place later.place ⊎ NothingDone v r.here node.place later.place
            → (commands : Feed Command) × AreLeft (all most) commands × Writes old mid (λ t. IsRun v base no_files start commands out_of_memory disk final t)
        by_outcome (inl a) =
            let whole = r.completes out_of_memory most (next c rest) (a.given ∷ []) (disk_of later) [] (omega arith) (are_next (now most) (new most) c rest (gives most le) (are_some (new most)))
            (a.right, replies_none base (files_behind (files_of node.files) c) a.given.after rest)
            (disk_of later, a.happens, (still v laws (disk_of later), a.happens.holds, omega arith)) (inr ([], a.given, refl, refl)) in
            (whole.0, whole.1, (r.written, r.appended, subst (λ t. IsRun v base no_files start whole.0 out_of_memory disk final t) (append-nil r.written) (subst (λ d. IsRun v base no_files start whole.0 out_of_memory disk d (r.written ++ [])) (sym is) whole.2)))
        by_outcome (inr lapsed) =
            let whole = r.completes out_of_memory most (some_left (now most)) [] (disk_of later) [] (omega arith) (are_some (now most)) (replies_none base (files_of node.files) r.here (some_left (now most))) (lapsed.nothing_new, lapsed.holds, lapsed.counted) (inl refl) in
            (whole.0, whole.1, (r.written, r.appended, subst (λ t. IsRun v base no_files start whole.0 out_of_memory disk final t) (append-nil r.written) (subst (λ d. IsRun v base no_files start whole.0 out_of_memory disk d (r.written ++ [])) (sym is) whole.2)))

  -- of the commands that were left at first, to those of the input
  pub sessions : (known : Option (List ℕ)) (ending : Ending) (taken : ℕ) (disk final : D) (old now : Option (List ℕ)) → EndsSo v base (within known) ending (bytes_followed ending taken) disk final old now
      → IsSession v base no_files ending taken known disk final old now
  sessions known ending taken disk final old now run start starts =
      let (commands, are, text) = run start starts in
      (commands, are_all known (bytes_followed ending taken) commands are, text)

  -- an answer may be written after its command, on the disk to which that has led
  pub may_write : (known : Option (List ℕ)) (now new : ℕ → Option (Feed Command)) (upto further : ℕ) (disk : D) (node : SessionNode D) (old mid : Option (List ℕ)) → upto ≤ further → further ≤ most_bytes
      → Goes v base (within known) now upto disk node old mid
      → (c : Command) (text : String Global) (later : SessionNode D) → ((most : ℕ) → further ≤ most → Gives (now most) (new most) (λ d. c ≡ d)) → FollowsCommand v base c (Ok (Some text)) node later
      → (Allowed : D → Option (List ℕ) → Type 0) → AllowsTrueAnswersOnly v base known disk old Allowed → MayAdd (Allowed (disk_of later)) mid (string_bytes text)
  may_write known now new upto further disk node old mid before bound goes c text later gives follows Allowed allowed added appended =
      let behind = goes_on (within known) now new upto further before disk node old mid goes c text later added gives follows appended in
      allowed (disk_of later) added (sessions known going_on most_bytes disk (disk_of later) old added (stands (within known) new new further further (omega arith) disk later old added behind most_bytes (disk_of later) bound refl))

  -- the error is this one
  pub by_error : (known : Option (List ℕ)) (taken : ℕ) (e given : SessionError) (disk final : D) (old now : Option (List ℕ)) → given ≡ e
      → IsSession v base no_files (ending_of (Err e)) taken known disk final old now → IsSession v base no_files (ending_of (Err given)) taken known disk final old now
  by_error known taken e given disk final old now same session = subst (λ x. IsSession v base no_files (ending_of (Err x)) taken known disk final old now) (sym same) session

-- no error is reported where there is none
pub no_error : (e : SessionError) → IsErrOf (Ok (tt {0})) e → ⊥
no_error e is = cc is

-- one error is reported as no other
pub one_error : (reported e other : SessionError) → reported ≡ e → (e ≡ other → ⊥) → IsErrOf {T = Unit {0}} (Err reported) other → ⊥
one_error reported e other is differ also = differ (sym is ∙ (let same : reported ≡ other = cc in same))

pub Write≢Read : Write ≡ Read → ⊥
Write≢Read is = cc is

pub Write≢Limit : Write ≡ Limit → ⊥
Write≢Limit is = cc is

pub NoMemory≢Read : NoMemory ≡ Read → ⊥
NoMemory≢Read is = cc is

pub NoMemory≢Write : NoMemory ≡ Write → ⊥
NoMemory≢Write is = cc is

pub NoMemory≢Limit : NoMemory ≡ Limit → ⊥
NoMemory≢Limit is = cc is

-- a failure that is not reported was not counted
pub not_reported : {E : Type 0} (e : E) (r : Result (Unit {0}) E) (old new : ℕ) → (IsErrOf r e → ⊥) → new ≡ old → Reports e r old new
not_reported e r old new absent same = ((λ is. absurd (absent is)), (λ none. same))

-- one that is reported was
pub is_reported : {E : Type 0} (e given : E) (old new : ℕ) → given ≡ e → HasRisen old new → Reports {V = Unit {0}} e (Err given) old new
is_reported e given old new is rose = ((λ also. rose), (λ none. absurd (none (ap (λ x. Err x) is))))

-- the error of the input has its cause
pub read_reported : {R : Type 0} (e : SessionError) (first : ℕ) (old new : Input R) → failed_reads old ≡ first → HasCause {V = Option CommandInMemory} (Err e) old new
    → Reports {V = Unit {0}} Read (Err e) first (failed_reads new)
read_reported Read first old new same cause = is_reported Read Read first (failed_reads new) refl (subst (λ n. HasRisen n (failed_reads new)) same cause.0)
read_reported Write first old new same cause = absurd cause
read_reported Limit first old new same cause = not_reported Read (Err Limit) first (failed_reads new) (λ is. cc is) (cause.1 ∙ same)
read_reported NoMemory first old new same cause = not_reported Read (Err NoMemory) first (failed_reads new) (λ is. cc is) (cause ∙ same)

pub never_written : {R : Type 0} (e : SessionError) (old new : Input R) → HasCause {V = Option CommandInMemory} (Err e) old new → IsErrOf {T = Unit {0}} (Err e) Write → ⊥
never_written e old new cause is = subst (λ x. HasCause {V = Option CommandInMemory} (Err x) old new) (let known : e ≡ Write = cc in known) cause

pub limit_reported : {R : Type 0} (e : SessionError) (old new : Input R) → HasCause {V = Option CommandInMemory} (Err e) old new → IsErrOf {T = Unit {0}} (Err e) Limit → taken new ≡ most_bytes
limit_reported e old new cause is = (subst (λ x. HasCause {V = Option CommandInMemory} (Err x) old new) (let known : e ≡ Limit = cc in known) cause).0
