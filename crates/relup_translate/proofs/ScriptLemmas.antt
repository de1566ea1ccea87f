-- Where the instructions of a made script stand.
use Rattle.std.proofs.Common.{◌≡◌, refl, sym, ap, subst, Bool, IsTrue, true, false, not, ◌&&◌, ◌||◌, List, [], ◌∷◌, ◌++◌, map, flat_map, None, Ok, if◌then◌else◌}
use Rattle.std.proofs.lemmas.List.{append_assoc}
use Rattle.std.specs.List.{AllByRecursion, list_any}
use Rattle.relup_instruction.specs.declared.instruction.Direction.{Direction}
use Rattle.relup_instruction.specs.declared.instruction.Direction.TheVariants.{Up, Down}
use Rattle.relup_instruction.specs.Instruction.{Instruction}
use Rattle.relup_instruction.specs.Instruction.Instruction.{load_object_code, point_of_no_return, restart_emulator}
use Rattle.relup_file.specs.Relup.{EntryForm, RelupForm}
use Rattle.relup_file.specs.Script.{is_point, is_restart, is_end, is_supported, may_precede, may_follow}
use Rattle.relup_file.proofs.ScriptLemmas.{MayFollow, only_unsupported}
use Rattle.appup_file.specs.Instruction.{AppupInstruction}
use Rattle.appup_file.specs.Instruction.AppupInstruction.{low_level}
use Rattle.relup_row.specs.Release.{RelupAppForm, RelupReleaseForm, WayForm, way_between}
use Rattle.relup_row.specs.Fetches.{fetches, fetching}
use Rattle.relup_row.specs.Script.{in_place, row_script, mentions, written_fetch, written_fetches, asks_restart, restart_at_end, script}
use Rattle.relup_translate.specs.Translation.{instruction_fault, way_fault, rows, way_script, entry, translation}
use Rattle.relup_translate.specs.Laws.{AreSound, Fetches, IsParted, PartsScripts, HasOnlyUnsupported, StandsRight}
use Rattle.relup_translate.proofs.OutcomeLemmas.{sound_where_made}
use Rattle.relup_row.proofs.ListLemmas.{of_both, of_first, of_last, of_each, of_parts, trivially}
use Rattle.relup_translate.proofs.RowLemmas.{HoldsOfMade, written, of_rows}
use Rattle.relup_translate.proofs.WayLemmas.{of_sound, of_all_rows}

-- After the point stand instructions that may follow it at any place.
abbrev Follows : Instruction → Type 0
Follows i = (may_follow i && not (is_restart i)) ≡ true

abbrev AllFollow : List Instruction → Type 0
AllFollow = AllByRecursion Follows

follows : HoldsOfMade Follows (λ name. Unit {0})
follows = record {
  suspends = λ ss. refl;
  loads = λ p any. refl;
  changes = λ c. refl;
  resumes = λ names. refl;
  removes = λ p. refl;
  purges = λ names. refl;
  applies = λ c. refl;
}

-- A point that an appup has itself is refused.
abbrev is_written_point : AppupInstruction → Bool
is_written_point (low_level i) = is_point i
is_written_point i = false

abbrev IsPlain : AppupInstruction → Type 0
IsPlain i = is_written_point i ≡ false

follows_in_place : (i : Instruction) → is_point i ≡ false → AllFollow (in_place i)
follows_in_place (load_object_code f) e = tt
follows_in_place restart_emulator e = tt
follows_in_place point_of_no_return e = absurd cc
follows_in_place i e = (refl, tt)

follows_written : (i : AppupInstruction) → IsPlain i → AllFollow (written i)
follows_written (low_level i) e = follows_in_place i e
follows_written i e = tt

follows_rows : (w : WayForm) (rs : List (List AppupInstruction)) → AllByRecursion (AllByRecursion IsPlain) rs → AllFollow (flat_map (row_script w) rs)
follows_rows w rs h =
    of_rows Follows (λ name. Unit {0}) follows w rs (trivially _)
    (of_parts Follows (AllByRecursion IsPlain) (flat_map written) (of_parts Follows IsPlain written follows_written) rs h)

-- After them stands a restart, if any.
follows_anywhere : (is_last : Bool) (i : Instruction) → Follows i → (may_follow i && (is_last || not (is_restart i))) ≡ true
follows_anywhere is_last i h = go is_last (may_follow i) (not (is_restart i)) h
  where
    go : (l a b : Bool) → (a && b) ≡ true → (a && (l || b)) ≡ true
    go true true b e = refl
    go false true b e = e
    go l false b e = absurd cc

restart_follows : (is : List Instruction) (restarts : Bool) → AllFollow is → MayFollow (is ++ (if restarts then restart_emulator ∷ [] else []))
restart_follows [] true h = (refl, tt)
restart_follows [] false h = tt
restart_follows (i ∷ is) restarts h = (follows_anywhere _ i h.0, restart_follows is restarts h.1)

-- Before it stand fetches.
abbrev AllFetch : List Instruction → Type 0
AllFetch = AllByRecursion Fetches

fetch_written : (i : AppupInstruction) → Unit {0} → AllFetch (written_fetch i)
fetch_written (low_level (load_object_code f)) h = ((f, refl), tt)
fetch_written i h = tt

fetch_row : (is : List AppupInstruction) → Unit {0} → AllFetch (written_fetches is)
fetch_row is h = of_parts Fetches (λ i. Unit {0}) written_fetch fetch_written is (trivially is)

-- Fetches may stand before the point.
precedes : (i : Instruction) → Fetches i → (is_supported i && may_precede i) ≡ true
precedes i h = ap (λ (j : Instruction). is_supported j && may_precede j) h.1

all_precede : (is : List Instruction) → AllFetch is → AllByRecursion (λ i. (is_supported i && may_precede i) ≡ true) is
all_precede [] h = tt
all_precede (i ∷ is) h = (precedes i h.0, all_precede is h.1)

-- What may follow the point stands where it may.
each_stands : (front rest : List Instruction) (i : Instruction) → MayFollow (front ++ (i ∷ rest)) → IsTrue (may_follow i && (is_end rest || not (is_restart i)))
each_stands [] rest i h = h.0
each_stands (j ∷ front) rest i h = each_stands front rest i h.1

-- The two sides of the script of a way, whose rows have no point themselves.
module _ (w : WayForm) (rs : List (List AppupInstruction)) where
  abbrev before : List Instruction
  before = fetching (flat_map (mentions w) rs) ++ flat_map written_fetches rs

  abbrev behind : List Instruction
  behind = flat_map (row_script w) rs ++ restart_at_end rs

  two_sides : script w rs ≡ before ++ (point_of_no_return ∷ behind)
  two_sides = sym (append_assoc (fetching (flat_map (mentions w) rs)) (flat_map written_fetches rs) (point_of_no_return ∷ behind))

  fetched_before : AllFetch before
  fetched_before =
      of_both Fetches (fetching (flat_map (mentions w) rs)) (flat_map written_fetches rs)
      (of_each Fetches load_object_code (λ f. (f, refl)) (fetches (flat_map (mentions w) rs)))
      (of_parts Fetches (λ is. Unit {0}) written_fetches fetch_row rs (trivially rs))

  follows_behind : AllByRecursion (AllByRecursion IsPlain) rs → MayFollow behind
  follows_behind h =
      restart_follows (flat_map (row_script w) rs) (list_any (list_any asks_restart) rs) (follows_rows w rs h)

  parted : AllByRecursion (AllByRecursion IsPlain) rs → IsParted (script w rs)
  parted h = record {
    before = before;
    after = behind;
    is = two_sides;
    fetches = fetched_before;
    stands = λ front rest i is. each_stands front rest i (subst MayFollow is (follows_behind h));
  }

  -- The only fault that the script can have is an instruction that can't be run.
  only_one_fault : AllByRecursion (AllByRecursion IsPlain) rs → HasOnlyUnsupported (script w rs)
  only_one_fault h = only_unsupported (script w rs) before behind two_sides (all_precede before fetched_before) (follows_behind h)

-- The rows of a way without a fault have no point themselves.
plain_instruction : (w : WayForm) (b : RelupAppForm) (i : AppupInstruction) → instruction_fault w b i ≡ None → IsPlain i
plain_instruction w b (low_level point_of_no_return) e = absurd cc
plain_instruction w b (low_level i) e = refl
plain_instruction w b i e = refl

plain_rows : (w : WayForm) → way_fault w ≡ None → AllByRecursion (AllByRecursion IsPlain) (rows w)
plain_rows w e =
    of_all_rows IsPlain w (λ a. Unit {0}) (λ a any. refl) (λ b any. refl) (trivially w.target.apps) (trivially w.left.apps)
    (of_sound IsPlain w (plain_instruction w) e)

-- One point parts the script of a way without a fault, and its only fault can be an instruction that can't be run.
parts_script : (w : WayForm) → way_fault w ≡ None → IsParted (way_script w)
parts_script w e = parted w (rows w) (plain_rows w e)

has_one_fault : (w : WayForm) → way_fault w ≡ None → HasOnlyUnsupported (way_script w)
has_one_fault w e = only_one_fault w (rows w) (plain_rows w e)

-- What holds of the script of each way without a fault, up to a release and down from it, holds of each script that is made.
module _ (P : List Instruction → Type 0) (new : RelupReleaseForm)
    (each : (d : Direction) (other : RelupReleaseForm) → way_fault (way_between d new other) ≡ None → P (way_script (way_between d new other))) where
  of_entries : (d : Direction) (others : List RelupReleaseForm) → AreSound (map (way_between d new) others)
      → AllByRecursion (λ (e : EntryForm). P e.script) (map (entry d new) others)
  of_entries d [] h = tt
  of_entries d (r ∷ rs) h = (each d r h.0, of_entries d rs h.1)

  pub of_made : (ups downs : List RelupReleaseForm) (r : RelupForm) → translation new ups downs ≡ Ok r
      → AllByRecursion (λ (e : EntryForm). P e.script) (r.ups ++ r.downs)
  of_made ups downs r e =
      let there = sound_where_made new ups downs r e in
      subst (λ (s : RelupForm). AllByRecursion (λ (n : EntryForm). P n.script) (s.ups ++ s.downs)) (sym there.1)
      (of_both _ (map (entry Up new) ups) (map (entry Down new) downs)
      (of_entries Up ups (of_first _ (map (way_between Up new) ups) (map (way_between Down new) downs) there.0))
      (of_entries Down downs (of_last _ (map (way_between Up new) ups) (map (way_between Down new) downs) there.0)))

pub scripts_are_parted : PartsScripts
scripts_are_parted new = of_made IsParted new (λ d other. parts_script (way_between d new other))

pub stands_right : StandsRight
stands_right new = of_made HasOnlyUnsupported new (λ d other. has_one_fault (way_between d new other))
