-- What operations make of the blocks of courses.
use Rattle.std.proofs.Common.{◌≡◌, ℕ, Bool, true, false, if◌then◌else◌, nat_lt, List, ◌++◌, refl, ap, subst, ◌∙◌}
use Rattle.proc_table.specs.Parts.{part_of}
use Rattle.proc_table.specs.Views.{seen}
use Rattle.held_processes.specs.Course.{Hold, Course, Courses, Operation, ModulesBySlot, added, course_after, if_held, on_module, runs}
use Rattle.held_processes.specs.Course.Hold.{not_held, until_point, until_resumed}
use Rattle.held_processes.specs.Course.Operation.{suspend, load, change}
use Rattle.held_processes.specs.Following.{Stand}
use Rattle.held_processes.specs.Laws.{BlocksAlone, IsPending, NoBlockIsNothing, PendingAddsNoBlock}
use Rattle.held_processes.specs.Operations.{part_way}
use Rattle.held_processes.proofs.StandLemmas.{stand_alone}

pub blocks_alone : BlocksAlone
blocks_alone first cs v none left p inside = stand_alone first.lent (seen first p) (cs p).blocks (seen v p) none (left.each p inside).stand

pub no_block_is_nothing : NoBlockIsNothing
no_block_is_nothing first cs v left none = record {
  handler = left.handler;
  count = left.count;
  lent = left.lent;
  each = λ p inside. let x = left.each p inside in record {
    mine = x.mine ∙ ap (λ bs. (part_of first.parts p).mine ++ added bs) (none p inside);
    stand = subst (λ bs. Stand first.lent (seen first p) bs (seen v p)) (none p inside) x.stand;
    out = x.out;
  };
}

-- a choice between courses with the same blocks
blocks_of_choice : (k : Hold) (held free : Course) (bs : _) → held.blocks ≡ bs → free.blocks ≡ bs → (if_held k held free).blocks ≡ bs
blocks_of_choice not_held held free bs a b = b
blocks_of_choice until_point held free bs a b = a
blocks_of_choice until_resumed held free bs a b = a

pub pending_adds_no_block : PendingAddsNoBlock
pending_adds_no_block suspend c is = refl
pending_adds_no_block (load true t) c is = blocks_of_choice c.hold _ _ c.blocks refl refl
pending_adds_no_block (change old extra) c is = blocks_of_choice c.hold _ _ c.blocks refl refl
pending_adds_no_block op c is = absurd is

-- neither on the processes of a module, nor on some of them
pub module_adds_no_block : (users : ModulesBySlot) (name : List ℕ) (op : Operation) (cs : Courses) → IsPending op → (p : ℕ) → (on_module users name op cs p).blocks ≡ (cs p).blocks
module_adds_no_block users name op cs is p = go (runs name (users p))
  where
    go : (b : Bool) → (if b then course_after op (cs p) else cs p).blocks ≡ (cs p).blocks
    go true = pending_adds_no_block op (cs p) is
    go false = refl

pub part_way_adds_no_block : (n : ℕ) (users : ModulesBySlot) (name : List ℕ) (op : Operation) (cs : Courses) → IsPending op → (p : ℕ) → (part_way n users name op cs p).blocks ≡ (cs p).blocks
part_way_adds_no_block n users name op cs is p = go (nat_lt p n)
  where
    go : (b : Bool) → (if b then on_module users name op cs p else cs p).blocks ≡ (cs p).blocks
    go true = module_adds_no_block users name op cs is p
    go false = refl
