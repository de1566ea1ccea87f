-- How a log keeps calls as bytes: a kind, two numbers of eight bytes, greatest first, and the bytes that were written.
use Rattle.std.specs.Prelude.{ℕ, ◌<◌, ◌^◌, List, [], ◌∷◌, ◌++◌, length, take, drop, if◌then◌else◌, ◌==◌, zero, suc}
use Rattle.std.specs.Int.{w64, to_be_bytes, from_be_bytes}
use Rattle.rel_disk.specs.Calls.{Call, wrote, cut_to, synced}

-- an entry
abbrev pub entry : ℕ → ℕ → List ℕ → List ℕ
entry kind at bytes = kind ∷ (to_be_bytes w64 at ++ (to_be_bytes w64 (length bytes) ++ bytes))

-- the entry of a call
abbrev pub entry_of : Call → List ℕ
entry_of (wrote at bytes) = entry 1 at bytes
entry_of (cut_to len) = entry 2 len []
entry_of synced = entry 0 0 []

-- the entries of calls, newest first, which stand in the order of the calls
abbrev pub entries_of : List Call → List ℕ
entries_of [] = []
entries_of (call ∷ older) = entries_of older ++ entry_of call

-- each number of these calls fits eight bytes
abbrev pub AllFit : List Call → Type 0
AllFit [] = Unit {0}
AllFit (wrote at bytes ∷ older) = (at < 2 ^ 64) × (length bytes < 2 ^ 64) × AllFit older
AllFit (cut_to len ∷ older) = (len < 2 ^ 64) × AllFit older
AllFit (synced ∷ older) = AllFit older

-- the call of this kind
abbrev pub call_of : ℕ → ℕ → List ℕ → Call
call_of kind at bytes = if kind == 1 then wrote at bytes else if kind == 2 then cut_to at else synced

-- the calls of the entries, newest first, over those that came before; at most fuel entries are read
abbrev pub calls_over : List Call → ℕ → List ℕ → List Call
calls_over older zero bytes = older
calls_over older (suc fuel) [] = older
calls_over older (suc fuel) (kind ∷ rest) =
    let at = from_be_bytes w64 (take 8 rest) in
    let size = from_be_bytes w64 (take 8 (drop 8 rest)) in
    let behind = drop 16 rest in
    calls_over (call_of kind at (take size behind) ∷ older) fuel (drop size behind)

-- the calls that a log keeps, newest first
abbrev pub calls_of : List ℕ → List Call
calls_of bytes = calls_over [] (length bytes) bytes
