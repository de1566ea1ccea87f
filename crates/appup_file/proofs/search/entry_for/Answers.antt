use Rattle.std.proofs.Common.{◌≡◌, ◌<◌, ℕ, suc, true, List, ◌∷◌, String, string_bytes, Vec, Global, Ok, Err, length, map, get_or, drop, drop-cons, sym, ap, ◌∙◌}
use Rattle.std.specs.Str.{bytes_eq}
use Rattle.appup_file.specs.declared.appup.AppupEntry.{AppupEntry}
use Rattle.appup_file.specs.declared.appup.OtherVersion.TheVariants.{Text, Pattern}
use Rattle.appup_file.specs.declared.search.EntryFault.TheVariants.{RegexVersion}
use Rattle.appup_file.specs.Instruction.{row_of, entry_of, AppupEntryForm}
use Rattle.appup_file.specs.Search.{entry_for}
use Rattle.appup_file.proofs.search.entry_for.Goals as goal

-- the search as far as it has come, from this entry on
from_here : (vsn : List ℕ) (es : List AppupEntry) (i : ℕ) (e : AppupEntry) → i < length es → e ≡ get_or es i e → entry_for vsn (map entry_of (drop i es)) ≡ entry_for vsn (map entry_of es)
    → entry_for vsn (entry_of e ∷ map entry_of (drop (suc i) es)) ≡ entry_for vsn (map entry_of es)
from_here vsn es i e within at so_far =
    sym (ap (λ rest. entry_for vsn (map entry_of rest)) (drop-cons es i e within ∙ ap (λ x. x ∷ drop (suc i) es) (sym at))) ∙ so_far

ends_at_pattern : (vsn : List ℕ) (e : AppupEntry) (v : Vec ℕ Global) (rest : List AppupEntryForm) → e.vsn ≡ Pattern v → Err RegexVersion ≡ entry_for vsn (entry_of e ∷ rest)
ends_at_pattern vsn e v rest is = rw is

ends_at_text : (vsn : List ℕ) (e : AppupEntry) (s : String Global) (rest : List AppupEntryForm) → e.vsn ≡ Text s → true ≡ bytes_eq (string_bytes s) vsn
    → Ok (row_of e.instrs.items) ≡ entry_for vsn (entry_of e ∷ rest)
ends_at_text vsn e s rest is same = rw (is, ← same)

pub returns-in-Pattern : goal.returns-in-Pattern
returns-in-Pattern c =
    ends_at_pattern c.args.vsn.now c.entry-item.result c.in-Pattern.field-0 _ c.in-Pattern.is
    ∙ from_here c.args.vsn.now c.args.entries.now c.loop-entry.entry-index c.entry-item.result c.loop-entry-test.true c.entry-item.is c.loop-entry.invariant

pub returns-then-eq : goal.returns-then-eq
returns-then-eq c =
    ap (λ row. Ok (row_of row)) c.deref.ensures.value
    ∙ ends_at_text c.args.vsn.now c.entry-item.result c.in-Text.other _ c.in-Text.is (rw (← c.as_str.ensures.value) c.if-eq.ensures)
    ∙ from_here c.args.vsn.now c.args.entries.now c.loop-entry.entry-index c.entry-item.result c.loop-entry-test.true c.entry-item.is c.loop-entry.invariant
