-- What was read and written, as the contract says it.
use Rattle.std.proofs.Common.{ℕ, List, Option, Some, None, subst}
use Rattle.counted_io.specs.Prefixes.{AppendsPrefix}
use Rattle.erl_term.specs.Answers.{ReportsFault}
use Rattle.erl_term.specs.TermFault.{TermFault}
use Rattle.erl_consult.specs.Listing.{IsShort, Lists, HasRead, HasBegun, IsReported}
use Rattle.erl_consult.specs.declared.error.ConsultError.TheVariants.{Fault}

-- a prefix of the listing of what was read is one of that of the reader's text
pub begun_so : (known old new : Option (List ℕ)) (bytes text : List ℕ) → HasRead known bytes → Lists bytes text → AppendsPrefix old new text → HasBegun known old new
begun_so None old new bytes text read lists a = tt
begun_so (Some all) old new bytes text (short, same) lists a = subst (λ xs. HasBegun (Some xs) old new) same (text, short, lists, a)

-- and so is its fault
pub refused_so : (known : Option (List ℕ)) (bytes : List ℕ) (f : TermFault) → HasRead known bytes → ReportsFault 64 bytes f → IsReported known (Fault f)
refused_so None bytes f read is = λ n. tt
refused_so (Some all) bytes f (short, same) is = λ n. subst (λ xs. IsShort xs × ReportsFault 64 xs f) same (short, is)
