use Rattle.std.proofs.Common.{string_bytes, subst, rules}
use Rattle.erl_term.specs.Answers.{ReportsFault}
use Rattle.counted_io.specs.Prefixes.{AppendsPrefix}
use Rattle.erl_consult.specs.Listing.{Lists, IsReported}
use Rattle.erl_consult.specs.declared.error.ConsultError.TheVariants.{Fault}
use Rattle.erl_consult.proofs.ListLemmas.{begun_so, refused_so}
use Rattle.erl_consult.proofs.streams.consult.Goals as goal

pub returns-in_err-text-clause-refused : goal.returns-in_err-text-clause-refused
returns-in_err-text-clause-refused g c =
    let fault = c.in_err-text.field-0.0 in
    let is : ReportsFault 64 c.in_ok-bytes.bytes.items fault = subst (λ bytes. ReportsFault 64 bytes fault) c.deref.ensures.value c.in_err-text.ensures.fault in
    let refused : IsReported (g.R.Read.remaining c.args.reader.now.reader) (Fault fault) = refused_so _ c.in_ok-bytes.bytes.items fault c.in_ok-bytes.ensures.read is in
    search rules

pub returns-in_err-write-clause-prefix : goal.returns-in_err-write-clause-prefix
returns-in_err-write-clause-prefix g c = λ _.
    let held = g.W.Write.contents in
    let text = string_bytes c.in_ok-text.text in
    begun_so _ _ _ c.in_ok-bytes.bytes.items text c.in_ok-bytes.ensures.read
    (subst (λ bytes. Lists bytes text) c.deref.ensures.value c.in_ok-text.ensures.listed)
    (subst (λ written. AppendsPrefix (held c.args.writer.now.writer) (held c.write.new.self.writer) written) c.as_bytes.ensures.value c.in_err-write.ensures.prefix)
