use Rattle.std.proofs.Common.{map, string_bytes, inl}
use Rattle.relup_file.specs.Relup.{relup_of}
use Rattle.relup_command.proofs.AnswerLemmas.{fault_answered, fault_read_back, made_read_back}
use Rattle.relup_command.proofs.answer.relup_answer.Goals as goal

pub returns-in_ok-relup_lines-in-Ok-clause-read_back : goal.returns-in_ok-relup_lines-in-Ok-clause-read_back
returns-in_ok-relup_lines-in-Ok-clause-read_back g c =
    made_read_back (g.F.Files.gives c.args.files.now) c.args.new.now (map string_bytes c.args.ups.now) (map string_bytes c.args.downs.now) (relup_of c.in-Ok.relup) _
    c.in_ok-relup_lines-in-Ok.ensures.read_back c.in_ok-relup_lines-in-Ok.ensures.lines c.in-Ok.ensures.made

pub returns-in_ok-fault_line-in-Err-Appups-clause-answered : goal.returns-in_ok-fault_line-in-Err-Appups-clause-answered
returns-in_ok-fault_line-in-Err-Appups-clause-answered g c =
    fault_answered (g.F.Files.gives c.args.files.now) c.args.new.now (map string_bytes c.args.ups.now) (map string_bytes c.args.downs.now) c.in-Err-Appups.why _
    (λ same. cc (c.in_ok-fault_line-in-Err-Appups.ensures.memory same)) c.in_ok-fault_line-in-Err-Appups.ensures.reported (rw c.in-Err-Appups.field-0-is at c.in-Err-Appups.ensures.refused)

pub returns-in_ok-fault_line-in-Err-Appups-clause-read_back : goal.returns-in_ok-fault_line-in-Err-Appups-clause-read_back
returns-in_ok-fault_line-in-Err-Appups-clause-read_back g c =
    fault_read_back (g.F.Files.gives c.args.files.now) c.args.new.now (map string_bytes c.args.ups.now) (map string_bytes c.args.downs.now) c.in-Err-Appups.why _
    (λ same. cc (c.in_ok-fault_line-in-Err-Appups.ensures.memory same)) c.in_ok-fault_line-in-Err-Appups.ensures.reported (rw c.in-Err-Appups.field-0-is at c.in-Err-Appups.ensures.refused)

pub returns-in-Err-Files-clause-answered : goal.returns-in-Err-Files-clause-answered
returns-in-Err-Files-clause-answered g c = λ known. inl ((rw c.in-Err-Files.field-0-is at c.in-Err-Files.ensures.refused) known)
