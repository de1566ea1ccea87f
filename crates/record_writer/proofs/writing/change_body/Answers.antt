use Rattle.std.proofs.Common.{◌∙◌, ap, [], None}
use Rattle.rel_list.specs.Event.{event_of}
use Rattle.rel_records.specs.Record.{FileTerms, term_of}
use Rattle.rel_records.specs.Writing.{record_of}
use Rattle.rel_records.proofs.EventRecords.{reported_by_record}
use Rattle.record_writer.proofs.WritingLemmas.{change_spelled, where_ok}
use Rattle.rel_files.specs.Terms.{list_of}
use Rattle.record_writer.proofs.writing.change_body.Goals as goal

-- the record has no term of a file
any_files : FileTerms
any_files = record { rel = list_of []; relup = None }

pub returns-clause-spells : goal.returns-clause-spells
returns-clause-spells c =
    change_spelled c.body_of.result _ (event_of c.args.event.now) c.args.list.now any_files
    (c.in_ok-term.ensures any_files ∙ ap (λ es. term_of any_files (record_of (event_of c.args.event.now) es)) c.releases-releases.ensures.entries)
    c.requires.listed c.requires.allowed c.requires.versions c.body_of.ensures.read_back

pub returns-clause-reports : goal.returns-clause-reports
returns-clause-reports c = where_ok c.body_of.result (reported_by_record (event_of c.args.event.now) c.args.list.now (record { distinct = c.releases-releases.ensures.distinct; one_temporary = c.releases-releases.ensures.one_temporary }) c.requires.listed)
