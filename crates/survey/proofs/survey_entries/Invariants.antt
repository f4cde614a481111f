-- `survey::survey_entries` meets its contract. The invariant: the blocks so far are legal, and what they show. Assumes nothing.
use Rattle.record_octets.specs.Record.{blocks_of}
use Rattle.survey.proofs.Surveys.{Surveyed}
use Rattle.survey.proofs.survey_entries.Given as goal

abbrev pub invariant-loop-i : goal.invariant-loop-i
invariant-loop-i l = Surveyed l.version l.x l.alone.0 l.initial.found.seen.left.0 l.initial.found.end.0 l.count (blocks_of l.list l.held).list l.found.seen l.found.end.0 l.i
