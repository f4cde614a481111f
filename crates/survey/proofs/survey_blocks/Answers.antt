-- `survey::survey_blocks` meets its contract. Assumes nothing.
use borrow.Author.Rules.{rules}
use Rattle.record_octets.specs.Record.{blocks_in}
use Rattle.survey.proofs.survey_blocks.Goals as goal

pub survey_entries-requires : goal.survey_entries-requires
survey_entries-requires c = (c.requires.0, search rules)

pub returns : goal.returns
unfolding blocks_in
returns c = record { fields = rw c.load_word-count.ensures at c.survey_entries.ensures.fields; found = rw c.load_word-count.ensures at c.survey_entries.ensures.found }
