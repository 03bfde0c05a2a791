use Rattle.apd_past.proofs.Journals.{journal_more}
use Rattle.apd_past.proofs.journal.Journal.add_variables.Goals as goal

pub invariant_of-self : goal.invariant_of-self
invariant_of-self c =
    journal_more c.self.inside.spans c.self.inside.bound c.self.invariant c.add_variables.new.self c.add_variables.ensures.moments c.add_variables.ensures.spans c.add_variables.ensures.more
