use Rattle.apd_past.proofs.Journals.{journal_more}
use Rattle.apd_past.proofs.journal.Journal.make_room.Goals as goal

pub invariant_of-self : goal.invariant_of-self
invariant_of-self c =
    journal_more c.self.inside.spans c.self.inside.bound c.self.invariant c.make_room.new.self c.make_room.ensures.moments c.make_room.ensures.spans c.make_room.ensures.more
