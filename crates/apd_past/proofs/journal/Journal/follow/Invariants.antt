use Rattle.apd_cells.specs.Live.{store_of}
use Rattle.apd_past.specs.Follows.{MayFollow}
use Rattle.apd_past.specs.History.{HasDoneMore}
use Rattle.apd_past.proofs.journal.Journal.follow.Given as goal

abbrev pub invariant-notes : goal.invariant-notes
invariant-notes l = record {
  may : MayFollow l.self (store_of l.live) l.at;
  more : HasDoneMore l.fn.self l.self;
}
