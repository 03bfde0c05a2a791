use Rattle.std.proofs.Common.{◌∙◌, ap, drop, subst, sym}
use Rattle.apd_past.specs.Done.{Done}
use Rattle.apd_past.specs.History.{bindings_of, IsNewestBound}
use Rattle.apd_past.proofs.Journals.{journal_first, journal_none}
use Rattle.apd_past.proofs.journal.Journal.newest.Goals as goal

pub returns-in-None : goal.returns-in-None
returns-in-None c = sym (ap bindings_of c.self.view_is) ∙ journal_none c.self.inside.spans c.self.inside.bound c.self.invariant c.in-None.ensures

pub returns-in-Some : goal.returns-in-Some
returns-in-Some c =
    let f = journal_first c.self.inside.spans c.self.inside.bound c.self.invariant c.in-Some.variable.now (drop 1 c.self.inside.bound) c.in-Some.ensures in
    subst (λ (d : Done). IsNewestBound c.in-Some.variable.now (bindings_of d)) c.self.view_is (f.cell, f.is)
