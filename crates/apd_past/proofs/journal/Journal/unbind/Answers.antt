use Rattle.std.proofs.Common.{◌≡◌, ◌∙◌, [], ap, drop, subst, sym}
use Rattle.apd_past.specs.Done.{Done, with_freed}
use Rattle.apd_past.specs.History.{bindings_of, freed, AreSpans, HasDoneMore, IsJournal, IsRight}
use Rattle.apd_past.proofs.Bindings.{done_same}
use Rattle.apd_past.proofs.Journals.{freed_bindings, freed_more, freed_none, freed_right, journal_below, journal_freed, journal_left, journal_none, left_of}
use Rattle.apd_past.proofs.journal.Journal.unbind.Goals as goal

none_bound : (c : goal.In_default) → bindings_of c.args.self.now ≡ []
none_bound c = ap bindings_of (sym c.self.view_is) ∙ journal_none c.self.inside.spans c.self.inside.bound c.self.invariant c.in_default.ensures

pub returns-in_default-clause-ok : goal.returns-in_default-clause-ok
returns-in_default-clause-ok c = sym (freed_none c.args.self.now (none_bound c))

pub returns-in_default-clause-bindings : goal.returns-in_default-clause-bindings
returns-in_default-clause-bindings c = none_bound c ∙ sym (ap (drop 1) (none_bound c))

pub returns-in_default-clause-more : goal.returns-in_default-clause-more
returns-in_default-clause-more c = done_same c.args.self.now

pub free-requires : goal.free-requires
free-requires c = journal_below c.self.inside.spans c.self.inside.bound c.self.invariant c.in-Some.variable.now (drop 1 c.self.inside.bound) c.in-Some.ensures

pub invariant_of-self-2 : goal.invariant_of-self-2
invariant_of-self-2 c =
    let d = c.self.inside.spans in
    let v = c.in-Some.variable.now in
    let vs = drop 1 c.self.inside.bound in
    subst (λ (x : Done). IsJournal x c.pop.new.self) (sym c.in_ok-free.ensures.ok)
    (subst (λ xs. IsJournal (with_freed d v) xs) (sym (left_of c.pop.result c.self.inside.bound c.pop.new.self v vs c.pop.ensures c.in-Some.ensures))
    (journal_left d c.self.inside.bound c.self.invariant v vs c.in-Some.ensures))

-- it is freed
made : (c : goal.After-pop) → c.free.new.self ≡ freed c.args.self.now
made c =
    c.in_ok-free.ensures.ok
    ∙ journal_freed c.self.inside.spans c.self.inside.bound c.self.invariant c.in-Some.variable.now (drop 1 c.self.inside.bound) c.in-Some.ensures
    ∙ ap freed c.self.view_is

pub returns-clause-ok : goal.returns-clause-ok
returns-clause-ok c = made c

pub returns-clause-bindings : goal.returns-clause-bindings
returns-clause-bindings c =
    ap bindings_of (made c) ∙ freed_bindings c.args.self.now (subst (λ (d : Done). AreSpans d.moments d.spans) c.self.view_is c.self.invariant.spans)

pub returns-clause-right : goal.returns-clause-right
returns-clause-right c = λ cells n r.
    subst (λ (x : Done). IsRight cells n x.spans) (sym (made c))
    (freed_right c.args.self.now (subst (λ (d : Done). AreSpans d.moments d.spans) c.self.view_is c.self.invariant.spans) cells n r)

pub returns-clause-more : goal.returns-clause-more
returns-clause-more c = subst (HasDoneMore c.args.self.now) (sym (made c)) (freed_more c.args.self.now)
