use Rattle.std.proofs.Common.{◌≡◌, ◌∙◌, ap, arith, subst, sym}
use Rattle.apd_cells.specs.declared.heap.Binding.TheVariants.{Free}
use Rattle.apd_cells.specs.Store.{binding_of}
use Rattle.apd_past.specs.Done.{Done, with_span}
use Rattle.apd_past.specs.History.{bindings_of, AreSpans, IsJournal, IsRight}
use Rattle.apd_past.proofs.Bindings.{bindings_more, right_bound}
use Rattle.apd_past.proofs.Journals.{journal_bound}
use Rattle.apd_past.proofs.journal.Journal.bind.Goals as goal

pub invariant_of-self-in_default : goal.invariant_of-self-in_default
invariant_of-self-in_default c =
    let d = c.self.inside.spans in
    let v = c.in_ok-variable.variable in
    let free = subst (λ z. binding_of (bindings_of d) z ≡ Free) (sym c.in_ok-variable.ensures.number)
    (subst (λ (x : Done). binding_of (bindings_of x) c.args.v ≡ Free) (sym c.self.view_is) c.requires.free) in
    subst (λ (x : Done). IsJournal x c.push.new.self) (sym c.in_default.ensures.ok)
    (subst (λ vs. IsJournal (with_span d v c.in_ok-cell.cell) vs) (sym c.in_ok-push.ensures.ok)
    (journal_bound d c.self.inside.bound c.self.invariant v c.in_ok-cell.cell
    (omega (arith, c.requires.below, c.in_ok-variable.ensures.number, ap (λ (x : Done). x.variables) c.self.view_is)) free))

-- there is one more binding
made : (c : goal.In_default) → c.bind.new.self ≡ with_span c.args.self.now c.args.v c.args.to
made c =
    c.in_default.ensures.ok
    ∙ ap (λ z. with_span c.self.inside.spans z c.in_ok-cell.cell) c.in_ok-variable.ensures.number
    ∙ ap (λ z. with_span c.self.inside.spans c.args.v z) c.in_ok-cell.ensures.number
    ∙ ap (λ (x : Done). with_span x c.args.v c.args.to) c.self.view_is

pub returns-clause-bindings : goal.returns-clause-bindings
returns-clause-bindings c =
    ap bindings_of (made c)
    ∙ bindings_more c.args.self.now (subst (λ (x : Done). AreSpans x.moments x.spans) c.self.view_is c.self.invariant.spans) c.args.v c.args.to

pub returns-clause-right : goal.returns-clause-right
returns-clause-right c = λ cells n may r.
    subst (λ (x : Done). IsRight cells n x.spans) (sym (made c))
    (right_bound c.args.self.now (subst (λ (x : Done). AreSpans x.moments x.spans) c.self.view_is c.self.invariant.spans) c.args.v c.args.to cells n may r)
