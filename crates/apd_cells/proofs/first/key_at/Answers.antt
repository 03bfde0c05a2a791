use Rattle.std.proofs.Common.{◌∙◌, sym, ap}
use Rattle.apd_cells.specs.First.{key_of}
use Rattle.apd_cells.proofs.Keys.{has_first, no_first}
use Rattle.apd_cells.proofs.first.key_at.Goals as goal

pub returns-then-arity_of-eq0 : goal.returns-then-arity_of-eq0
returns-then-arity_of-eq0 c =
    no_first c.args.heap.now c.follow-top.result c.symbol.result c.follow-top.ensures.store c.follow-top.ensures.inside c.follow-top.ensures.end
    c.symbol.ensures.symbol (sym c.arity_of.ensures ∙ c.if-arity_of-eq0.true)
    ∙ ap key_of c.follow-top.ensures.same

pub first_symbol-requires : goal.first_symbol-requires
first_symbol-requires c =
    (has_first c.args.heap.now c.follow-top.result c.symbol.result c.follow-top.ensures.store c.follow-top.ensures.inside
    c.symbol.ensures.symbol (λ z. c.if-arity_of-eq0.false (c.arity_of.ensures ∙ z))).inside

pub returns : goal.returns
returns c =
    c.first_symbol.ensures
    ∙ sym (has_first c.args.heap.now c.follow-top.result c.symbol.result c.follow-top.ensures.store c.follow-top.ensures.inside
    c.symbol.ensures.symbol (λ z. c.if-arity_of-eq0.false (c.arity_of.ensures ∙ z))).key
    ∙ ap key_of c.follow-top.ensures.same
