use Rattle.std.proofs.Common.{ap, ◌∙◌, ◌++◌, length}
use Rattle.apd_intern.proofs.Listed.{written_behind}
use Rattle.apd_intern.proofs.term_list.write.Goals as goal

pub returns-clause-spot : goal.returns-clause-spot
returns-clause-spot c shared =
    written_behind c.args.symbols.now.items c.extend_from_slice.new.self.items shared _ _ c.args.t.now
    (c.in_ok-extend_from_slice.ensures.items ∙ ap (λ cs. c.args.symbols.now.items ++ cs) c.symbols-more.ensures) (c.len-from.ensures ∙ c.args.symbols.now.ok.0) (ap length c.symbols-more.ensures)
