use Rattle.std.proofs.Common.{refl, ◌∙◌}
use Rattle.apd_term.specs.declared.term.Sym.TheVariants.{Var}
use Rattle.apd_claims.proofs.Commas.{Going-end, Going-more, Going-start}
use Rattle.apd_term.specs.declared.standard.TheConstants.{COMMA}
use Rattle.apd_term.proofs.Paired.{pair_is, pair_tail}
use Rattle.apd_claims.proofs.entries.goals_in.Goals as goal

pub commas-init : goal.commas-init
commas-init c = rw c.new-goals.ensures (Going-start c.args.body.now c.symbols-symbols.result.now c.symbols-symbols.ensures)

pub piece_at-requires-clause-whole : goal.piece_at-requires-clause-whole
piece_at-requires-clause-whole c = pair_tail COMMA c.symbols-symbols.result.now c.commas.at (Var 0) c.commas.invariant.whole c.commas.invariant.there (c.commas-test.ensures.0 refl)

pub commas-preserved : goal.commas-preserved
commas-preserved c =
    let pair = pair_is COMMA c.symbols-symbols.result.now c.commas.at (Var 0) c.commas.invariant.whole c.commas.invariant.there (c.commas-test.ensures.0 refl) c.term_end-end.result c.term_end-end.ensures.end in
    rw c.in_ok-push.ensures.ok (Going-more c.args.body.now c.symbols-symbols.result.now c.commas.goals c.commas.at c.term_end-end.result c.in_ok-piece_at.field-0 c.commas.invariant pair c.in_ok-piece_at.ensures)

pub returns : goal.returns
returns c =
    c.in_ok-push-2.ensures.ok
    ∙ Going-end c.args.body.now c.symbols-symbols.result.now c.commas.goals c.commas.at (Var 0) c.in_ok-piece_at-2.field-0 c.commas.invariant (λ e. absurd (let f = c.commas-test.ensures.1 e in cc)) c.in_ok-piece_at-2.ensures
