use Rattle.std.proofs.Common.{◌+◌, get_or, ℕ, List, subst, sym}
use Rattle.apd_token.specs.Scan.{InBody}
use Rattle.apd_token.proofs.Escapes.{body_more}
use Rattle.apd_token.proofs.texts.unquoted.Goals as goal

pub elements-preserved : goal.elements-preserved
elements-preserved c =
    subst (λ (l : List ℕ). InBody c.args.text.now (c.args.at + 1) c.in-Some.next (get_or c.args.text.now c.args.at 0) l) (sym c.in_ok-push_value.ensures)
    (body_more _ _ _ _ _ _ _ c.elements.invariant c.in-Some.ensures.some)
