use Rattle.std.proofs.Common.{List, sym, subst, true}
use Rattle.apd_token.specs.Scan.{Scans}
use Rattle.apd_token.specs.declared.items.Token.{Token}
use Rattle.apd_token.specs.declared.found.Found.{Found}
use Rattle.apd_token.proofs.Reading.{ReadTo, passed, item, fault, start, is_fault}
use Rattle.apd_token.proofs.scanner.tokens.Goals as goal

pub pieces-preserved-in-Passed : goal.pieces-preserved-in-Passed
pieces-preserved-in-Passed c =
    passed _ _ _ _ _ c.pieces.invariant (subst (λ (w : Found). Scans c.args.text.now c.pieces.at w c.piece_at-what.result.1) c.in-Passed.is c.piece_at-what.ensures)

pub pieces-preserved : goal.pieces-preserved
pieces-preserved c =
    subst (λ (ts : List Token). ReadTo c.args.text.now ts c.piece_at-what.result.1 _) (sym c.in_ok-push-in-Item.ensures.ok)
    (item _ _ _ _ _ _ c.pieces.invariant (subst (λ (w : Found). Scans c.args.text.now c.pieces.at w c.piece_at-what.result.1) c.in-Item.is c.piece_at-what.ensures))

pub returns-in-Bad-clause-err : goal.returns-in-Bad-clause-err
returns-in-Bad-clause-err c =
    is_fault _ _ c.in-Ok.ensures.cases.1
    (fault _ _ _ _ _ _ c.pieces.invariant (subst (λ (w : Found). Scans c.args.text.now c.pieces.at w c.piece_at-what.result.1) c.in-Bad.is c.piece_at-what.ensures))

pub pieces-init : goal.pieces-init
pieces-init c = subst (λ (ts : List Token). ReadTo c.args.text.now ts c.lead_end-at.result true) (sym c.new-out.ensures) (start _ _ c.lead_end-at.ensures)
