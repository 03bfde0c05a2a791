use Rattle.std.proofs.Common.{refl, inl, inr, arith}
use Rattle.apd_token.proofs.Pieces.{comment_scans, open_scans, graphic_scans, comment_front}
use Rattle.apd_token.proofs.found.graphic_at.Goals as goal

pub returns-in-Some : goal.returns-in-Some
returns-in-Some c = comment_scans _ _ _ c.if-begins_comment.ensures.yes c.in-Some.ensures.found

pub returns-in-None : goal.returns-in-None
returns-in-None c = open_scans _ _ c.if-begins_comment.ensures.yes c.if-begins_comment.ensures.room c.in-None.ensures.none

pub returns-then-is_end : goal.returns-then-is_end
returns-then-is_end c = let run = c.run_end-end.ensures in
    graphic_scans _ _ _ _ (omega arith) run.within c.requires.class (λ all. inr (refl, c.if-is_end.ensures.yes)) run.each run.stops c.if-begins_comment.ensures.no

pub returns-else-is_end : goal.returns-else-is_end
returns-else-is_end c = let run = c.run_end-end.ensures in
    graphic_scans _ _ _ _ (omega arith) run.within c.requires.class
    (λ all. inl (refl, record { graphic = all; no_comment = λ begun. c.if-begins_comment.ensures.no (comment_front c.args.text.now c.args.at c.run_end-end.result (omega arith) begun); no_end = c.if-is_end.ensures.no })) run.each run.stops c.if-begins_comment.ensures.no
