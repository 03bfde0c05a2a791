use Rattle.std.proofs.Common.{◌≡◌, ◌↔◌, ◌-◌, List, ℕ, suc, sym, subst, arith}
use Rattle.std.proofs.lemmas.List.{take_rest}
use Rattle.apd_answers.specs.Findings.{AllDescendByReplies}
use Rattle.apd_loop.specs.Loop.{calls_in}
use Rattle.apd_loop.specs.Turning.{HasBoxes}
use Rattle.apd_check.proofs.Parts.{dropped-boxes, part-fails, part-first, part-goes, part-last, taken-boxes}
use Rattle.apd_check.proofs.judging.does_chain_descend.Goals as goal

pub do_calls_descend-requires : goal.do_calls_descend-requires
do_calls_descend-requires c = taken-boxes c.args.state.now.history c.parts.rest.now c.args.most c.parts.invariant.boxes

pub returns-then-not-branch : goal.returns-then-not-branch
returns-then-not-branch c =
    let next : c.args.most ≡ suc (c.args.most - 1) = omega (arith, c.requires.most) in
    part-fails c.in_ok-do_calls_descend.field-0 (part-first c.args.state.now.known c.args.state.now.history c.args.chain.now c.parts.rest.now c.args.most (c.args.most - 1) next c.parts.invariant.descend)
    c.in_ok-do_calls_descend.ensures c.if-not-branch.true

pub offset_bounds-rest-most : goal.offset_bounds-rest-most
offset_bounds-rest-most c = omega (arith, c.requires.few)

pub parts-preserved : goal.parts-preserved
parts-preserved c =
    let next : c.args.most ≡ suc (c.args.most - 1) = omega (arith, c.requires.most) in
    let is = take_rest c.parts.rest.now (c.args.most - 1) in
    record {
      boxes = subst (HasBoxes c.args.state.now.history) (sym is) (dropped-boxes c.args.state.now.history c.parts.rest.now (c.args.most - 1) c.parts.invariant.boxes);
      descend =
          subst (λ (r : List ℕ). AllDescendByReplies c.args.state.now.known (calls_in c.args.state.now.history c.args.chain.now) ↔ AllDescendByReplies c.args.state.now.known (calls_in c.args.state.now.history r)) (sym is)
          (part-goes c.in_ok-do_calls_descend.field-0 (part-first c.args.state.now.known c.args.state.now.history c.args.chain.now c.parts.rest.now c.args.most (c.args.most - 1) next c.parts.invariant.descend)
          c.in_ok-do_calls_descend.ensures c.if-not-branch.false);
    }

pub returns : goal.returns
returns c = part-last c.do_calls_descend-2.result c.parts.invariant.descend c.do_calls_descend-2.ensures
