use Rattle.std.proofs.Common.{◌≡◌, true, false, sym, ◌∙◌}
use Rattle.apd_loop.proofs.Diagnosing.{atom-is}
use Rattle.apd_findings.specs.Calling.{IsBox}
use Rattle.apd_check.proofs.Callers.{call-wanted, none-boxed}
use Rattle.apd_check.proofs.calls.is_found.Goals as goal

pub returns-then-not-is_box-clause-found : goal.returns-then-not-is_box-clause-found
returns-then-not-is_box-clause-found c = λ n grew reader.
    let out : ¬ IsBox c.args.state.now.history c.args.call.now.calling.caller = λ b. (let e : true ≡ false = sym (c.is_box.ensures.1 b) ∙ c.if-not-is_box.true in absurd (cc)) in
    (λ no. absurd (cc), λ f. absurd (none-boxed reader c.args.source.now.ops.now c.args.call.now c.args.source.now.program.now c.args.state.now f.0 c.is_kept.ensures out f.1))

pub is_found-requires : goal.is_found-requires
is_found-requires c =
    let b : IsBox c.args.state.now.history c.args.call.now.calling.caller = c.is_box.ensures.0 c.if-not-is_box.false in
    call-wanted c.args.source.now.ops.now c.args.names.now c.args.state.now.history c.args.call.now.calling.caller c.in_ok-atom.atom c.in_ok-wanted.wanted
    (atom-is c.args.state.now.history c.args.call.now.calling.caller c.in_ok-atom.atom b.0 b.1 c.in_ok-atom.ensures) c.in_ok-wanted.ensures
