use Rattle.std.proofs.Common.{List, ◌+◌, ◌++◌, ◌∙◌, ap, length, vec_len}
use Rattle.apd_divide.specs.declared.growing.PendingCall.{PendingCall}
use Rattle.apd_divide.specs.Growing.{stacked}
use Rattle.apd_divide.proofs.Grown.{exit_there}
use Rattle.apd_divide.proofs.Referring.{ground_calls, ground_done, ground_instance, ground_solved}
use Rattle.apd_divide.proofs.growing.open_recorded.Goals as goal

pub of_exit-goals-requires : goal.of_exit-goals-requires
of_exit-goals-requires c = exit_there c.args.recorded.now c.args.next.now.exit.0 c.args.next.now.label c.requires.labelled

pub push_calls-requires-clause-there : goal.push_calls-requires-clause-there
push_calls-requires-clause-there c = exit_there c.args.recorded.now c.args.next.now.exit.0 c.args.next.now.label c.requires.labelled

pub push_calls-requires-clause-solved : goal.push_calls-requires-clause-solved
push_calls-requires-clause-solved c = ground_done c.args.recorded.now c.requires.kept c.args.next.now.exit.0 c.args.next.now.label c.args.pred c.of_exit-goals.result c.requires.labelled c.requires.exit c.of_exit-goals.ensures

pub push_calls-requires-clause-by : goal.push_calls-requires-clause-by
push_calls-requires-clause-by c = ground_solved c.args.recorded.now c.requires.kept c.args.next.now.exit.0 c.args.next.now.label c.args.pred c.of_exit-goals.result c.requires.labelled c.requires.exit c.of_exit-goals.ensures

pub of_exit-requires-clause-there : goal.of_exit-requires-clause-there
of_exit-requires-clause-there c = exit_there c.args.recorded.now c.args.next.now.exit.0 c.args.next.now.label c.requires.labelled

pub returns : goal.returns
returns c =
    let calls = ground_calls c.args.recorded.now c.args.next.now.exit.0 c.args.next.now.label c.args.pred c.of_exit-goals.result c.requires.exit c.of_exit-goals.ensures in
    record {
      tuple = c.of_exit.ensures ∙ ground_instance c.args.recorded.now c.args.next.now.exit.0 c.args.next.now.label c.args.pred c.requires.exit;
      pending = c.in_ok-push_calls.ensures.calls ∙ ap (λ (xs : List PendingCall). c.args.pending.now.items ++ stacked xs) calls;
      len = c.in_ok-push_calls.ensures.len ∙ ap (λ (xs : List PendingCall). vec_len c.args.pending.now + length xs) calls;
    }
