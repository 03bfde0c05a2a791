use Rattle.std.proofs.Common.{List, ◌+◌, ◌++◌, ◌∙◌, sym, ap, subst, length, vec_len}
use Rattle.apd_term.specs.declared.tuple.Tuple.{Tuple}
use Rattle.apd_record.specs.Reading.{exits_to}
use Rattle.apd_divide.specs.declared.growing.PendingCall.{PendingCall}
use Rattle.apd_divide.specs.Solved.{AreSolved}
use Rattle.apd_divide.specs.Growing.{calls_for, stacked}
use Rattle.apd_divide.proofs.Grown.{exit_there, instance_done, instance_solved}
use Rattle.apd_divide.proofs.growing.keep_made.Goals as goal

pub push_calls-requires-clause-there : goal.push_calls-requires-clause-there
push_calls-requires-clause-there c = exit_there c.args.recorded.now c.args.next.now.exit.0 c.args.next.now.label c.requires.labelled

pub push_calls-requires-clause-solved : goal.push_calls-requires-clause-solved
push_calls-requires-clause-solved c =
    ap length (c.of_atoms-goals.ensures ∙ c.as_slice.ensures ∙ ap (λ (t : Tuple). t.body) c.requires.made) ∙ instance_done c.args.recorded.now c.requires.kept c.args.next.now.exit.0 c.args.next.now.label c.requires.labelled

pub push_calls-requires-clause-by : goal.push_calls-requires-clause-by
push_calls-requires-clause-by c =
    subst (λ ts. AreSolved c.args.recorded.now c.args.next.now.exit.0 ts (exits_to c.args.recorded.now c.args.next.now.exit.0)) (sym (c.of_atoms-goals.ensures ∙ c.as_slice.ensures ∙ ap (λ (t : Tuple). t.body) c.requires.made))
    (instance_solved c.args.recorded.now c.requires.kept c.args.next.now.exit.0 c.args.next.now.label c.requires.labelled)

pub returns : goal.returns
returns c =
    let calls = ap (λ ts. calls_for ts (exits_to c.args.recorded.now c.args.next.now.exit.0)) (c.of_atoms-goals.ensures ∙ c.as_slice.ensures ∙ ap (λ (t : Tuple). t.body) c.requires.made) in
    record {
      tuple = c.in_ok-kept.ensures ∙ c.requires.made;
      pending = c.in_ok-push_calls.ensures.calls ∙ ap (λ (xs : List PendingCall). c.args.pending.now.items ++ stacked xs) calls;
      len = c.in_ok-push_calls.ensures.len ∙ ap (λ (xs : List PendingCall). vec_len c.args.pending.now + length xs) calls;
    }
