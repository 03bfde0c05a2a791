use Rattle.apd_unify.proofs.Solving.{may_bind_down, bound_left, eliminated_swapped}
use Rattle.apd_unify.proofs.unify.solve_variables.Goals as goal

pub bind-requires : goal.bind-requires
bind-requires c =
    may_bind_down c.args.heap.now c.args.w c.args.v c.args.b c.args.a c.requires.store c.requires.right.inside c.requires.left.inside c.requires.right.is c.requires.left.is c.requires.right.free c.requires.left.free c.if-v-w.true

pub returns-then-v-w-clause-ok : goal.returns-then-v-w-clause-ok
returns-then-v-w-clause-ok c =
    eliminated_swapped c.args.heap.now c.bind.new.self c.args.b c.args.a
    (bound_left c.args.heap.now c.bind.new.self c.args.w c.args.v c.args.b c.args.a c.requires.right.inside c.requires.left.inside c.requires.right.is c.requires.left.is c.requires.right.free c.requires.left.free c.if-v-w.true c.in_ok-bind.ensures.ok)

pub bind-requires-then-w-v : goal.bind-requires-then-w-v
bind-requires-then-w-v c =
    may_bind_down c.args.heap.now c.args.v c.args.w c.args.a c.args.b c.requires.store c.requires.left.inside c.requires.right.inside c.requires.left.is c.requires.right.is c.requires.left.free c.requires.right.free c.if-w-v.true

pub returns-then-w-v-clause-ok : goal.returns-then-w-v-clause-ok
returns-then-w-v-clause-ok c =
    bound_left c.args.heap.now c.bind-then-w-v.new.self c.args.v c.args.w c.args.a c.args.b c.requires.left.inside c.requires.right.inside c.requires.left.is c.requires.right.is c.requires.left.free c.requires.right.free c.if-w-v.true c.in_ok-bind-2.ensures.ok
