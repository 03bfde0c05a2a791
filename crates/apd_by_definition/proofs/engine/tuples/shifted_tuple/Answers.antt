use Rattle.std.specs.List.{flat_map}
use Rattle.std.proofs.Common.{subst}
use Rattle.apd_term.specs.Term.{variables, IsAmong}
use Rattle.apd_term.proofs.Among.{IsAmong-left, IsAmong-right}
use Rattle.apd_by_definition.proofs.engine.tuples.shifted_tuple.Goals as goal

pub shifted-requires : goal.shifted-requires
shifted-requires c = λ v o. c.requires v (IsAmong-left (variables c.args.t.now.head) (flat_map variables c.args.t.now.body) v o)

pub shifted_terms-requires : goal.shifted_terms-requires
shifted_terms-requires c =
    λ v o. c.requires v (IsAmong-right (variables c.args.t.now.head) (flat_map variables c.args.t.now.body) v (subst (λ ts. IsAmong (flat_map variables ts) v) c.as_slice.ensures o))
