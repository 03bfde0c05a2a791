use Rattle.std.proofs.Common.{length, ap, sym, ◌∙◌, arith, ◌≡◌}
use Rattle.indexmap.specs.IndexMap.{keys}
use Rattle.apd_intern.proofs.Decoding.{length-decoded}
use Rattle.apd_intern.proofs.terms.Terms.get.Goals as goal

pub overflow_cast-id : goal.overflow_cast-id
overflow_cast-id c =
    let n : length (keys c.self.inside.nodes) ≡ length c.args.self.now = sym (length-decoded (keys c.self.inside.links) (keys c.self.inside.nodes)) ∙ ap length c.self.view_is in
    omega (arith, n, c.requires, c.self.invariant.few)

pub spelled-requires-clause-place : goal.spelled-requires-clause-place
spelled-requires-clause-place c =
    let n : length (keys c.self.inside.nodes) ≡ length c.args.self.now = sym (length-decoded (keys c.self.inside.links) (keys c.self.inside.nodes)) ∙ ap length c.self.view_is in
    omega (arith, n, c.requires, ap length (c.as_slice.ensures ∙ c.keys.ensures.rest))
