use Rattle.std.proofs.Common.{◌≡◌, List, subst}
use Rattle.std.specs.Prelude.{IfOk}
use Rattle.apd_term.specs.Term.{Term}
use Rattle.apd_index.specs.Retrieval.{has_general}
use Rattle.apd_index.proofs.Retrieval.{general-is}
use Rattle.apd_index.proofs.generals.Generals.has_general.Goals as goal

pub returns : goal.returns
returns c = subst (λ (xs : List Term). IfOk c.some_marked.result (λ b. b ≡ has_general xs c.args.atom.now)) c.self.view_is
    (general-is c.some_marked.result c.self.inside.atoms c.self.inside.places c.args.atom.now c.self.invariant c.some_marked.ensures)
