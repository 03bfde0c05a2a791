use Rattle.std.proofs.Common.{length, ap, sym, ◌∙◌, subst}
use Rattle.std.proofs.lemmas.Map.Entries.{length-keys_of}
use Rattle.indexmap.specs.IndexMap.{keys}
use Rattle.apd_intern.specs.Subterms.{HaveEarlierArguments}
use Rattle.apd_intern.proofs.Decoding.{length-decoded}
use Rattle.apd_intern.proofs.Subterms.{arguments_earlier}
use Rattle.apd_intern.proofs.terms.Terms.count.Goals as goal

pub returns-clause-count : goal.returns-clause-count
returns-clause-count c = c.len.ensures.len ∙ sym (length-keys_of c.self.inside.nodes.entries) ∙ sym (length-decoded (keys c.self.inside.links) (keys c.self.inside.nodes)) ∙ ap length c.self.view_is

pub returns-clause-arguments : goal.returns-clause-arguments
returns-clause-arguments c = subst HaveEarlierArguments c.self.view_is (arguments_earlier (keys c.self.inside.links) (keys c.self.inside.nodes) c.self.invariant)
