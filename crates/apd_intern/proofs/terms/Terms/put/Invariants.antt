use Rattle.std.proofs.Common.{◌≡◌, ◌≤◌, length, drop, reverse}
use Rattle.apd_term.specs.Term.{read_all}
use Rattle.apd_intern.specs.Nodes.{AreThere, terms_at}
use Rattle.apd_intern.specs.Subterms.{GrowsBySubterms}
use Rattle.apd_intern.proofs.terms.Terms.put.Given as goal

abbrev pub invariant-symbols : goal.invariant-symbols
invariant-symbols l =
    record {
      within : l.k ≤ length l.symbols;
      there : AreThere l.self (reverse l.places.items);
      terms : terms_at l.self l.places.items ≡ read_all (drop l.k l.symbols);
      grown : GrowsBySubterms l.t l.fn.self l.self;
    }

abbrev pub decreases-symbols : goal.decreases-symbols
decreases-symbols l = l.k
