use Rattle.std.proofs.Common.{List, Some, subst, ap, ◌∙◌, ◌≡◌, ◌-◌, ◌<◌, ◌∷◌, arith, sym, reverse, length, drop, get_or}
use Rattle.std.proofs.lemmas.List.{length-map, length-reverse}
use Rattle.std.specs.Prelude.{slice_get}
use Rattle.apd_term.specs.Term.{Term, read_all}
use Rattle.apd_term.specs.declared.term.Sym.{Sym}
use Rattle.apd_term.specs.declared.term.Sym.TheVariants.{Var}
use Rattle.apd_intern.specs.Nodes.{terms_at, term_at, applied}
use Rattle.apd_intern.proofs.Subterms.{symbol_at, arity_fits, read_step, grown_step, put_terms, some_place, only_place}
use Rattle.apd_intern.proofs.terms.Terms.put.Goals as goal

pub put_symbol-requires-clause-enough : goal.put_symbol-requires-clause-enough
put_symbol-requires-clause-enough c =
    let k = c.symbols.k in
    let symbols = c.symbols-symbols.result.now in
    let x : Sym = get_or symbols (k - 1) (Var 0) in
    let d : drop (k - 1) symbols ≡ x ∷ drop k symbols = symbol_at symbols k (k - 1) (Var 0) (omega (arith, c.symbols-test.true)) c.symbols.invariant.within in
    let fits = arity_fits c.args.t.now symbols k (k - 1) x c.symbols-symbols.ensures d in
    omega (arith, fits, ap length c.symbols.invariant.terms, length-map (reverse c.symbols.places.items) (term_at c.symbols.self), length-reverse c.symbols.places.items)

pub symbols-preserved : goal.symbols-preserved
symbols-preserved c =
    let k = c.symbols.k in
    let symbols = c.symbols-symbols.result.now in
    let x : Sym = get_or symbols (k - 1) (Var 0) in
    let d : drop (k - 1) symbols ≡ x ∷ drop k symbols = symbol_at symbols k (k - 1) (Var 0) (omega (arith, c.symbols-test.true)) c.symbols.invariant.within in
    let below : k - 1 < length symbols = omega (arith, c.symbols-test.true, c.symbols.invariant.within) in
    record {
      within = omega (arith, c.symbols.invariant.within);
      there = c.in_ok-put_symbol.ensures.there;
      terms = c.in_ok-put_symbol.ensures.terms ∙ ap (applied x) c.symbols.invariant.terms ∙ sym (read_step x (drop k symbols)) ∙ ap read_all (sym d);
      grown = grown_step c.args.t.now symbols k (k - 1) x (terms_at c.symbols.self c.symbols.places.items) c.args.self.now c.symbols.self c.put_symbol.new.self c.symbols-symbols.ensures below d c.symbols.invariant.terms c.symbols.invariant.grown c.put_symbol.ensures.adds;
    }

pub returns-in_err-put_symbol-clause-grown : goal.returns-in_err-put_symbol-clause-grown
returns-in_err-put_symbol-clause-grown c =
    let k = c.symbols.k in
    let symbols = c.symbols-symbols.result.now in
    let x : Sym = get_or symbols (k - 1) (Var 0) in
    let d : drop (k - 1) symbols ≡ x ∷ drop k symbols = symbol_at symbols k (k - 1) (Var 0) (omega (arith, c.symbols-test.true)) c.symbols.invariant.within in
    let below : k - 1 < length symbols = omega (arith, c.symbols-test.true, c.symbols.invariant.within) in
    grown_step c.args.t.now symbols k (k - 1) x (terms_at c.symbols.self c.symbols.places.items) c.args.self.now c.symbols.self c.put_symbol.new.self c.symbols-symbols.ensures below d c.symbols.invariant.terms c.symbols.invariant.grown c.put_symbol.ensures.adds

pub index-place-requires : goal.index-place-requires
index-place-requires c =
    let is = put_terms c.args.t.now c.symbols-symbols.result.now c.symbols.k (terms_at c.symbols.self c.symbols.places.items) c.symbols-symbols.ensures c.symbols-test.false c.symbols.invariant.terms in
    omega (arith, some_place c.symbols.self c.symbols.places.items c.args.t.now is, c.symbols.places.ok.0)

pub returns-clause-place : goal.returns-clause-place
returns-clause-place c =
    let is = put_terms c.args.t.now c.symbols-symbols.result.now c.symbols.k (terms_at c.symbols.self c.symbols.places.items) c.symbols-symbols.ensures c.symbols-test.false c.symbols.invariant.terms in
    subst (λ (ts : List Term). slice_get ts c.index-place.result.now ≡ Some c.args.t.now) (sym c.self-2.view_is)
    (only_place c.symbols.self c.symbols.places.items c.args.t.now c.index-place.result.now is c.symbols.invariant.there c.index-place.ensures)
