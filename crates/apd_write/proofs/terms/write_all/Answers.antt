use Rattle.std.proofs.Common.{◌≡◌, ℕ, ◌+◌, List, [], ◌∷◌, ◌++◌, drop, get_or, rules, subst, sym}
use Rattle.std.specs.Prelude.{Option, Some, None}
use Rattle.std.proofs.lemmas.List.{drop_more}
use Rattle.apd_ops.specs.Table.{Table}
use Rattle.apd_term.specs.Term.{read_all, term_of}
use Rattle.apd_term.specs.declared.term.Sym.{Sym}
use Rattle.apd_term.specs.declared.term.Sym.TheVariants.{Var}
use Rattle.apd_term.proofs.Spelling.{IsTerms-tail}
use Rattle.apd_write.specs.Pending.{Stands}
use Rattle.apd_write.specs.Writing.{written}
use Rattle.apd_write.specs.declared.pending.TermPlace.{TermPlace}
use Rattle.apd_write.proofs.Standing.{Standing, Standing-start}
use Rattle.apd_write.proofs.terms.write_all.Goals as goal

pub symbols-init : goal.symbols-init
symbols-init c =
    let no_frames : c.clear.new.self.items ≡ [] = search rules in
    rw no_frames (Standing-start c.args.ops.now c.args.names.now c.args.max c.args.out.now c.args.symbols.now c.requires)

pub returns-in-None : goal.returns-in-None
returns-in-None c =
    let ops : Table = c.args.ops.now in
    let names : List (List ℕ) = c.args.names.now in
    let symbols : List Sym = c.args.symbols.now in
    let whole : List ℕ = c.args.out.now ++ written ops names (term_of symbols) c.args.max in
    let x : Sym = get_or symbols c.symbols.symbol-index (Var 0) in
    let rest : List Sym = drop (c.symbols.symbol-index + 1) symbols in
    let here : Standing ops names whole c.symbols.frames.items c.symbols.out c.symbols.place (x ∷ rest) =
    subst (λ (s : List Sym). Standing ops names whole c.symbols.frames.items c.symbols.out c.symbols.place s) (drop_more symbols c.symbols.symbol-index (Var 0) c.symbols-test.true) c.symbols.invariant in
    let stands : Stands ops names whole c.write_next.new.frames.items c.write_next.new.out None (read_all rest) =
    subst (λ (o : Option TermPlace). Stands ops names whole c.write_next.new.frames.items c.write_next.new.out o (read_all rest)) c.in-None.is (c.in_ok-next.ensures whole rest here.terms here.expects) in
    sym stands

pub symbols-preserved : goal.symbols-preserved
symbols-preserved c =
    let ops : Table = c.args.ops.now in
    let names : List (List ℕ) = c.args.names.now in
    let symbols : List Sym = c.args.symbols.now in
    let whole : List ℕ = c.args.out.now ++ written ops names (term_of symbols) c.args.max in
    let x : Sym = get_or symbols c.symbols.symbol-index (Var 0) in
    let rest : List Sym = drop (c.symbols.symbol-index + 1) symbols in
    let here : Standing ops names whole c.symbols.frames.items c.symbols.out c.symbols.place (x ∷ rest) =
    subst (λ (s : List Sym). Standing ops names whole c.symbols.frames.items c.symbols.out c.symbols.place s) (drop_more symbols c.symbols.symbol-index (Var 0) c.symbols-test.true) c.symbols.invariant in
    let stands : Stands ops names whole c.write_next.new.frames.items c.write_next.new.out (Some c.in-Some.next) (read_all rest) =
    subst (λ (o : Option TermPlace). Stands ops names whole c.write_next.new.frames.items c.write_next.new.out o (read_all rest)) c.in-Some.is (c.in_ok-next.ensures whole rest here.terms here.expects) in
    record { terms = IsTerms-tail x rest here.terms; expects = stands }
