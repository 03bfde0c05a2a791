use Rattle.std.proofs.Common.{◌≡◌, ℕ, List, ◌∷◌, ◌++◌, arith, rules, subst, ◌∙◌, ap}
use Rattle.std.proofs.lemmas.Result.{IfOk-weaker}
use Rattle.apd_ops.specs.Table.{Table}
use Rattle.apd_term.specs.Term.{IsTerms, read_all, arity_of}
use Rattle.apd_term.specs.declared.term.Sym.{Sym}
use Rattle.apd_term.specs.declared.term.Sym.TheVariants.{Fun}
use Rattle.apd_write.specs.Pending.{Expects, Opens, leaf_in, with_arguments}
use Rattle.apd_write.specs.declared.pending.PendingFrame.{PendingFrame}
use Rattle.apd_write.proofs.Standing.{leaf_next, compound_next}
use Rattle.apd_write.proofs.terms.write_next.Goals as goal
use Rattle.apd_write.proofs.terms.write_next.Goals.{in_default-via-in-Var-1, in_default-via-in-Fun+else-count-gt0}

pub returns : goal.returns
returns c = λ whole rest terms expects.
    let ops : Table = c.args.ops.now in
    let names : List (List ℕ) = c.args.names.now in
    let here : IsTerms (Fun c.in-Fun.name c.in-Fun.count ∷ rest) = subst (λ (x : Sym). IsTerms (x ∷ rest)) c.in-Fun.is terms in
    let before : Expects ops names whole c.args.frames.now.items c.args.out.now c.args.place (read_all (Fun c.in-Fun.name c.in-Fun.count ∷ rest)) =
    subst (λ (x : Sym). Expects ops names whole c.args.frames.now.items c.args.out.now c.args.place (read_all (x ∷ rest))) c.in-Fun.is expects in
    let pushed : c.push_arguments.new.frames.items ≡ with_arguments c.args.place c.args.frames.now.items = search rules in
    let opens : Opens ops names c.in-Fun.name c.in-Fun.count c.args.place (with_arguments c.args.place c.args.frames.now.items) c.open.new.frames.items c.args.out.now c.open.new.out c.in_ok-open.field-0 =
    subst (λ (fs : List PendingFrame). Opens ops names c.in-Fun.name c.in-Fun.count c.args.place fs c.open.new.frames.items c.args.out.now c.open.new.out c.in_ok-open.field-0) pushed c.in_ok-open.ensures in
    compound_next ops names whole c.args.frames.now.items c.open.new.frames.items c.args.out.now c.open.new.out c.args.place c.in_ok-open.field-0 c.in-Fun.name c.in-Fun.count rest c.if-count-gt0.true here before opens

pub returns-2 : goal.returns-2
returns-2 c =
    let ops : Table = c.args.ops.now in
    let names : List (List ℕ) = c.args.names.now in
    let leaf : arity_of c.args.symbol ≡ 0 = elim c.in_default.branch [ in_default-via-in-Var-1 w ↦ search rules | in_default-via-in-Fun+else-count-gt0 w ↦ ap arity_of w.in-Fun.is ∙ (let h = w.if-count-gt0.false in omega arith) ] in
    let wrote : c.write_leaf.new.out ≡ c.args.out.now ++ leaf_in ops names c.args.place c.args.symbol = search rules in
    IfOk-weaker c.close.result _ _ (λ next closing whole rest terms expects.
    leaf_next ops names whole c.args.frames.now.items c.close.new.frames.items c.args.out.now c.write_leaf.new.out c.close.new.out c.args.place c.args.symbol rest next leaf expects wrote (closing ops)) c.close.ensures
