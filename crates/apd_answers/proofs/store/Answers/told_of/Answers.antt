use Rattle.std.proofs.Common.{◌∙◌, ◌++◌, ap, subst}
use Rattle.apd_term.specs.declared.term.Sym.TheVariants.{Var}
use Rattle.apd_cells.specs.First.{key_of}
use Rattle.apd_answers.specs.Tellers.{IsFirstTold, any_atom, mark_of_atoms, tellers}
use Rattle.apd_answers.proofs.Telling.{decided_by}
use Rattle.apd_answers.proofs.store.Answers.told_of.Goals as goal

pub returns : goal.returns
returns c =
    let ps = c.args.self.now.pairs in
    let a = c.args.atom.now in
    let alike = subst (λ m. IsFirstTold ps a (tellers m ps) c.in_ok-alike.alike) (c.mark_of_atoms.ensures ∙ ap (mark_of_atoms c.args.pred) c.key_of.ensures) c.in_ok-alike.ensures in
    let free = subst (λ m. IsFirstTold ps a (tellers m ps) c.in_ok-free.free) c.mark_of_atoms-2.ensures c.in_ok-free.ensures in
    let both = c.earlier.ensures ps a (tellers (mark_of_atoms c.args.pred (key_of a)) ps) (tellers (mark_of_atoms c.args.pred (Var 0)) ps) alike free in
    let all = c.earlier-2.ensures ps a (tellers (mark_of_atoms c.args.pred (key_of a)) ps ++ tellers (mark_of_atoms c.args.pred (Var 0)) ps) (tellers any_atom ps) both c.in_ok-any.ensures in
    c.reply_in.ensures ∙ decided_by a c.args.pred c.requires.pred c.requires.narrow ps c.earlier-2.result all
